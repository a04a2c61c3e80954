use Rattle.std.proofs.Common.{arith}
use Rattle.un_steps.specs.Full.{operations_of}
use Rattle.un_steps.proofs.Shares.{taken_step, taken_all}
use Rattle.un_steps.proofs.full.taken.Goals as goal

pub loop-i-preserved : goal.loop-i-preserved
loop-i-preserved c =
    let n = c.count-i-end.ensures in let t = c.loop-i-test.true in
    let so = c.loop-i.invariant.so_far in let low = c.loop-i.invariant.small in
    let v = c.takes_at.ensures.value in let few = c.takes_at.ensures.few in
    let step = taken_step c.args.m.now c.args.s.now.sets c.args.r c.args.a c.args.n (operations_of c.args.b.now) c.loop-i.i
    (omega (arith, n, t)) in
    record { so_far = omega (arith, so, v, step); small = omega (arith, low, few) }

pub returns : goal.returns
returns c =
    let n = c.count-i-end.ensures in let t = c.loop-i-test.false in
    let so = c.loop-i.invariant.so_far in
    let all = taken_all c.args.m.now c.args.s.now.sets c.args.r c.args.a c.args.n (operations_of c.args.b.now) c.loop-i.i
    (omega (arith, n, t)) in
    omega (arith, so, all)
