use Rattle.std.proofs.Common.{arith, ◌<◌, ◌+◌, ◌^◌}
use Rattle.un_lssa.proofs.Operands.{body_below}
use Rattle.un_lssa.proofs.ops.push_body.Goals as goal

pub overflow_add-n : goal.overflow_add-n
overflow_add-n c =
    let l = c.loop-o in
    let below : l.n + 1 < 2 ^ 32 =
    body_below l.n c.args.first l.o-index c.args.source.now c.o-item.result c.in-Some.name c.loop-o-test.true c.o-item.is l.invariant.past
    c.requires c.in-Some.is in
    omega arith
