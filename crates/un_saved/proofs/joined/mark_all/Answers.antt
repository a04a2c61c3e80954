use Rattle.std.proofs.Common.{arith}
use Rattle.un_saved.proofs.Joining.{round_on, rounds_done}
use Rattle.un_saved.proofs.joined.mark_all.Goals as goal

pub loop-preserved : goal.loop-preserved
loop-preserved c =
    round_on c.args.rounds c.loop.counter c.args.links.now c.loop.m c.mark_on.new.m _ (omega (arith, c.loop-test.true)) c.loop.invariant
    c.mark_on.ensures

pub returns : goal.returns
returns c =
    rounds_done c.args.rounds c.loop.counter c.args.links.now c.loop.m _ (omega (arith, c.loop-test.false)) c.loop.invariant
