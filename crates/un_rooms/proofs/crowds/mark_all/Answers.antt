use Rattle.std.proofs.Common.{arith}
use Rattle.un_rooms.proofs.Saving.{round_on, rounds_done}
use Rattle.un_rooms.proofs.crowds.mark_all.Goals as goal

pub loop-preserved : goal.loop-preserved
loop-preserved c =
    round_on c.args.rounds c.loop.counter c.args.keeping.now c.args.edges.now c.loop.marks c.mark_on.new.marks _
    (omega (arith, c.loop-test.true)) c.loop.invariant c.mark_on.ensures

pub returns : goal.returns
returns c =
    rounds_done c.args.rounds c.loop.counter c.args.keeping.now c.args.edges.now c.loop.marks _ (omega (arith, c.loop-test.false))
    c.loop.invariant
