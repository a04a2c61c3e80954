use Rattle.std.proofs.Common.{arith}
use Rattle.un_rooms.proofs.TaskPlaces.{added_lead}
use Rattle.un_rooms.proofs.tasks.precedences_by.Goals as goal

pub returns-clause-lead : goal.returns-clause-lead
returns-clause-lead c = added_lead c.args.ops.now c.args.waits.now c.loop-wait.wait-index c.loop-wait.arcs c.loop-wait.invariant
    (omega arith)
