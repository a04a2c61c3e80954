-- the lines of the nodes before were written
use Rattle.std.proofs.Common.{drop}
use Rattle.un_logs.specs.Walks.{IsWalk}
use Rattle.un_logs.proofs.log.log_by.Given as goal

abbrev pub invariant-loop-node : goal.invariant-loop-node
invariant-loop-node l = IsWalk l.r l.t.nodes.items (drop l.node-index l.t.nodes.items) l.walk
