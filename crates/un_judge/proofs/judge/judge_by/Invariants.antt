-- the nodes before were gone over
use Rattle.std.proofs.Common.{drop}
use Rattle.un_judge.specs.Walks.{IsWalk}
use Rattle.un_judge.proofs.judge.judge_by.Given as goal

abbrev pub invariant-loop-node : goal.invariant-loop-node
invariant-loop-node l = IsWalk l.r l.t.nodes.items l.log (drop l.node-index l.t.nodes.items) l.walk
