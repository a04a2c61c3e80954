-- the nodes before were looked at
use Rattle.std.proofs.Common.{drop}
use Rattle.un_check.specs.Judging.{HasScratch}
use Rattle.un_check.specs.Walks.{IsPositionAt, IsWalk}
use Rattle.un_check.proofs.tree.visit_nodes.Given as goal

abbrev pub invariant-loop-i : goal.invariant-loop-i
invariant-loop-i l = record {
  at : IsPositionAt l.rules.m.now l.rules.limit l.walk.at;
  room : HasScratch l.rules.m.now l.walk.scratch;
  walk : IsWalk l.rules.m.now l.rules.limit l.nodes (drop l.i l.nodes) l.walk;
}
