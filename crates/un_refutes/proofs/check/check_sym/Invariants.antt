-- the nodes before were looked at
use Rattle.std.proofs.Common.{drop}
use Rattle.un_stand.specs.Rooms.{IsAt}
use Rattle.un_refutes.specs.SymWalks.{IsWalk}
use Rattle.un_refutes.proofs.check.check_sym.Given as goal

abbrev pub invariant-loop-node : goal.invariant-loop-node
invariant-loop-node l = record {
  at : IsAt l.rules.m.now l.rules.limit l.walk.room;
  walk : IsWalk l.rules.m.now l.rules.limit l.t.nodes.items (drop l.node-index l.t.nodes.items) l.walk;
}
