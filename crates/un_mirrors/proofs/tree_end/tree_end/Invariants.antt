-- so many trees are owed at the place
use Rattle.std.proofs.Common.{◌+◌, ◌-◌, ◌≤◌, length}
use Rattle.un_mirrors.proofs.TreeEnds.{IsOwed}
use Rattle.un_mirrors.proofs.tree_end.tree_end.Given as goal

abbrev pub invariant-loop-owed : goal.invariant-loop-owed
invariant-loop-owed l = record {
  at : IsOwed l.nodes l.from l.to l.owed;
  within : l.to ≤ length l.nodes;
  few : l.owed + l.from ≤ l.to + 1;
  later : l.from + 1 ≤ l.to + l.owed;
}

abbrev pub decreases-loop-owed : goal.decreases-loop-owed
decreases-loop-owed l = length l.nodes - l.to
