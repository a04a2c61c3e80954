-- the values before y are taken
use Rattle.std.proofs.Common.{◌≡◌, ◌<◌, ◌≤◌}
use Rattle.un_judge.proofs.Takings.{taken_to}
use Rattle.un_judge.proofs.leaf.take.Given as goal

abbrev pub invariant-loop-y : goal.invariant-loop-y
invariant-loop-y l = record {
  sets : l.cuts.sets ≡ taken_to l.fn.cuts.sets l.step.var.0 l.step.first l.y;
  marked : l.cuts.marked ≡ l.fn.cuts.marked;
  far : l.step.first < l.y → l.y ≤ l.last;
}
