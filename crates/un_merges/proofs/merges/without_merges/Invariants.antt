use Rattle.std.proofs.Common.{◌≤◌, sum}
use Rattle.un_model.specs.Cost.{cost_of}
use Rattle.un_model.specs.Solutions.{IsSolution}
use Rattle.un_merges.proofs.merges.without_merges.Given as goal

abbrev pub invariant-loop-best : goal.invariant-loop-best
invariant-loop-best l = IsSolution l.m l.best × (cost_of l.m l.best ≤ cost_of l.m l.fn.s)

abbrev pub decreases-loop-best : goal.decreases-loop-best
decreases-loop-best l = sum l.best.values
