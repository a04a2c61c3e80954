use Rattle.std.proofs.Common.{◌≤◌}
use Rattle.un_model.specs.Cost.{cost_of}
use Rattle.un_model.specs.Solutions.{IsSolution}
use Rattle.un_merges.proofs.guess.repack.Given as goal

abbrev pub invariant-loop-k : goal.invariant-loop-k
invariant-loop-k l = IsSolution l.m l.s × (cost_of l.m l.s ≤ cost_of l.m l.fn.s)
