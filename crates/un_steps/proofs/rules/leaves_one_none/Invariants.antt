use Rattle.std.proofs.Common.{ℕ, ◌<◌}
use Rattle.un_steps.specs.Found.{operation_of, alternative_of}
use Rattle.un_steps.specs.Rules.{IsAlikeAt}
use Rattle.un_steps.proofs.rules.leaves_one_none.Given as goal

abbrev pub invariant-loop-k : goal.invariant-loop-k
invariant-loop-k l = (j : ℕ) → j < l.k → IsAlikeAt l.m l.s.sets (operation_of l.p) (alternative_of l.a) j → ⊥
