use Rattle.std.proofs.Common.{ℕ, ◌<◌}
use Rattle.un_steps.specs.Found.{operation_of, alternative_of}
use Rattle.un_steps.specs.Rules.{IsTakenElsewhere}
use Rattle.un_steps.proofs.rules.is_taken_elsewhere.Given as goal

abbrev pub invariant-loop-j : goal.invariant-loop-j
invariant-loop-j l = (i : ℕ) → i < l.j → IsTakenElsewhere l.m l.s.sets (operation_of l.p) (alternative_of l.a) l.b i → ⊥
