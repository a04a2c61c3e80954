use Rattle.std.proofs.Common.{ℕ, ◌<◌}
use Rattle.std.specs.Prelude.{IsSomeAnd, slice_get}
use Rattle.un_steps.specs.Full.{operations_of, IsFullFrom}
use Rattle.un_steps.proofs.full.is_full.Given as goal

abbrev pub invariant-loop-i : goal.invariant-loop-i
invariant-loop-i l = (k : ℕ) → k < l.i → IsSomeAnd (slice_get (operations_of l.b) k) (IsFullFrom l.m l.s.sets (operations_of l.b)) → ⊥
