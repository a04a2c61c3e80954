use Rattle.std.proofs.Common.{ℕ, ◌<◌}
use Rattle.std.specs.Prelude.{IsSomeAnd, slice_get}
use Rattle.un_steps.specs.Full.{operations_of, IsFullTo}
use Rattle.un_steps.proofs.full.is_full_after.Given as goal

abbrev pub invariant-loop-j : goal.invariant-loop-j
invariant-loop-j l = (k : ℕ) → k < l.j → IsSomeAnd (slice_get (operations_of l.b) k) (IsFullTo l.m l.s.sets (operations_of l.b) l.a) → ⊥
