use Rattle.std.proofs.Common.{ℕ, ◌<◌}
use Rattle.std.specs.Prelude.{IsSomeAnd, slice_get}
use Rattle.un_steps.specs.Full.{operations_of}
use Rattle.un_steps.specs.Words.{Operation, IsVar, time_of}
use Rattle.un_steps.proofs.full.is_time.Given as goal

abbrev pub invariant-loop-i : goal.invariant-loop-i
invariant-loop-i l = (j : ℕ) → j < l.i → IsSomeAnd (slice_get (operations_of l.b) j) (λ (p : Operation). IsVar (time_of p) l.v.0) → ⊥
