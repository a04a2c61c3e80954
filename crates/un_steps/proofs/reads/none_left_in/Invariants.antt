use Rattle.std.proofs.Common.{ℕ, ◌≡◌, ◌<◌, true}
use Rattle.un_domains.specs.Sets.{set_at, has}
use Rattle.un_model.specs.Solutions.{InSpace}
use Rattle.un_steps.proofs.reads.none_left_in.Given as goal

abbrev pub invariant-loop-r : goal.invariant-loop-r
invariant-loop-r l = (k : ℕ) → k < l.r → has (set_at l.s.sets l.v.0) k ≡ true → InSpace k l.space → ⊥
