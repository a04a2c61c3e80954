use Rattle.std.proofs.Common.{ℕ, ◌≡◌, ◌≤◌, ◌<◌, false}
use Rattle.un_domains.specs.Sets.{set_at, has}
use Rattle.un_steps.proofs.look.least_positive.Given as goal

abbrev pub invariant-loop-y : goal.invariant-loop-y
invariant-loop-y l = (k : ℕ) → 1 ≤ k → k < l.y → has (set_at l.s.sets l.v.0) k ≡ false
