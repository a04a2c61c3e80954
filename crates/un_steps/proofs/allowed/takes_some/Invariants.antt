use Rattle.std.proofs.Common.{ℕ, ◌≡◌, ◌≤◌, ◌<◌, true}
use Rattle.un_domains.specs.Sets.{set_at, has}
use Rattle.un_steps.proofs.allowed.takes_some.Given as goal

abbrev pub invariant-loop-y : goal.invariant-loop-y
invariant-loop-y l = (k : ℕ) → l.step.first ≤ k → k < l.y → has (set_at l.s.sets l.step.var.0) k ≡ true → ⊥
