use Rattle.std.proofs.Common.{ℕ, ◌≡◌, ◌<◌, true}
use Rattle.un_domains.specs.Sets.{set_at, has}
use Rattle.un_model.specs.Solutions.{InSpace}
use Rattle.un_steps.proofs.rules.is_one.Given as goal

abbrev pub invariant-loop-q : goal.invariant-loop-q
invariant-loop-q l = (k : ℕ) → k < l.q → has (set_at l.s.sets l.v.0) k ≡ true → InSpace k l.space → l.r ≡ k
