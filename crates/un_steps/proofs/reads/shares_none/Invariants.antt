use Rattle.std.proofs.Common.{ℕ, ◌≡◌, ◌<◌, true}
use Rattle.un_domains.specs.Sets.{set_at, has}
use Rattle.un_steps.specs.Words.{regs}
use Rattle.un_steps.proofs.reads.shares_none.Given as goal

abbrev pub invariant-loop-r : goal.invariant-loop-r
invariant-loop-r l = (k : ℕ) → k < l.r → has (set_at l.s.sets l.v.0) k ≡ true → has (regs l.m l.s.sets l.z) k ≡ true → ⊥
