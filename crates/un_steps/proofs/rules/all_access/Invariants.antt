use Rattle.std.proofs.Common.{ℕ, ◌≡◌, ◌<◌, true}
use Rattle.un_domains.specs.Sets.{set_at, has}
use Rattle.un_steps.specs.Rules.{IsAccess}
use Rattle.un_steps.proofs.rules.all_access.Given as goal

abbrev pub invariant-loop-n : goal.invariant-loop-n
invariant-loop-n l = (k : ℕ) → k < l.n → has (set_at l.s.sets l.i.0) k ≡ true → IsAccess k
