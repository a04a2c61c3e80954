-- no variable so far has two values
use Rattle.std.proofs.Common.{ℕ, ◌<◌, ◌≤◌, length}
use Rattle.un_domains.specs.Sets.{set_at}
use Rattle.un_search.proofs.choices.first_open.Given as goal

abbrev pub invariant-loop-v : goal.invariant-loop-v
invariant-loop-v l = (k : ℕ) → k < l.v → length (set_at l.store.sets k) ≤ 1
