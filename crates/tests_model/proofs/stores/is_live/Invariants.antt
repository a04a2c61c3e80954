-- the variables so far have a value
use Rattle.std.proofs.Common.{ℕ, ◌<◌, length}
use Rattle.un_domains.specs.Sets.{set_at}
use Rattle.tests_model.proofs.stores.is_live.Given as goal

abbrev pub invariant-loop-v : goal.invariant-loop-v
invariant-loop-v l = (k : ℕ) → k < l.v → 0 < length (set_at l.store.sets k)
