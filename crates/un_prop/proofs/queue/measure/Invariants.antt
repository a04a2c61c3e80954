-- those so far are noted
use Rattle.std.proofs.Common.{◌≡◌, ℕ, ◌<◌, length, get_or}
use Rattle.un_domains.specs.Sets.{set_at}
use Rattle.un_prop.proofs.queue.measure.Given as goal

abbrev pub invariant-loop-i : goal.invariant-loop-i
invariant-loop-i l = (k : ℕ) → k < l.i → get_or l.sizes k 0 ≡ length (set_at l.store.sets k)
