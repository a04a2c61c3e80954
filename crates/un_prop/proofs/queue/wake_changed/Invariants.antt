-- those so far are noted
use Rattle.std.proofs.Common.{◌≡◌, ℕ, ◌<◌, ◌⊎◌, length, get_or, All}
use Rattle.un_base.specs.declared.ids.VarId.{VarId}
use Rattle.un_domains.specs.Sets.{set_at}
use Rattle.un_prop.specs.Queues.{Grows, AllWait}
use Rattle.un_prop.proofs.queue.wake_changed.Given as goal

abbrev pub invariant-loop-v : goal.invariant-loop-v
invariant-loop-v l = record {
  long : length l.sizes.words ≡ length l.initial.sizes.words;
  marked : l.sizes.marked ≡ l.initial.sizes.marked;
  flags : length l.waiting ≡ length l.initial.waiting;
  noted : (k : ℕ) (d : VarId) → k < l.v-index → get_or l.sizes.words (get_or l.vars k d).0 0 ≡ length (set_at l.store.sets (get_or
      l.vars k d).0);
  others : (w : ℕ) → All (λ v. (w ≡ v.0) → ⊥) l.vars → get_or l.sizes.words w 0 ≡ get_or l.initial.sizes.words w 0;
  woken : (w : ℕ) → (get_or l.sizes.words w 0 ≡ get_or l.initial.sizes.words w 0) ⊎ AllWait l.table l.waiting w;
  grows : Grows l.initial.waiting l.waiting;
}
