-- the cycles below c are marked as they are to be, and those from c on are as they were
use Rattle.std.proofs.Common.{ℕ, ◌≡◌, ◌<◌, ◌≤◌, true, false, length, slice_index}
use Rattle.un_domains.specs.Sets.{set_at, has}
use Rattle.un_slots.specs.Loads.{others, can_issue}
use Rattle.un_slots.specs.Listings.{is_unmarked}
use Rattle.un_slots.proofs.issue.mark.Given as goal

abbrev pub invariant-loop-c : goal.invariant-loop-c
invariant-loop-c l = record {
  marked : (e : ℕ) → e < l.c → has (set_at l.w.store.now.sets l.item.at.0) e ≡ true → is_unmarked l.scratch.cycles.items e ≡ can_issue
      (others l.k l.items) l.item l.w.store.now.sets e;
  rest : (e : ℕ) → l.c ≤ e → slice_index l.scratch.cycles.items e ≡ slice_index l.fn.scratch.cycles.items e;
  none : l.any ≡ false → (e : ℕ) → e < l.c → has (set_at l.w.store.now.sets l.item.at.0) e ≡ true → can_issue (others l.k l.items) l.item
      l.w.store.now.sets e ≡ true;
  same : l.any ≡ false → l.scratch.cycles.items ≡ l.fn.scratch.cycles.items;
  early : l.any ≡ false → l.high < l.horizon;
  fixed : l.scratch.fixed.items ≡ l.fn.scratch.fixed.items;
  cycles : length l.scratch.cycles.items ≡ length l.fn.scratch.cycles.items;
}
