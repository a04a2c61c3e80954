-- the items from the last one that is not looked at yet on are counted
use Rattle.std.proofs.Common.{ℕ, ◌≡◌, ◌≤◌, ◌<◌, ◌+◌, ◌^◌, slice_index, sum_by, take}
use Rattle.un_slots.specs.Counts.{adds, ending, ends_at}
use Rattle.un_slots.specs.Listings.{last_passing, listable}
use Rattle.un_slots.proofs.crowd.add_ending.Given as goal

abbrev pub invariant-loop-last : goal.invariant-loop-last
invariant-loop-last l = record {
  counts : (c : ℕ) → slice_index l.cycles c + sum_by (adds l.r l.high l.w.store.now.sets c) (take l.last l.items)
      ≡ slice_index l.initial.cycles c + sum_by (adds l.r l.high l.w.store.now.sets c) (take l.initial.last l.items);
  small : (c : ℕ) → c ≤ l.high → slice_index l.cycles c + sum_by (adds l.r l.high l.w.store.now.sets c) (take l.last l.items) < 2 ^ 32;
  many : l.many + sum_by (ending l.r l.w.store.now.sets l.high) (take l.last l.items)
      ≡ l.initial.many + sum_by (ending l.r l.w.store.now.sets l.high) (take l.initial.last l.items);
  few : l.many + sum_by (ending l.r l.w.store.now.sets l.high) (take l.last l.items) < 2 ^ 32;
  own : l.last ≡ last_passing l.items (ends_at l.r l.w.store.now.sets l.high) l.last;
  within : l.last ≤ listable l.items l.before;
}

abbrev pub decreases-loop-last : goal.decreases-loop-last
decreases-loop-last l = l.last
