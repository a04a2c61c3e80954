-- the items that end before `high` are counted, and the intervals that do have room
use Rattle.std.proofs.Common.{ℕ, ◌≡◌, ◌≤◌, ◌<◌, slice_index, sum_by, true}
use Rattle.un_slots.specs.Crowds.{all_below, counted}
use Rattle.un_slots.specs.Counts.{AreCounts, ended, ends_at, end_fits}
use Rattle.un_slots.specs.Listings.{last_passing, listable}
use Rattle.un_slots.proofs.crowd.ends_fit.Given as goal

abbrev pub invariant-loop-high : goal.invariant-loop-high
invariant-loop-high l = record {
  counts : AreCounts l.r (counted l.items) l.high l.w.store.now.sets l.cycles;
  heads : (c : ℕ) → l.high ≤ c → c < l.horizon → slice_index l.cycles c ≡ last_passing l.items (ends_at l.r l.w.store.now.sets c)
      (listable l.items l.before);
  total : l.total ≡ sum_by (ended l.r l.high l.w.store.now.sets) (counted l.items);
  passed : all_below (end_fits l.r (counted l.items) l.w.store.now.sets) l.high ≡ true;
}
