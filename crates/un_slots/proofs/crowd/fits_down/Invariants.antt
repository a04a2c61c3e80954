-- the intervals from c or later on have room
use Rattle.std.proofs.Common.{ℕ, ◌≡◌, ◌<◌, ◌≤◌, ◌+◌, ◌-◌, ◌*◌, slice_index}
use Rattle.un_slots.specs.Counts.{sum_from}
use Rattle.un_slots.proofs.crowd.fits_down.Given as goal

abbrev pub invariant-loop-c : goal.invariant-loop-c
invariant-loop-c l = record {
  within : l.c ≤ l.high + 1;
  crowd : l.crowd ≡ sum_from (slice_index l.cycles) l.c (l.high + 1 - l.c);
  room : l.room ≡ l.places * (l.high + 1 - l.c);
  small : l.crowd ≤ (l.high + 1 - l.c) * 4294967295;
  few : l.room ≤ (l.high + 1 - l.c) * 4294967295;
  passed : (low : ℕ) → l.c ≤ low → low < l.high + 1 → sum_from (slice_index l.cycles) low (l.high + 1 - low) ≤
      l.places * (l.high + 1 - low);
}

abbrev pub decreases-loop-c : goal.decreases-loop-c
decreases-loop-c l = l.c
