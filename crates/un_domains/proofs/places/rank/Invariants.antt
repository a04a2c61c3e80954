-- the values below `low` are at most x, and those from `high` on are above it
use Rattle.std.proofs.Common.{◌-◌, ℕ, ◌<◌, ◌≤◌, length, get_or}
use Rattle.un_domains.proofs.places.rank.Given as goal

abbrev pub invariant-loop-low : goal.invariant-loop-low
invariant-loop-low l = record {
  order : l.low ≤ l.high;
  within : l.high ≤ length l.values;
  below : (i : ℕ) → i < l.low → get_or l.values i 0 ≤ l.x;
  above : (i : ℕ) → l.high ≤ i → i < length l.values → l.x < get_or l.values i 0;
}

abbrev pub decreases-loop-low : goal.decreases-loop-low
decreases-loop-low l = l.high - l.low
