-- the cycles from `last` on have no settled item
use Rattle.std.proofs.Common.{ℕ, ◌≡◌, ◌≤◌, ◌<◌, slice_index}
use Rattle.un_slots.proofs.issue.last_taken.Given as goal

abbrev pub invariant-loop-last : goal.invariant-loop-last
invariant-loop-last l = record {
  within : l.last ≤ l.end;
  idle : (c : ℕ) → l.last ≤ c → c < l.end → slice_index l.cycles c ≡ 0;
}

abbrev pub decreases-loop-last : goal.decreases-loop-last
decreases-loop-last l = l.last
