-- no bit so far
use Rattle.std.proofs.Common.{◌-◌, ◌≡◌, ℕ, ◌<◌, ◌≤◌, false}
use Rattle.un_domains.specs.Bits.{bit}
use Rattle.un_domains.proofs.scan.last_set.Given as goal

abbrev pub invariant-loop-at : goal.invariant-loop-at
invariant-loop-at l = record {
  high : l.at ≤ l.from;
  passed : (i : ℕ) → l.at ≤ i → i < l.from → bit l.words i ≡ false;
}

abbrev pub decreases-loop-at : goal.decreases-loop-at
decreases-loop-at l = l.at - l.lo
