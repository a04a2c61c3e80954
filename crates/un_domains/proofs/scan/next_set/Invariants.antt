-- no bit so far
use Rattle.std.proofs.Common.{◌-◌, ◌≡◌, ℕ, ◌<◌, ◌≤◌, false}
use Rattle.un_domains.specs.Bits.{bit}
use Rattle.un_domains.proofs.scan.next_set.Given as goal

abbrev pub invariant-loop-at : goal.invariant-loop-at
invariant-loop-at l = record {
  low : l.from ≤ l.at;
  passed : (i : ℕ) → l.from ≤ i → i < l.at → bit l.words i ≡ false;
}

abbrev pub decreases-loop-at : goal.decreases-loop-at
decreases-loop-at l = l.end - l.at
