-- those so far
use Rattle.std.proofs.Common.{◌-◌, ◌≡◌, ◌≤◌, length}
use Rattle.un_domains.specs.Bits.{members}
use Rattle.un_domains.proofs.scan.count.Given as goal

abbrev pub invariant-loop-at : goal.invariant-loop-at
invariant-loop-at l = record {
  low : l.lo ≤ l.at;
  high : l.at ≤ l.end;
  total : l.total ≡ length (members l.words l.lo l.at);
  small : l.total ≤ l.at;
}

abbrev pub decreases-loop-at : goal.decreases-loop-at
decreases-loop-at l = l.end - l.at
