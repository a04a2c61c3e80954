use Rattle.std.proofs.Common.{ℕ, ◌+◌, ◌-◌, ◌≤◌}
use Rattle.un_bound.specs.Relaxations.{IsValue}
use Rattle.un_bound.proofs.settle.next.Given as goal

abbrev pub invariant-loop-x : goal.invariant-loop-x
invariant-loop-x l = record {
  from : l.at ≤ l.x;
  passed : (n : ℕ) → IsValue l.store.sets l.v n → l.at ≤ n → l.x ≤ n;
}

abbrev pub decreases-loop-x : goal.decreases-loop-x
decreases-loop-x l = (l.max + 1) - l.x
