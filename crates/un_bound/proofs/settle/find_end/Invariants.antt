use Rattle.std.proofs.Common.{ℕ, ◌-◌, ◌≤◌}
use Rattle.un_bound.specs.Choices.{MayStop}
use Rattle.un_bound.proofs.settle.find_end.Given as goal

abbrev pub invariant-loop-end : goal.invariant-loop-end
invariant-loop-end l = record {
  from : l.low ≤ l.at;
  passed : (n : ℕ) → MayStop l.b.store.now.sets l.b.end l.b.ops.now l.b.vars.now n → l.low ≤ n → l.at ≤ n;
}

abbrev pub decreases-loop-end : goal.decreases-loop-end
decreases-loop-end l = 4294967296 - l.at
