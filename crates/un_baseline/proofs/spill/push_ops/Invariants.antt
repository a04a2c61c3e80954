use Rattle.std.proofs.Common.{◌≡◌, true, ◌++◌, drop}
use Rattle.un_baseline.specs.Plans.{steps_values}
use Rattle.un_baseline.specs.SpillEverywhere.{purpose_at, steps_of, progress_after}
use Rattle.un_baseline.proofs.spill.push_ops.Given as goal

abbrev pub invariant-loop-k : goal.invariant-loop-k
invariant-loop-k l = record {
  values : l.values ++ steps_values (drop l.k l.block.ops) (steps_of l.e l.block l.s l.p
      (drop l.k l.block.ops)) ≡ l.initial.values ++ steps_values l.block.ops (steps_of l.e l.block l.s l.initial.p l.block.ops);
  progress : progress_after l.e l.block l.s l.p (drop l.k l.block.ops) ≡ progress_after l.e l.block l.s l.initial.p l.block.ops;
  purpose : l.in_row ≡ true → l.purpose ≡ purpose_at l.s.term (drop l.k l.block.ops);
}
