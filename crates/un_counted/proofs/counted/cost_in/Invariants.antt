-- the cost so far, and the rest
use Rattle.std.proofs.Common.{◌≡◌, ◌≤◌, ◌+◌, ◌-◌, ◌^◌, min, drop}
use Rattle.un_counted.specs.Counted.{lowest, cost_of}
use Rattle.un_counted.proofs.counted.cost_in.Given as goal

abbrev pub invariant-loop-e : goal.invariant-loop-e
invariant-loop-e l = record {
  so_far : min (l.total + cost_of (drop l.e-index l.row) (lowest l.w.store.now.sets)) (2 ^ 64 - 1) ≡ min
      (cost_of l.row (lowest l.w.store.now.sets)) (2 ^ 64 - 1);
  small : l.total ≤ 2 ^ 64 - 1;
}
