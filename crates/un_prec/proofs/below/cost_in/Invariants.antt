-- the cost so far, and the rest
use Rattle.std.proofs.Common.{◌≡◌, ◌≤◌, ◌+◌, ◌-◌, ◌^◌, min, drop}
use Rattle.un_prec.specs.Below.{least_cost}
use Rattle.un_prec.proofs.below.cost_in.Given as goal

abbrev pub invariant-loop-e : goal.invariant-loop-e
invariant-loop-e l = record {
  so_far : min (l.total + least_cost (drop l.e-index l.ends) l.w.store.now.sets) (2 ^ 64 - 1) ≡ min (least_cost l.ends l.w.store.now.sets)
      (2 ^ 64 - 1);
  small : l.total ≤ 2 ^ 64 - 1;
}
