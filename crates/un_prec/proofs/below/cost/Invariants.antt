-- the cost so far, and the rest
use Rattle.std.proofs.Common.{◌≡◌, ◌≤◌, ◌+◌, ◌-◌, ◌^◌, min, drop}
use Rattle.un_prec.specs.Below.{cost_at}
use Rattle.un_prec.proofs.below.cost.Given as goal

abbrev pub invariant-loop-e : goal.invariant-loop-e
invariant-loop-e l = record {
  so_far : min (l.total + cost_at (drop l.e-index l.ends) l.fixed) (2 ^ 64 - 1) ≡ min (cost_at l.ends l.fixed) (2 ^ 64 - 1);
  small : l.total ≤ 2 ^ 64 - 1;
}
