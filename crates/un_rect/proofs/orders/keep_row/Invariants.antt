-- the temporaries before place i
use Rattle.std.proofs.Common.{◌≡◌, ◌≤◌, ◌-◌}
use Rattle.un_prop.specs.Going.{Stepped}
use Rattle.un_prop.specs.declared.propagator.Pruned.TheVariants.{Same}
use Rattle.un_rect.specs.Orders.{order_pair}
use Rattle.un_rect.specs.Pairs.{each_before}
use Rattle.un_rect.proofs.orders.keep_row.Given as goal

abbrev pub invariant-loop-i : goal.invariant-loop-i
invariant-loop-i l = record {
  within : l.i ≤ l.j;
  step : Stepped l.fn.w.vars.now (each_before order_pair l.temps l.b l.i) l.fn.w.store.now l.w.store.now Same l.did;
  same_reference : l.w.store.ghost_name ≡ l.fn.w.store.ghost_name;
  vars : l.w.vars ≡ l.fn.w.vars;
}

abbrev pub decreases-loop-i : goal.decreases-loop-i
decreases-loop-i l = l.j - l.i
