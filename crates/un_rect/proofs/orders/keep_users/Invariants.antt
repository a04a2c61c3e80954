-- the users so far
use Rattle.std.proofs.Common.{◌≡◌}
use Rattle.un_prop.specs.Going.{Stepped}
use Rattle.un_rect.specs.Orders.{users_cut}
use Rattle.un_rect.proofs.orders.keep_users.Given as goal

abbrev pub invariant-loop-u : goal.invariant-loop-u
invariant-loop-u l = record {
  step : Stepped l.fn.w.vars.now (users_cut l.b l.users l.u-index) l.fn.w.store.now l.w.store.now l.fn.before l.did;
  same_reference : l.w.store.ghost_name ≡ l.fn.w.store.ghost_name;
  vars : l.w.vars ≡ l.fn.w.vars;
}
