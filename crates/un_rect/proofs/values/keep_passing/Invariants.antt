-- the values below y that do not pass are gone
use Rattle.std.proofs.Common.{◌≡◌, ◌||◌, nat_le}
use Rattle.un_domains.specs.Sets.{cut_by}
use Rattle.un_prop.specs.Going.{Stepped}
use Rattle.un_rect.proofs.values.keep_passing.Given as goal

abbrev pub invariant-loop-y : goal.invariant-loop-y
invariant-loop-y g l = record {
  step : Stepped l.fn.w.vars.now (cut_by (λ z. nat_le l.y z || g.T.ValueTest.lets l.t z) l.v.0) l.fn.w.store.now l.w.store.now
      l.fn.before l.did;
  same_reference : l.w.store.ghost_name ≡ l.fn.w.store.ghost_name;
  vars : l.w.vars ≡ l.fn.w.vars;
}
