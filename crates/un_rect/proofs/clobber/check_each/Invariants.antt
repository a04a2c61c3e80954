-- the calls so far
use Rattle.std.proofs.Common.{◌≡◌}
use Rattle.un_prop.specs.Going.{Stepped}
use Rattle.un_prop.specs.Places.{each_place}
use Rattle.un_rect.specs.Entries.{entry_cut}
use Rattle.un_rect.specs.Clobber.{check_call}
use Rattle.un_rect.proofs.clobber.check_each.Given as goal

abbrev pub invariant-loop-call : goal.invariant-loop-call
invariant-loop-call l = record {
  step : Stepped l.fn.w.vars.now (each_place (entry_cut (check_call l.p.vars l.p.mask l.p.temp) l.p.calls) l.call-index) l.fn.w.store.now
      l.w.store.now l.fn.before l.did;
  same_reference : l.w.store.ghost_name ≡ l.fn.w.store.ghost_name;
  vars : l.w.vars ≡ l.fn.w.vars;
}
