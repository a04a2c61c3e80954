-- the calls so far
use Rattle.std.proofs.Common.{◌≡◌}
use Rattle.un_prop.specs.Going.{Stepped}
use Rattle.un_prop.specs.Places.{each_place}
use Rattle.un_rect.specs.Entries.{entry_cut}
use Rattle.un_rect.specs.Clobber.{call_steps}
use Rattle.un_rect.proofs.clobber.keep_each.Given as goal

abbrev pub invariant-loop-c : goal.invariant-loop-c
invariant-loop-c l = record {
  step : Stepped l.fn.w.vars.now (each_place (entry_cut (call_steps l.mask l.a) l.calls) l.c-index) l.fn.w.store.now l.w.store.now
      l.fn.before l.did;
  same_reference : l.w.store.ghost_name ≡ l.fn.w.store.ghost_name;
  vars : l.w.vars ≡ l.fn.w.vars;
}
