-- the users so far
use Rattle.std.proofs.Common.{◌≡◌}
use Rattle.un_prop.specs.Going.{Stepped}
use Rattle.un_prop.specs.Places.{each_place}
use Rattle.un_rect.specs.Entries.{entry_cut}
use Rattle.un_rect.specs.Clobber.{reader_cut}
use Rattle.un_rect.proofs.clobber.keep_readers.Given as goal

abbrev pub invariant-loop-u : goal.invariant-loop-u
invariant-loop-u l = record {
  step : Stepped l.fn.w.vars.now (each_place (entry_cut (reader_cut l.mask l.a l.c) l.c.behind) l.u-index) l.fn.w.store.now l.w.store.now
      l.fn.before l.did;
  same_reference : l.w.store.ghost_name ≡ l.fn.w.store.ghost_name;
  vars : l.w.vars ≡ l.fn.w.vars;
}
