-- the registers so far
use Rattle.std.proofs.Common.{◌≡◌}
use Rattle.un_prop.specs.Going.{Stepped}
use Rattle.un_prop.specs.Places.{each_place}
use Rattle.un_rect.specs.Entries.{entry_cut}
use Rattle.un_rect.specs.Operands.{other_cut}
use Rattle.un_rect.specs.Sides.{side_of}
use Rattle.un_rect.proofs.operands.keep_others.Given as goal

abbrev pub invariant-loop-r : goal.invariant-loop-r
invariant-loop-r l = record {
  step : Stepped l.fn.w.vars.now (each_place (entry_cut (other_cut (side_of l.other) l.v) l.r-items) l.r-index) l.fn.w.store.now
      l.w.store.now l.fn.before l.did;
  same_reference : l.w.store.ghost_name ≡ l.fn.w.store.ghost_name;
  vars : l.w.vars ≡ l.fn.w.vars;
}
