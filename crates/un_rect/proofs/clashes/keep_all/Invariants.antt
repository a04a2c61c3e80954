-- the rows before place j
use Rattle.std.proofs.Common.{◌≡◌, ◌≢◌}
use Rattle.un_prop.specs.Going.{Stepped}
use Rattle.un_prop.specs.declared.propagator.Pruned.TheVariants.{Failed}
use Rattle.un_rect.specs.Apart.{clash_pair}
use Rattle.un_rect.specs.Extents.{AreExtentsBefore}
use Rattle.un_rect.specs.Pairs.{each_pair}
use Rattle.un_rect.proofs.clashes.keep_all.Given as goal

abbrev pub invariant-loop-j : goal.invariant-loop-j
invariant-loop-j l = record {
  step : Stepped l.fn.w.vars.now (each_pair clash_pair l.temps l.j) l.fn.w.store.now l.w.store.now l.fn.before l.did;
  are : l.did ≢ Failed → AreExtentsBefore l.j l.temps l.w.store.now.sets l.extents;
  same_reference : l.w.store.ghost_name ≡ l.fn.w.store.ghost_name;
  vars : l.w.vars ≡ l.fn.w.vars;
}
