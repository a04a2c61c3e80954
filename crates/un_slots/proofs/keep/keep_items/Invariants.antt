-- the items below k
use Rattle.std.proofs.Common.{◌≡◌, ◌≢◌, length}
use Rattle.un_prop.specs.Going.{Stepped}
use Rattle.un_prop.specs.Places.{each_place}
use Rattle.un_prop.specs.declared.propagator.Pruned.TheVariants.{Same, Failed}
use Rattle.un_slots.specs.Loads.{settled_at, slot_cut}
use Rattle.un_slots.specs.Listings.{Listed, listable}
use Rattle.un_slots.proofs.keep.keep_items.Given as goal

abbrev pub invariant-loop-k : goal.invariant-loop-k
invariant-loop-k l = record {
  step : Stepped l.fn.w.vars.now (each_place (slot_cut l.items l.horizon) l.k) l.fn.w.store.now l.w.store.now Same l.did;
  listed : l.did ≢ Failed → Listed l.items l.horizon (listable l.items l.scratch.fixed.items) (settled_at l.w.store.now.sets)
      l.scratch.cycles.items
      l.scratch.fixed.items;
  fixed : length l.scratch.fixed.items ≡ length l.fn.scratch.fixed.items;
  cycles : length l.scratch.cycles.items ≡ length l.fn.scratch.cycles.items;
  same_reference : l.w.store.ghost_name ≡ l.fn.w.store.ghost_name;
  vars : l.w.vars ≡ l.fn.w.vars;
}
