-- the items below j are listed
use Rattle.std.proofs.Common.{◌≡◌, length}
use Rattle.un_slots.specs.Loads.{settled_at}
use Rattle.un_slots.specs.Listings.{Listed}
use Rattle.un_slots.proofs.listing.list.Given as goal

abbrev pub invariant-loop-j : goal.invariant-loop-j
invariant-loop-j l = record {
  listed : Listed l.items l.horizon l.j (settled_at l.w.store.now.sets) l.scratch.cycles.items l.scratch.fixed.items;
  fixed : length l.scratch.fixed.items ≡ length l.fn.scratch.fixed.items;
  cycles : length l.scratch.cycles.items ≡ length l.fn.scratch.cycles.items;
}
