-- what is taken so far, and by the items before the next that is settled here
use Rattle.std.proofs.Common.{◌≡◌, ◌≤◌, ◌+◌, ◌-◌, ◌^◌, take, min}
use Rattle.un_isa.specs.declared.packet_counts.Resource.{Resource}
use Rattle.un_slots.specs.Loads.{settled_at, load}
use Rattle.un_slots.specs.Amounts.{amount}
use Rattle.un_slots.specs.Listings.{last_passing, listable}
use Rattle.un_slots.proofs.listing.load_at.Given as goal

abbrev pub invariant-loop-last : goal.invariant-loop-last
invariant-loop-last l = record {
  so_far : (r : Resource) → min (amount r l.load + load r (take l.last l.items) l.w.store.now.sets l.c) (2 ^ 32 - 1) ≡ min
      (load r l.items l.w.store.now.sets l.c) (2 ^ 32 - 1);
  own : l.last ≡ last_passing l.items (settled_at l.w.store.now.sets l.c) l.last;
  within : l.last ≤ listable l.items l.before;
}

abbrev pub decreases-loop-last : goal.decreases-loop-last
decreases-loop-last l = l.last
