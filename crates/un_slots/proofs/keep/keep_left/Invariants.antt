-- the cycles below c are kept where they are left
use Rattle.std.proofs.Common.{◌≡◌, ◌||◌, nat_le}
use Rattle.un_domains.specs.Sets.{cut_by}
use Rattle.un_prop.specs.Pruning.{IsPrune}
use Rattle.un_slots.specs.Listings.{is_left}
use Rattle.un_slots.proofs.keep.keep_left.Given as goal

abbrev pub invariant-loop-c : goal.invariant-loop-c
invariant-loop-c l = record {
  prune : IsPrune l.fn.w.vars.now (cut_by (λ z. nat_le l.c z || is_left l.marks l.horizon z) l.v.0 l.fn.w.store.now.sets) l.fn.w.store.now
      l.w.store.now l.did;
  same_reference : l.w.store.ghost_name ≡ l.fn.w.store.ghost_name;
  vars : l.w.vars ≡ l.fn.w.vars;
}
