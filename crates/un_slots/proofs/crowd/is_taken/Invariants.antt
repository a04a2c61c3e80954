-- those so far take none for sure
use Rattle.std.proofs.Common.{◌≡◌, drop}
use Rattle.std.specs.List.{list_any}
use Rattle.un_slots.specs.Crowds.{surely_takes}
use Rattle.un_slots.proofs.crowd.is_taken.Given as goal

abbrev pub invariant-loop-item : goal.invariant-loop-item
invariant-loop-item l = list_any (surely_takes l.r l.w.store.now.sets) (drop l.item-index l.items) ≡ list_any
    (surely_takes l.r l.w.store.now.sets) l.items
