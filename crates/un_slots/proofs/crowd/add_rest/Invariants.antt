-- the items from `from` on and below j are counted
use Rattle.std.proofs.Common.{ℕ, ◌≡◌, ◌+◌, slice_index, sum_by, take}
use Rattle.un_slots.specs.Counts.{adds, ending}
use Rattle.un_slots.proofs.crowd.add_rest.Given as goal

abbrev pub invariant-loop-j : goal.invariant-loop-j
invariant-loop-j l = record {
  counts : (c : ℕ) → slice_index l.cycles c + sum_by (adds l.r l.high l.w.store.now.sets c) (take l.from l.items)
      ≡ slice_index l.initial.cycles c + sum_by (adds l.r l.high l.w.store.now.sets c) (take l.j l.items);
  many : l.many + sum_by (ending l.r l.w.store.now.sets l.high) (take l.from l.items)
      ≡ sum_by (ending l.r l.w.store.now.sets l.high) (take l.j l.items);
}
