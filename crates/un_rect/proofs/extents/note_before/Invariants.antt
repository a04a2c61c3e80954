-- the extents before place i are noted
use Rattle.std.proofs.Common.{ℕ, ◌≡◌, ◌<◌, length, get_or}
use Rattle.un_prop.specs.declared.act.Temp.{Temp}
use Rattle.un_rect.specs.Extents.{extent_of}
use Rattle.un_rect.specs.declared.extents.Extent.{Extent}
use Rattle.un_rect.proofs.extents.note_before.Given as goal

abbrev pub invariant-loop-i : goal.invariant-loop-i
invariant-loop-i l = (k : ℕ) (a : Temp) (x : Extent) → k < l.i → k < length l.temps → k < length l.extents
    → get_or l.extents k x ≡ extent_of (get_or l.temps k a) l.w.store.now.sets
