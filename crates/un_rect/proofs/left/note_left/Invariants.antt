-- those before place i are noted
use Rattle.std.proofs.Common.{ℕ, ◌≡◌, ◌<◌, length, get_or}
use Rattle.un_prop.specs.declared.act.Temp.{Temp}
use Rattle.un_rect.specs.Extents.{left_of}
use Rattle.un_rect.specs.declared.left.Left.{Left}
use Rattle.un_rect.proofs.left.note_left.Given as goal

abbrev pub invariant-loop-i : goal.invariant-loop-i
invariant-loop-i l = (k : ℕ) (a : Temp) (x : Left) → k < l.i → k < length l.temps → k < length l.left
    → get_or l.left k x ≡ left_of (get_or l.temps k a) l.w.store.now.sets
