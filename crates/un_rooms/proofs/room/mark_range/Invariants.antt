use Rattle.std.proofs.Common.{ℕ, ◌≡◌, ◌<◌, ◌||◌, length, nat_lt, nat_le}
use Rattle.std.specs.Prelude.{◌&&◌}
use Rattle.un_rooms.specs.Marked.{is_marked}
use Rattle.un_rooms.proofs.room.mark_range.Given as goal

abbrev pub invariant-loop-i : goal.invariant-loop-i
invariant-loop-i l = record {
  len : length l.marks ≡ length l.initial.marks;
  is : (r : ℕ) → r < length l.initial.marks → is_marked l.marks r ≡ (is_marked l.initial.marks r || (nat_le l.start r && nat_lt r l.i));
}
