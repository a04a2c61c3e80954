use Rattle.std.proofs.Common.{ℕ, ◌≡◌, ◌<◌, ◌||◌, length, drop}
use Rattle.un_domains.specs.Sets.{has}
use Rattle.un_rooms.specs.Marked.{is_marked}
use Rattle.un_rooms.proofs.room.mark_each.Given as goal

-- those of the values behind remain
abbrev pub invariant-loop-v : goal.invariant-loop-v
invariant-loop-v l = record {
  len : length l.marks ≡ length l.initial.marks;
  is : (r : ℕ) → r < length l.initial.marks
      → (is_marked l.marks r || has (drop l.v-index l.values) r) ≡ (is_marked l.initial.marks r || has l.values r);
}
