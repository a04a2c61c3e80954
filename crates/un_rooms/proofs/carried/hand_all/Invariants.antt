-- the values of the operations from place j on
use Rattle.std.proofs.Common.{ℕ, ◌≤◌, Bool, List, drop, length, map}
use Rattle.std.specs.List.{list_any}
use Rattle.un_rooms.specs.Marked.{MarksWhere}
use Rattle.un_sites.specs.Crossings.{reads_value, is_carried, handed}
use Rattle.un_sites.specs.Places.{Place}
use Rattle.un_sites.specs.Sites.{place_of}
use Rattle.un_rooms.proofs.carried.hand_all.Given as goal

abbrev pub invariant-loop-j : goal.invariant-loop-j
invariant-loop-j l = record {
  within : l.j ≤ length l.loose;
  is : (in_register : Bool) (behind : List Place)
      → MarksWhere (λ (n : ℕ). list_any (reads_value in_register n) behind) l.initial.marks.items
      → MarksWhere (is_carried in_register behind (handed in_register behind (map place_of (drop l.j l.loose)))) l.marks.items;
}

abbrev pub decreases-loop-j : goal.decreases-loop-j
decreases-loop-j l = l.j
