use Rattle.std.proofs.Common.{ℕ, ◌≡◌, ◌||◌, drop, map}
use Rattle.std.specs.List.{list_any}
use Rattle.un_rooms.specs.Marked.{is_marked}
use Rattle.un_sites.specs.Crossings.{reads_value}
use Rattle.un_sites.specs.Sites.{place_of}
use Rattle.un_rooms.proofs.carried.reads_of.Given as goal

-- those of the operations behind remain
abbrev pub invariant-loop-p : goal.invariant-loop-p
invariant-loop-p l = (n : ℕ)
    → (is_marked l.marks.items n || list_any (reads_value l.in_register n) (map place_of (drop l.p-index l.behind)))
    ≡ list_any (reads_value l.in_register n) (map place_of l.behind)
