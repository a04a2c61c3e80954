use Rattle.std.proofs.Common.{◌≡◌, ◌++◌, drop, map}
use Rattle.std.specs.Prelude.{◌||◌, ◌&&◌, not, filter}
use Rattle.un_sites.specs.Places.{Place}
use Rattle.un_rooms.specs.Reach.{mark_at}
use Rattle.un_ir.specs.Kinds.{is_source}
use Rattle.un_ir.specs.Linear.{is_in}
use Rattle.un_sites.specs.Sites.{place_of}
use Rattle.un_rooms.proofs.alive.free_by.Given as goal

abbrev pub invariant-loop-p : goal.invariant-loop-p
invariant-loop-p l =
    map place_of l.found ++ filter (λ (p : Place). is_source p.it.kind && not (is_in p.it.kind || mark_at l.low l.marks p.op))
    (map place_of (drop l.p-index l.spots))
    ≡ filter (λ (p : Place). is_source p.it.kind && not (is_in p.it.kind || mark_at l.low l.marks p.op)) (map place_of l.spots)
