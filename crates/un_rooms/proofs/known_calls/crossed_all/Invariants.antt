-- those that are added, and those of the rest
use Rattle.std.proofs.Common.{◌≡◌, ◌++◌, drop, map}
use Rattle.un_rows.specs.Rows.{crossed_by}
use Rattle.un_sites.specs.Sites.{place_of}
use Rattle.un_rooms.proofs.known_calls.crossed_all.Given as goal

abbrev pub invariant-loop-call : goal.invariant-loop-call
invariant-loop-call l =
    l.crossed ++ map (crossed_by l.arcs l.block l.ops (map place_of l.spots)) (map place_of (drop l.call-index l.calls))
    ≡ map (crossed_by l.arcs l.block l.ops (map place_of l.spots)) (map place_of l.calls)
