use Rattle.std.proofs.Common.{◌≡◌, ◌++◌, drop, map}
use Rattle.un_rooms.specs.Waits.{befores_by}
use Rattle.un_sites.specs.Befores.{befores_in}
use Rattle.un_sites.specs.Sites.{place_of}
use Rattle.un_rooms.proofs.post_lengths.add_arc_waits.Given as goal

abbrev pub invariant-loop-arc : goal.invariant-loop-arc
invariant-loop-arc l = befores_by l.waits ++ befores_in (map place_of l.spots) (drop l.arc-index l.arcs) ≡
    befores_by l.initial.waits ++ befores_in (map place_of l.spots) l.arcs
