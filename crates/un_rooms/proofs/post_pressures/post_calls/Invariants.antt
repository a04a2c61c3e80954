use Rattle.std.proofs.Common.{◌≡◌, ◌++◌, drop, map}
use Rattle.un_sites.specs.Pressures.{across_by}
use Rattle.un_sites.specs.Sites.{place_of}
use Rattle.un_rooms.proofs.post_pressures.post_calls.Given as goal

abbrev pub invariant-loop-call : goal.invariant-loop-call
invariant-loop-call l =
    l.props ++ map (across_by l.mask l.arcs l.room (map place_of l.spots)) (map place_of (drop l.call-index l.calls)) ≡
    l.initial.props ++ map (across_by l.mask l.arcs l.room (map place_of l.spots)) (map place_of l.calls)
