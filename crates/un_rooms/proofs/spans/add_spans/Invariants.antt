use Rattle.std.proofs.Common.{◌≡◌, ◌++◌, drop, map}
use Rattle.un_sites.specs.Pressures.{span_of, own_spans}
use Rattle.un_sites.specs.Sites.{place_of}
use Rattle.un_rooms.proofs.spans.add_spans.Given as goal

abbrev pub invariant-loop-t : goal.invariant-loop-t
invariant-loop-t l = l.values ++ map (span_of (map place_of l.spots) (place_of l.p)) (drop l.t-index l.p.it.now.results) ≡
    l.initial.values ++ own_spans (map place_of l.spots) (place_of l.p)
