use Rattle.std.proofs.Common.{◌≡◌, ◌++◌, drop, map}
use Rattle.un_model.specs.Pairs.{joined}
use Rattle.un_sites.specs.Pressures.{own_spans, spans_in}
use Rattle.un_sites.specs.Sites.{place_of}
use Rattle.un_rooms.proofs.spans.spans_in.Given as goal

abbrev pub invariant-loop-p : goal.invariant-loop-p
invariant-loop-p l =
    l.values ++ joined (map (own_spans (map place_of l.spots)) (map place_of (drop l.p-index l.spots))) ≡ spans_in (map place_of l.spots)
