use Rattle.std.proofs.Common.{◌≡◌, ◌++◌, drop, map}
use Rattle.un_sites.specs.Befores.{arc_before}
use Rattle.un_sites.specs.Sites.{place_of}
use Rattle.un_single.proofs.post_arcs.post_arcs_in.Given as goal

abbrev pub invariant-loop-arc : goal.invariant-loop-arc
invariant-loop-arc l = l.props ++ map (arc_before (map place_of l.spots)) (drop l.arc-index l.arcs) ≡ l.initial.props ++ map
    (arc_before (map place_of l.spots)) l.arcs
