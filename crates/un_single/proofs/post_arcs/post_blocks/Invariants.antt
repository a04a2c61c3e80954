use Rattle.std.proofs.Common.{◌≡◌, ◌++◌, drop, map}
use Rattle.un_model.specs.Pairs.{joined}
use Rattle.un_sites.specs.Befores.{befores_in}
use Rattle.un_sites.specs.Sites.{place_of}
use Rattle.un_single.proofs.post_arcs.post_blocks.Given as goal

abbrev pub invariant-loop-arcs : goal.invariant-loop-arcs
invariant-loop-arcs l = l.props ++ joined (map (befores_in (map place_of l.spots)) (drop l.arcs-index l.blocks)) ≡ l.initial.props ++ joined
    (map (befores_in (map place_of l.spots)) l.blocks)
