use Rattle.std.proofs.Common.{◌≡◌, ◌++◌, drop, map}
use Rattle.un_model.specs.Pairs.{joined}
use Rattle.un_sites.specs.Postings.{of_place}
use Rattle.un_sites.specs.Sites.{place_of, definers_in}
use Rattle.un_single.proofs.post_places.post_places.Given as goal

abbrev pub invariant-loop-p : goal.invariant-loop-p
invariant-loop-p l = l.props ++ joined (map (of_place l.t l.slots (definers_in l.sites)) (map place_of (drop l.p-index l.spots))) ≡
    l.initial.props ++ joined (map (of_place l.t l.slots (definers_in l.sites)) (map place_of l.spots))
