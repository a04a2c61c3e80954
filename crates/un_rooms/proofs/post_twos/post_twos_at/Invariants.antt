use Rattle.std.proofs.Common.{◌≡◌, ◌++◌, drop, map}
use Rattle.un_model.specs.Pairs.{joined}
use Rattle.un_sites.specs.Rooms.{twos_in}
use Rattle.un_sites.specs.Sites.{place_of, definers_in}
use Rattle.un_rooms.proofs.post_twos.post_twos_at.Given as goal

abbrev pub invariant-loop-p : goal.invariant-loop-p
invariant-loop-p l = l.props ++ joined (map (twos_in l.slots (definers_in l.sites)) (map place_of (drop l.p-index l.spots))) ≡
    l.initial.props ++ joined (map (twos_in l.slots (definers_in l.sites)) (map place_of l.spots))
