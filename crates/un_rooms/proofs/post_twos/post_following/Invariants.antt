use Rattle.std.proofs.Common.{◌≡◌, ◌+◌, ◌++◌, drop}
use Rattle.un_model.specs.Pairs.{joined, places_from}
use Rattle.un_sites.specs.Rooms.{two_at}
use Rattle.un_sites.specs.Sites.{place_of, definers_in}
use Rattle.un_rooms.proofs.post_twos.post_following.Given as goal

abbrev pub invariant-loop-j : goal.invariant-loop-j
invariant-loop-j l = l.props ++ joined (places_from (two_at l.slots (definers_in l.sites) (place_of l.p) l.i l.a.it.now) l.j
    (drop l.j l.p.it.now.operands)) ≡ l.initial.props ++ joined
    (places_from (two_at l.slots (definers_in l.sites) (place_of l.p) l.i l.a.it.now)
    (l.i + 1) (drop (l.i + 1) l.p.it.now.operands))
