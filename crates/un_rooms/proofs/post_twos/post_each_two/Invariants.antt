use Rattle.std.proofs.Common.{◌≡◌, ◌++◌, drop}
use Rattle.un_sites.specs.Rooms.{each_two, two_at, twos_in}
use Rattle.un_sites.specs.Sites.{place_of, definers_in}
use Rattle.un_rooms.proofs.post_twos.post_each_two.Given as goal

abbrev pub invariant-loop-i : goal.invariant-loop-i
invariant-loop-i l = l.props ++ each_two (two_at l.slots (definers_in l.sites) (place_of l.p)) l.i (drop l.i l.p.it.now.operands) ≡
    l.initial.props ++ twos_in l.slots (definers_in l.sites) (place_of l.p)
