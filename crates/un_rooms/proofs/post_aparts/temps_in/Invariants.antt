use Rattle.std.proofs.Common.{◌≡◌, ◌++◌, drop, map}
use Rattle.un_sites.specs.Rooms.{temps_in}
use Rattle.un_sites.specs.Sites.{place_of}
use Rattle.un_rooms.proofs.post_aparts.temps_in.Given as goal

abbrev pub invariant-loop-p : goal.invariant-loop-p
invariant-loop-p l = l.temps ++ temps_in (map place_of (drop l.p-index l.spots)) ≡ temps_in (map place_of l.spots)
