use Rattle.std.proofs.Common.{map, take}
use Rattle.un_rooms.specs.Gathered.{Gathers}
use Rattle.un_sites.specs.Rooms.{users_of}
use Rattle.un_sites.specs.Sites.{place_of}
use Rattle.un_rooms.proofs.post_aparts.add_places.Given as goal

abbrev pub invariant-loop-p : goal.invariant-loop-p
invariant-loop-p l = Gathers l.first (users_of (take l.p-index (map place_of l.spots))) l.initial.lists.items l.lists.items
