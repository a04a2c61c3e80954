use Rattle.std.proofs.Common.{take}
use Rattle.un_base.specs.declared.ids.TempId.{TempId}
use Rattle.un_model.specs.Pairs.{joined, places_from}
use Rattle.un_rooms.specs.Gathered.{Gathers}
use Rattle.un_sites.specs.Rooms.{operand_users}
use Rattle.un_sites.specs.Sites.{place_of}
use Rattle.un_rooms.proofs.post_aparts.add_place.Given as goal

abbrev pub invariant-loop-j : goal.invariant-loop-j
invariant-loop-j l = Gathers l.first
    (λ (t : TempId). joined (places_from (operand_users t (place_of l.p)) 0 (take l.j l.p.it.now.operands)))
    l.initial.lists.items l.lists.items
