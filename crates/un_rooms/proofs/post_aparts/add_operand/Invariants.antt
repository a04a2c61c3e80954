use Rattle.std.proofs.Common.{take}
use Rattle.un_base.specs.declared.ids.TempId.{TempId}
use Rattle.un_model.specs.Pairs.{joined, places_from}
use Rattle.un_rooms.specs.Gathered.{Gathers}
use Rattle.un_sites.specs.Rooms.{user_if}
use Rattle.un_sites.specs.Sites.{place_of}
use Rattle.un_rooms.proofs.post_aparts.add_operand.Given as goal

abbrev pub invariant-loop-i : goal.invariant-loop-i
invariant-loop-i l = Gathers l.first (λ (t : TempId). joined (places_from (user_if t (place_of l.p) l.choice) 0 (take l.i l.alts)))
    l.initial.lists.items l.lists.items
