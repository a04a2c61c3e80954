use Rattle.un_stand.proofs.ModelRooms.{at_goes, at_room}
use Rattle.un_stand.specs.Rooms.{path_of}
use Rattle.un_search.proofs.PlaceLemmas.{up_again}
use Rattle.un_search.proofs.expand.peek.Goals as goal

pub go_up-requires : goal.go_up-requires
go_up-requires c = let g = c.args.rules.now in at_room g.m.now g.limit _ c.in_ok-look.ensures.at.at

pub returns-clause-at : goal.returns-clause-at
returns-clause-at c =
    let g = c.args.rules.now in
    let e = c.in_ok-look.ensures.at in
    record { rules = c.requires.at.rules; at = at_goes g.m.now g.limit _ _ e.at c.go_up.ensures.at; scratch = e.scratch }

pub returns-clause-path : goal.returns-clause-path
returns-clause-path c =
    up_again (path_of c.args.place.now.room) _ _ c.args.decision _ c.in_ok-look.ensures.path c.go_up.ensures.path c.go_up.ensures.none
