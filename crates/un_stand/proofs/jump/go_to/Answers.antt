use Rattle.un_stand.proofs.RoomLemmas.{on_goes}
use Rattle.un_stand.proofs.jump.go_to.Goals as goal

pub descend-requires-clause-at : goal.descend-requires-clause-at
descend-requires-clause-at c = on_goes c.args.path.now c.args.room.now c.rise.new.room c.requires c.rise.ensures.at

pub returns-clause-at : goal.returns-clause-at
returns-clause-at c root fix ps h = c.in_ok-descend.ensures.at root fix ps (c.rise.ensures.at root fix ps h)
