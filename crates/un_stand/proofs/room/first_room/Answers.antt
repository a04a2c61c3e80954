use Rattle.un_stand.proofs.RoomLemmas.{first_at}
use Rattle.un_stand.proofs.room.first_room.Goals as goal

pub returns-clause-at : goal.returns-clause-at
returns-clause-at c fix rounds =
    first_at c.args.cuts.sets fix c.args.props.items c.requires.live rounds c.args.store.sets _ c.requires.same
    c.in_ok-engine.ensures c.first_stand-stand.ensures.at c.first_stand-stand.ensures.first
