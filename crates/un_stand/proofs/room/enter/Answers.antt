use Rattle.un_stand.proofs.RoomLemmas.{lost_none, entered_lost, entered_by, engine_there, engine_live, split_at}
use Rattle.un_stand.proofs.room.enter.Goals as goal

pub returns-then-is_lost-clause-end : goal.returns-then-is_lost-clause-end
returns-then-is_lost-clause-end c root fix ps h =
    entered_lost root fix ps c.args.room.now h c.args.decision (split_at root fix ps c.args.room.now h c.args.decision c.requires.split)
    (c.is_lost.ensures.lost c.if-is_lost.true root fix ps h)

pub returns-in-None-clause-end : goal.returns-in-None-clause-end
returns-in-None-clause-end c root fix ps h =
    entered_lost root fix ps c.args.room.now h c.args.decision (split_at root fix ps c.args.room.now h c.args.decision c.requires.split)
    (lost_none root fix ps _ _ h.ends c.in-None.is)

pub decide_in-requires-clause-there : goal.decide_in-requires-clause-there
decide_in-requires-clause-there c =
    let g = c.requires.at in
    engine_there g.root g.fix g.props c.args.room.now g.at c.args.decision
    (split_at g.root g.fix g.props c.args.room.now g.at c.args.decision c.requires.split)
    _ c.in-Some.is (c.is_lost.ensures.rests c.if-is_lost.false g.root g.fix g.props g.at)

pub decide_in-requires-clause-live : goal.decide_in-requires-clause-live
decide_in-requires-clause-live c =
    let g = c.requires.at in
    engine_live g.root g.fix g.props c.args.room.now g.at c.args.decision
    (split_at g.root g.fix g.props c.args.room.now g.at c.args.decision c.requires.split)
    _ c.in-Some.is (c.is_lost.ensures.rests c.if-is_lost.false g.root g.fix g.props g.at)

pub returns-in_ok-decide_in-in-Some-clause-end : goal.returns-in_ok-decide_in-in-Some-clause-end
returns-in_ok-decide_in-in-Some-clause-end c root fix ps h =
    entered_by root fix ps c.args.room.now h c.args.decision (split_at root fix ps c.args.room.now h c.args.decision c.requires.split)
    _ c.in-Some.is (c.is_lost.ensures.rests c.if-is_lost.false root fix ps h) _ c.in_ok-decide_in-in-Some.field-0
    c.in_ok-decide_in-in-Some.ensures
