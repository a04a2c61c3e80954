use Rattle.un_walk.proofs.StandLemmas.{cuts_box, stand_down}
use Rattle.un_walk.proofs.stand.go_down.Goals as goal

pub mark_and_cut-requires-clause-live : goal.mark_and_cut-requires-clause-live
mark_and_cut-requires-clause-live c = (cuts_box c.requires.at.root c.args.stand.now c.requires.at.at).1

pub returns-clause-at : goal.returns-clause-at
returns-clause-at c root h = stand_down root c.args.stand.now h _ c.args.decision c.requires.split c.in_ok-push.ensures
    c.in_ok-mark_and_cut.ensures.cut c.in_ok-mark_and_cut.ensures.marked
