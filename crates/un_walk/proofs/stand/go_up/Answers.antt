use Rattle.un_walk.proofs.Paths.{with_option}
use Rattle.un_walk.proofs.StandLemmas.{stand_up}
use Rattle.un_walk.proofs.stand.go_up.Goals as goal

pub returns-in-Some-clause-at : goal.returns-in-Some-clause-at
returns-in-Some-clause-at c root h = stand_up root c.args.stand.now h _ c.in-Some.decision
    (with_option _ _ c.pop.result c.in-Some.decision c.in-Some.is c.pop.ensures.items) c.undo.ensures.marked
