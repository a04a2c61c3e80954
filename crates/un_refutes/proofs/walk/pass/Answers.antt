use Rattle.un_stand.proofs.ModelRooms.{at_goes, at_room}
use Rattle.un_refutes.proofs.WalkLemmas.{strict_at}
use Rattle.un_refutes.proofs.walk.pass.Goals as goal

pub step-requires-clause-at : goal.step-requires-clause-at
step-requires-clause-at c = let g = c.args.rules.now in at_room g.m.now g.limit c.args.walk.now.room c.requires.at

pub step-requires-clause-strict : goal.step-requires-clause-strict
step-requires-clause-strict c =
    let g = c.args.rules.now in
    strict_at g.m.now g.limit c.args.walk.now.room c.requires.at c.args.node c.branch_of.result c.branch_of.ensures c.requires.keeps

pub returns-clause-at : goal.returns-clause-at
returns-clause-at c =
    let g = c.args.rules.now in at_goes g.m.now g.limit c.args.walk.now.room _ c.requires.at c.in_ok-walk-2.ensures.at
