use Rattle.un_model.specs.Boxes.{root_of}
use Rattle.un_walk.proofs.StandLemmas.{cuts_box}
use Rattle.un_check.proofs.JudgeLemmas.{branch_one, branch_empty, branch_kept}
use Rattle.un_check.proofs.judge.judge_branch.Goals as goal

pub splits-requires : goal.splits-requires
splits-requires c = let g = c.args.rules.now in (cuts_box (root_of g.m.now) c.args.room.now.stand c.requires.at.room.stand).1

pub returns-then-not-splits-clause-judged : goal.returns-then-not-splits-clause-judged
returns-then-not-splits-clause-judged c rest =
    let g = c.args.rules.now in
    branch_one g.m.now g.limit c.args.room.now c.requires.at c.args.place rest c.args.var c.args.val (c.splits.ensures.one c.if-not-splits.true)

pub returns-in-None-clause-judged : goal.returns-in-None-clause-judged
returns-in-None-clause-judged c rest =
    let g = c.args.rules.now in
    branch_empty g.m.now g.limit c.args.room.now c.requires.at c.args.place rest c.args.var c.args.val c.least_under.result
    (c.splits.ensures.both c.if-not-splits.false) c.least_under.ensures.least c.in-None.is

pub returns-in-Some-clause-judged : goal.returns-in-Some-clause-judged
returns-in-Some-clause-judged c rest =
    let g = c.args.rules.now in
    branch_kept g.m.now g.limit c.args.room.now c.requires.at c.args.place rest c.args.var c.args.val c.least_under.result _
    (c.splits.ensures.both c.if-not-splits.false) c.least_under.ensures.least c.in-Some.is
