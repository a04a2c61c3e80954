use Rattle.un_check.proofs.JudgeLemmas.{open_empty, open_kept}
use Rattle.un_check.proofs.judge.judge_open.Goals as goal

pub returns-in-None-clause-judged : goal.returns-in-None-clause-judged
returns-in-None-clause-judged c rest =
    let g = c.args.rules.now in
    open_empty g.m.now g.limit c.args.room.now c.requires.at c.args.place rest c.least_under.result c.least_under.ensures.least c.in-None.is

pub returns-in-Some-clause-judged : goal.returns-in-Some-clause-judged
returns-in-Some-clause-judged c rest =
    let g = c.args.rules.now in
    open_kept g.m.now g.limit c.args.room.now c.requires.at c.args.place rest c.least_under.result c.in-Some.least
    c.least_under.ensures.least c.in-Some.is
