use Rattle.un_check.proofs.JudgeLemmas.{split_kept, split_broken}
use Rattle.un_check.proofs.judge.judge_split.Goals as goal

pub returns-then-is_right : goal.returns-then-is_right
returns-then-is_right c rest told =
    let g = c.args.rules.now in
    split_kept g.m.now g.limit c.args.room.now c.requires.at c.args.place rest c.is_right.result c.if-is_right.true (c.is_right.ensures rest told)

pub returns-else-is_right : goal.returns-else-is_right
returns-else-is_right c rest told =
    let g = c.args.rules.now in
    split_broken g.m.now g.limit c.args.room.now c.requires.at c.args.place rest c.is_right.result c.if-is_right.false
    (c.is_right.ensures rest told)
