use Rattle.un_check.proofs.JudgeLemmas.{closed_kept, closed_rests}
use Rattle.un_check.proofs.judge.judge_closed.Goals as goal

pub returns-then-is_lost : goal.returns-then-is_lost
returns-then-is_lost c rest =
    let g = c.args.rules.now in
    closed_kept g.m.now g.limit c.args.room.now c.requires.at c.args.place rest (c.is_lost.ensures.lost c.if-is_lost.true)

pub returns-else-is_lost : goal.returns-else-is_lost
returns-else-is_lost c rest =
    let g = c.args.rules.now in
    closed_rests g.m.now g.limit c.args.room.now c.requires.at c.args.place rest (c.is_lost.ensures.rests c.if-is_lost.false)
