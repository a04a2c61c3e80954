use Rattle.un_check.proofs.JudgeLemmas.{in_closed, in_rests}
use Rattle.un_check.proofs.part.judge_closed_in.Goals as goal

pub returns-then-is_lost : goal.returns-then-is_lost
returns-then-is_lost c first limit number rest h =
    in_closed first c.args.m.now c.args.k limit number c.args.room.now h c.args.place rest (c.is_lost.ensures.lost c.if-is_lost.true)

pub returns-else-is_lost : goal.returns-else-is_lost
returns-else-is_lost c first limit number rest h =
    in_rests first c.args.m.now c.args.k limit number c.args.room.now h c.args.place rest (c.is_lost.ensures.rests c.if-is_lost.false)
