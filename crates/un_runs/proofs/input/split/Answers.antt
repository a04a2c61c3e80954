use Rattle.un_runs.proofs.InputLaws.{so_far_more, parted}
use Rattle.un_runs.proofs.input.split.Goals as goal

pub returns-then-is_rule-clause-second : goal.returns-then-is_rule-clause-second
returns-then-is_rule-clause-second c =
    (parted c.args.input.now c.loop-line.rest.now c.split_at.result.0.now c.split_at.result.1.now c.first_len.result c.loop-line.invariant
    c.first_len.ensures.cut c.split_at.ensures.front c.split_at.ensures.back (cc)).1

pub loop-line-preserved : goal.loop-line-preserved
loop-line-preserved c =
    so_far_more c.args.input.now c.loop-line.rest.now c.split_at.result.0.now c.split_at.result.1.now c.first_len.result c.loop-line.invariant
    c.first_len.ensures.cut c.split_at.ensures.front c.split_at.ensures.back (cc)
