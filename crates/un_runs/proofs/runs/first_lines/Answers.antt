use Rattle.un_runs.proofs.FrontLaws.{left_fewer}
use Rattle.un_runs.proofs.runs.first_lines.Goals as goal

pub loop-left-preserved : goal.loop-left-preserved
loop-left-preserved c =
    left_fewer c.args.text.now c.loop-left.rest.now c.split_at.result.1.now c.first_len.result c.args.count c.loop-left.left
    c.loop-left.invariant c.loop-left-test.true c.first_len.ensures.cut c.split_at.ensures.back
