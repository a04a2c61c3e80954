use Rattle.un_logs.proofs.Walking.{passes_if}
use Rattle.un_logs.proofs.log.write_node.Goals as goal

pub returns-in_ok-ended-in-Closed-clause-passes : goal.returns-in_ok-ended-in-Closed-clause-passes
returns-in_ok-ended-in-Closed-clause-passes c =
    let e = c.in_ok-ended-in-Closed.ensures in
    passes_if c.args.r.now c.args.node c.args.walk.now.stand.cuts.sets c.args.walk.now.text.items c.write_here.new.walk.text.items
    c.in_ok-ended-in-Closed.ended c.in-Closed.is e.ends e.lost
