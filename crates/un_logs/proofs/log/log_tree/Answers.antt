use Rattle.un_logs.proofs.Walking.{exactly_by}
use Rattle.un_logs.proofs.log.log_tree.Goals as goal

pub returns-clause-exactly : goal.returns-clause-exactly
returns-clause-exactly c =
    let e = c.in_ok-told.ensures in
    exactly_by c.args.rules c.args.m.now c.args.limit c.args.t.now.nodes.items c.in_ok-told.told e.stuck e.none
