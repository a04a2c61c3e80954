use Rattle.std.proofs.Common.{◌+◌, refl}
use Rattle.un_model.specs.Boxes.{root_of}
use Rattle.un_mirrors.proofs.WorkLemmas.{next_inside, next_splits, work_kept}
use Rattle.un_mirrors.proofs.shorten.keep.Goals as goal

pub same_node-requires-clause-closed : goal.same_node-requires-clause-closed
same_node-requires-clause-closed c = c.requires.tree.closed c.args.work.now.place _
    (next_inside c.args.m.now c.args.nodes.now c.args.work.now c.args.work.now c.requires.work c.requires.more)

pub same_node-requires-clause-plain : goal.same_node-requires-clause-plain
same_node-requires-clause-plain c = c.requires.tree.plain c.args.work.now.place _
    (next_inside c.args.m.now c.args.nodes.now c.args.work.now c.args.work.now c.requires.work c.requires.more)

pub step-requires-clause-at : goal.step-requires-clause-at
step-requires-clause-at c = record { root = root_of c.args.m.now; at = c.requires.work.at }

pub step-requires-clause-strict : goal.step-requires-clause-strict
step-requires-clause-strict c = next_splits c.args.m.now c.args.nodes.now c.args.work.now c.args.work.now c.requires.work c.requires.more _
    c.branch_of.result c.requires.tree c.branch_of.ensures

pub returns-clause-work : goal.returns-clause-work
returns-clause-work c =
    work_kept c.args.m.now c.args.nodes.now c.args.work.now
    (record { stand = c.step.new.stand; more = c.in_ok-work.field-0; place = c.args.work.now.place + 1; nodes = c.push.new.nodes })
    c.requires.work c.requires.more _ c.same_node.result c.branch_of.result c.requires.tree c.requires.none c.same_node.ensures.same
    c.branch_of.ensures c.in_ok-work.ensures.waits c.in_ok-push.ensures (c.in_ok-work.ensures.at (root_of c.args.m.now) c.requires.work.at) refl
    c.same_node.ensures.fits
