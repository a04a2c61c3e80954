use Rattle.std.proofs.Common.{List, subst}
use Rattle.std.proofs.lemmas.List.Elements.{All-weaker}
use Rattle.un_model.specs.Boxes.{root_of}
use Rattle.un_tree.specs.declared.node.Node.{Node}
use Rattle.un_mirrors.specs.Shortened.{IsKept, IsNoMore, IsShortOf, MirrorsAt, SplitsAt, sym_routes}
use Rattle.un_mirrors.specs.Works.{IsMade}
use Rattle.un_mirrors.proofs.WorkLemmas.{all_made, nodes_whole, short_whole}
use Rattle.un_mirrors.proofs.shorten.shorten.Goals as goal

pub returns-clause-cuts : goal.returns-clause-cuts
returns-clause-cuts c = subst (λ (ns : List Node). IsShortOf ns c.loop-work.work.nodes.items) c.as_slice-nodes.ensures.value
    (short_whole c.args.m.now c.as_slice-nodes.result.now c.loop-work.work c.loop-work.invariant c.loop-work-test.false)

pub returns-clause-whole : goal.returns-clause-whole
returns-clause-whole c =
    nodes_whole c.args.m.now c.as_slice-nodes.result.now c.loop-work.work c.loop-work.invariant c.loop-work-test.false

pub returns-clause-kept : goal.returns-clause-kept
returns-clause-kept c =
    All-weaker (λ r. IsMade c.args.m.now c.as_slice-nodes.result.now r.node r.path) (λ r. IsKept c.args.t.now.nodes.items r.node r.path)
    (λ r made. subst (λ (ns : List Node). IsKept ns r.node r.path) c.as_slice-nodes.ensures.value made.kept)
    (sym_routes c.loop-work.work.nodes.items)
    (all_made c.args.m.now c.as_slice-nodes.result.now c.loop-work.work c.loop-work.invariant c.loop-work-test.false)

pub returns-clause-strict : goal.returns-clause-strict
returns-clause-strict c =
    All-weaker (λ r. IsMade c.args.m.now c.as_slice-nodes.result.now r.node r.path) (λ r. SplitsAt (root_of c.args.m.now) r.node r.path)
    (λ r made. made.splits) (sym_routes c.loop-work.work.nodes.items)
    (all_made c.args.m.now c.as_slice-nodes.result.now c.loop-work.work c.loop-work.invariant c.loop-work-test.false)

pub returns-clause-mirrors : goal.returns-clause-mirrors
returns-clause-mirrors c =
    All-weaker (λ r. IsMade c.args.m.now c.as_slice-nodes.result.now r.node r.path) (λ r. MirrorsAt c.args.m.now r.node r.path)
    (λ r made. made.mirrors) (sym_routes c.loop-work.work.nodes.items)
    (all_made c.args.m.now c.as_slice-nodes.result.now c.loop-work.work c.loop-work.invariant c.loop-work-test.false)

pub returns-clause-no_more : goal.returns-clause-no_more
returns-clause-no_more c =
    All-weaker (λ r. IsMade c.args.m.now c.as_slice-nodes.result.now r.node r.path) (λ r. IsNoMore c.args.m.now r.node r.path)
    (λ r made. made.no_more) (sym_routes c.loop-work.work.nodes.items)
    (all_made c.args.m.now c.as_slice-nodes.result.now c.loop-work.work c.loop-work.invariant c.loop-work-test.false)

pub returns-clause-fits : goal.returns-clause-fits
returns-clause-fits c = c.loop-work.invariant.fit
