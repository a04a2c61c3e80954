use Rattle.un_check.proofs.tree.see_tree.Goals as goal

pub visit_nodes-requires-clause-first : goal.visit_nodes-requires-clause-first
visit_nodes-requires-clause-first c = c.in_ok-walk.ensures.walk c.args.nodes.now

pub returns : goal.returns
returns c = c.seen_after.ensures c.args.m.now c.args.limit c.args.nodes.now c.in_ok-told.ensures
