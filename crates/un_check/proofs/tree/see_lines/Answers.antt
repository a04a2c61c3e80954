use Rattle.un_check.proofs.tree.see_lines.Goals as goal

pub visit_lines-requires-clause-first : goal.visit_lines-requires-clause-first
visit_lines-requires-clause-first c = c.in_ok-walk.ensures.walk

pub returns : goal.returns
returns c nodes fit is = c.seen_after.ensures c.args.m.now c.args.limit nodes (c.in_ok-told.ensures nodes fit is)
