use Rattle.un_check.proofs.LeafLemmas.{used_none, used_some}
use Rattle.un_check.proofs.leaves.uses_nodes.Goals as goal

pub returns-then-open_leaves-eq0 : goal.returns-then-open_leaves-eq0
returns-then-open_leaves-eq0 c t is = used_none c.args.open_leaves t is c.args.outer_nodes c.args.nodes c.if-open_leaves-eq0.true

pub returns : goal.returns
returns c t is =
    used_some c.args.open_leaves t is c.args.outer_nodes c.args.nodes c.is_odd.result c.if-open_leaves-eq0.false c.is_odd.ensures
