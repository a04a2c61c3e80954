use Rattle.un_tree.proofs.TreeTexts.{bad_end, bad_line}
use Rattle.un_tree.proofs.read.first_node.Goals as goal

pub returns-in-None : goal.returns-in-None
returns-in-None c = bad_end c.args.text.now c.if-is_empty.ensures c.in-None.ensures.none

pub returns-in-None-node_of : goal.returns-in-None-node_of
returns-in-None-node_of c =
    bad_line c.args.text.now c.in-Some.line.now c.in-Some.rest.now c.if-is_empty.ensures c.in-Some.ensures.some
    c.in-None-node_of.ensures.none
