use Rattle.un_symtree.proofs.SymTrees.{sym_bad_end, sym_bad_line}
use Rattle.un_symtree.proofs.read.first_sym_node.Goals as goal

pub returns-in-None : goal.returns-in-None
returns-in-None c = sym_bad_end c.args.text.now c.if-is_empty.ensures c.in-None.ensures.none

pub returns-in-None-sym_node_of : goal.returns-in-None-sym_node_of
returns-in-None-sym_node_of c =
    sym_bad_line c.args.text.now c.in-Some.line.now c.in-Some.rest.now c.if-is_empty.ensures c.in-Some.ensures.some
    c.in-None-sym_node_of.ensures.none
