use Rattle.std.proofs.Common.{◌+◌, refl, arith}
use Rattle.un_report_reader.proofs.Through.{named}
use Rattle.un_symtree.proofs.SymTrees.{sym_none_begins}
use Rattle.un_refutation.proofs.NodeLaws.{one_more, bad_node}
use Rattle.un_refutation.specs.FirstBad.{IsBadNode}
use Rattle.un_refutation.proofs.tree.read_nodes.Goals as goal

pub loop-k-preserved : goal.loop-k-preserved
loop-k-preserved c =
    one_more c.args.at.rest.now c.loop-k.left.now c.loop-k.nodes.items _ c.loop-k.k _ _ _ _ c.loop-k.invariant c.in-Node.ensures
    c.in_ok-add-in-Node.ensures refl

pub returns-in-End-clause-bad : goal.returns-in-End-clause-bad
returns-in-End-clause-bad c =
    named (IsBadNode c.args.count) c.args.at (c.loop-k.k + 1) c.bad_line.result c.bad_line.ensures.bad
    (bad_node c.args.at.rest.now c.loop-k.left.now c.loop-k.nodes.items c.loop-k.k c.args.count c.loop-k.invariant (omega arith)
    (sym_none_begins c.loop-k.left.now c.in-End.ensures))

pub returns-in-Bad-clause-bad : goal.returns-in-Bad-clause-bad
returns-in-Bad-clause-bad c =
    named (IsBadNode c.args.count) c.args.at (c.loop-k.k + 1) c.bad_line-in-Bad.result c.bad_line-in-Bad.ensures.bad
    (bad_node c.args.at.rest.now c.loop-k.left.now c.loop-k.nodes.items c.loop-k.k c.args.count c.loop-k.invariant (omega arith)
    c.in-Bad.ensures.1)
