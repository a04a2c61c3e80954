-- the nodes so far and what is left are the text
use Rattle.un_report_reader.proofs.TreeLaws.{SoFar}
use Rattle.un_report_reader.proofs.tree.nodes.Given as goal

abbrev pub invariant-loop-k : goal.invariant-loop-k
invariant-loop-k l = SoFar l.limits l.at.rest.now l.left l.k
