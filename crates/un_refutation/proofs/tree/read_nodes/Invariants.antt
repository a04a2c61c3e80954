-- the nodes so far and what is left are the text
use Rattle.un_refutation.proofs.NodeLaws.{SoFar}
use Rattle.un_refutation.proofs.tree.read_nodes.Given as goal

abbrev pub invariant-loop-k : goal.invariant-loop-k
invariant-loop-k l = SoFar l.at.rest.now l.left l.nodes.items l.k
