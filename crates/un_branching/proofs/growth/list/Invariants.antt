-- the nodes so far and those that are left are all
use Rattle.un_branching.proofs.WalkLemmas.{Lists}
use Rattle.un_branching.proofs.growth.list.Given as goal

abbrev pub invariant-loop-left : goal.invariant-loop-left
invariant-loop-left l = Lists l.tree l.left l.at l.nodes.items

abbrev pub decreases-loop-left : goal.decreases-loop-left
decreases-loop-left l = l.left
