-- the decisions so far lead from the node at hand
use Rattle.un_branching.proofs.WalkLemmas.{Leads, far}
use Rattle.un_branching.proofs.growth.path_to.Given as goal

abbrev pub invariant-loop-at : goal.invariant-loop-at
invariant-loop-at l = Leads l.branches l.fn.link l.at l.path.items

abbrev pub decreases-loop-at : goal.decreases-loop-at
decreases-loop-at l = far l.at
