use Rattle.un_branching.proofs.QueueLemmas.{popped_queue, popped_view, popped_best}
use Rattle.un_branching.proofs.open_nodes.OpenNodes.pop.Goals as goal

pub invariant_of-self-in-Some : goal.invariant_of-self-in-Some
invariant_of-self-in-Some c = popped_queue _ _ c.self.invariant c.in-Some.name _ c.in-Some.ensures.permutation _
    c.remove-link.ensures.updates (c.in-Some.ensures.heap_order c.self.invariant.ordered).0

pub returns-in-Some-clause-rest : goal.returns-in-Some-clause-rest
returns-in-Some-clause-rest c = popped_view _ _ c.self.invariant c.in-Some.name _ c.in-Some.ensures.permutation _
    c.remove-link.ensures.updates _ c.remove-link.ensures.value _ c.self.view_is

pub returns-in-Some-clause-best : goal.returns-in-Some-clause-best
returns-in-Some-clause-best c = popped_best c.self.inside.links c.in-Some.name c.remove-link.result _ _ c.self.view_is
    (c.in-Some.ensures.heap_order c.self.invariant.ordered).1
