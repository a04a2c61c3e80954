-- the best solution so far costs no more than the start; with one node or two it is the start, or what the rounds left
use Rattle.std.proofs.Common.{◌<◌, ◌≤◌, Some}
use Rattle.un_search.specs.Roots.{IsIncumbent}
use Rattle.un_search.specs.Solved.{IsByRounds}
use Rattle.un_search.proofs.solve.best_attempts.Given as goal

abbrev pub invariant-loop-next : goal.invariant-loop-next
invariant-loop-next l = IsIncumbent l.m l.nodes l.now × (l.now.best.cost ≤ l.fn.start.best.cost)
    × (l.nodes < 3 → IsByRounds l.m (Some l.fn.start.best.solution) l.now.best.solution)

abbrev pub decreases-loop-next : goal.decreases-loop-next
decreases-loop-next l = l.now.best.cost
