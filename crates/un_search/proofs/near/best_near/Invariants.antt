-- the best solution so far costs no more than the first
use Rattle.std.proofs.Common.{◌≤◌}
use Rattle.un_search.specs.Roots.{IsIncumbent}
use Rattle.un_search.proofs.near.best_near.Given as goal

abbrev pub invariant-loop : goal.invariant-loop
invariant-loop l = IsIncumbent l.m l.nodes l.now × (l.now.best.cost ≤ l.fn.first.best.cost)
