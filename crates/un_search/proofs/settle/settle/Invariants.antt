-- the dive is on the same engine, from the same sets
use Rattle.std.proofs.Common.{◌≡◌}
use Rattle.un_search.proofs.settle.settle.Given as goal

abbrev pub invariant-loop : goal.invariant-loop
invariant-loop l = l.dive ≡ l.fn.dive
