-- the dive is on the same engine, from the same sets
use Rattle.std.proofs.Common.{◌≡◌}
use Rattle.un_search.proofs.near.shortened.Given as goal

abbrev pub invariant-loop-hint : goal.invariant-loop-hint
invariant-loop-hint l = l.dive ≡ l.fn.dive
