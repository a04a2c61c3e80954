-- the dive is on the same engine, from the same sets
use Rattle.std.proofs.Common.{◌≡◌}
use Rattle.un_search.proofs.near.in_windows.Given as goal

abbrev pub invariant-loop-k : goal.invariant-loop-k
invariant-loop-k l = l.dive ≡ l.fn.dive
