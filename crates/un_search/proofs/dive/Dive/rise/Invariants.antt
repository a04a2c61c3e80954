-- the dive is on the same engine, from the same sets
use Rattle.std.proofs.Common.{◌≡◌}
use Rattle.un_search.proofs.dive.Dive.rise.Given as goal

abbrev pub invariant-loop : goal.invariant-loop
invariant-loop l = l.self ≡ l.fn.self
