-- the engine is as it was
use Rattle.std.proofs.Common.{◌≡◌}
use Rattle.un_search.proofs.start.ends_in.Given as goal

abbrev pub invariant-loop-vars : goal.invariant-loop-vars
invariant-loop-vars l = l.engine ≡ l.fn.engine
