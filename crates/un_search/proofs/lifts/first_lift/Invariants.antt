-- the engine is as it was
use Rattle.std.proofs.Common.{◌≡◌}
use Rattle.un_search.proofs.lifts.first_lift.Given as goal

abbrev pub invariant-loop-block : goal.invariant-loop-block
invariant-loop-block l = l.engine ≡ l.fn.engine
