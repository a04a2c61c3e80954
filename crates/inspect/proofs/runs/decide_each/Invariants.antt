-- the engine is as it was
use Rattle.std.proofs.Common.{◌≡◌}
use Rattle.inspect.proofs.runs.decide_each.Given as goal

abbrev pub invariant-loop-v : goal.invariant-loop-v
invariant-loop-v g l = l.engine ≡ l.fn.engine
