-- the store is as it was
use Rattle.std.proofs.Common.{◌≡◌}
use Rattle.inspect.proofs.chains.time_marks.Given as goal

abbrev pub invariant-loop : goal.invariant-loop
invariant-loop g l = l.store ≡ l.fn.store
