-- one for each so far
use Rattle.std.proofs.Common.{◌≡◌, length}
use Rattle.un_prop.proofs.queue.weights.Given as goal

abbrev pub invariant-loop-p : goal.invariant-loop-p
invariant-loop-p g l = length l.heavy.items ≡ l.p-index
