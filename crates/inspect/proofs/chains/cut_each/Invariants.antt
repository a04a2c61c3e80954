-- no variable goes
use Rattle.std.proofs.Common.{◌≡◌, length}
use Rattle.inspect.proofs.chains.cut_each.Given as goal

abbrev pub invariant-loop-v : goal.invariant-loop-v
invariant-loop-v l = length l.store.sets ≡ length l.fn.store.sets
