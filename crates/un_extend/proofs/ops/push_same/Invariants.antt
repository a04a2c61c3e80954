use Rattle.std.proofs.Common.{◌≡◌, ◌++◌, replicate}
use Rattle.un_extend.proofs.ops.push_same.Given as goal

abbrev pub invariant-loop-k : goal.invariant-loop-k
invariant-loop-k l = l.sorts ≡ l.initial.sorts ++ replicate l.k l.sort
