use Rattle.std.proofs.Common.{◌≡◌, ◌++◌, replicate}
use Rattle.un_baseline.proofs.spill.push_same.Given as goal

abbrev pub invariant-loop-i : goal.invariant-loop-i
invariant-loop-i l = l.values ≡ l.initial.values ++ replicate l.i l.n
