use Rattle.std.proofs.Common.{◌≡◌, drop}
use Rattle.un_baseline.specs.SpillEverywhere.{purpose_at}
use Rattle.un_baseline.proofs.spill.purpose_at.Given as goal

abbrev pub invariant-loop-i : goal.invariant-loop-i
invariant-loop-i l = purpose_at l.term (drop l.i l.ops) ≡ purpose_at l.term (drop l.k l.ops)
