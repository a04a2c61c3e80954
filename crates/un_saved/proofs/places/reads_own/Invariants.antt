use Rattle.std.proofs.Common.{◌≡◌, drop}
use Rattle.un_saved.specs.Saved.{reads_own}
use Rattle.un_saved.proofs.places.reads_own.Given as goal

abbrev pub invariant-loop-i : goal.invariant-loop-i
invariant-loop-i l = reads_own (drop l.i l.temps) (drop l.i l.operands) ≡ reads_own l.temps l.operands
