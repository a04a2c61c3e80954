use Rattle.std.proofs.Common.{◌≡◌, drop}
use Rattle.un_saved.specs.Saved.{read_alone}
use Rattle.un_saved.proofs.places.read_alone.Given as goal

abbrev pub invariant-loop-i : goal.invariant-loop-i
invariant-loop-i l = read_alone (drop l.i l.temps) (drop l.i l.operands) ≡ read_alone l.temps l.operands
