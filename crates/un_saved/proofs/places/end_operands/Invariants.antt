use Rattle.std.proofs.Common.{◌≡◌, drop}
use Rattle.un_saved.specs.Saved.{end_operands}
use Rattle.un_saved.proofs.places.end_operands.Given as goal

abbrev pub invariant-loop-k : goal.invariant-loop-k
invariant-loop-k l = end_operands (drop l.k l.ops) ≡ end_operands l.ops
