use Rattle.std.proofs.Common.{◌≡◌, ℕ, ◌<◌, Some}
use Rattle.std.specs.Prelude.{slice_get, slice_index}
use Rattle.un_ir.specs.declared.extended.ExtOp.{ExtOp}
use Rattle.un_bound.specs.Lengths.{first_cycle}
use Rattle.un_bound.proofs.lengths.start.Given as goal

abbrev pub invariant-loop-i : goal.invariant-loop-i
invariant-loop-i l = (k : ℕ) (op : ExtOp) → k < l.i → slice_get l.ops k ≡ Some op → slice_index l.cycles k ≡ first_cycle op.kind
