use Rattle.std.proofs.Common.{◌≡◌, ℕ, ◌<◌, ◌≤◌, Some}
use Rattle.std.specs.Prelude.{slice_get, slice_index}
use Rattle.un_ir.specs.declared.extended.ExtOp.{ExtOp}
use Rattle.un_bound.specs.Lengths.{end_after, IsEnd}
use Rattle.un_bound.proofs.lengths.least_end.Given as goal

abbrev pub invariant-loop-i : goal.invariant-loop-i
invariant-loop-i l = record {
  met : (k : ℕ) (op : ExtOp) → k < l.i → slice_get l.ops k ≡ Some op → end_after (slice_index l.cycles k) op.kind ≤ l.end;
  least : (other : ℕ) → IsEnd other l.cycles l.ops → l.end ≤ other;
}
