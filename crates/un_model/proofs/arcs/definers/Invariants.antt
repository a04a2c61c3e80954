use Rattle.std.proofs.Common.{◌≡◌, ℕ, ◌+◌, ◌<◌, Bool, drop, length, get_or}
use Rattle.std.specs.Prelude.{◌||◌}
use Rattle.std.specs.List.{list_any}
use Rattle.un_ir.specs.declared.extended.Operand.{Operand}
use Rattle.un_model.specs.Arcs.{defines, reads_from, value_read}
use Rattle.un_model.proofs.arcs.definers.Given as goal

abbrev pub invariant-loop-j : goal.invariant-loop-j
invariant-loop-j l = record {
  length : length l.marks.items ≡ l.count;
  marked : (k : ℕ) (d : Bool) → k < l.count
      → (get_or l.marks.items k d || list_any (λ (x : Operand). defines l.temps (l.first + k) (value_read x)) (drop l.j l.op.operands))
      ≡ reads_from l.temps (l.first + k) l.op;
}
