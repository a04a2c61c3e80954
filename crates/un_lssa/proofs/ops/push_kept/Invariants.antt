use Rattle.std.proofs.Common.{◌≡◌, ◌+◌, ◌++◌, drop}
use Rattle.un_ir.specs.LinearOf.{kept_operands}
use Rattle.un_lssa.proofs.ops.push_kept.Given as goal

abbrev pub invariant-loop-r : goal.invariant-loop-r
invariant-loop-r l = record {
  place : l.n ≡ l.first + l.r-index;
  operands : l.operands ++ kept_operands l.n (drop l.r-index l.registers) ≡ l.initial.operands ++ kept_operands l.first l.registers;
}
