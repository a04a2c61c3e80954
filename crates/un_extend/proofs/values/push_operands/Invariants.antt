use Rattle.std.proofs.Common.{◌≡◌, ◌++◌, drop}
use Rattle.un_ir.specs.ExtendOf.{with_operands, new_operands}
use Rattle.un_extend.proofs.values.push_operands.Given as goal

abbrev pub invariant-loop-x : goal.invariant-loop-x
invariant-loop-x l = record {
  grown : with_operands (drop l.x-index l.xs) l.g ≡ with_operands l.xs l.initial.g;
  operands : l.operands ++ new_operands (drop l.x-index l.xs) l.g ≡ l.initial.operands ++ new_operands l.xs l.initial.g;
}
