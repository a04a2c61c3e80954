use Rattle.std.proofs.Common.{◌≡◌, ℕ, ◌≤◌, drop}
use Rattle.std.specs.Prelude.{◌||◌}
use Rattle.std.specs.List.{list_any}
use Rattle.un_base.specs.declared.ids.TempId.{TempId}
use Rattle.un_ir.specs.declared.extended.Operand.{Operand}
use Rattle.un_model.specs.Homes.{is_told, is_operand_mark}
use Rattle.un_model.proofs.homes.add_operands.Given as goal

abbrev pub invariant-loop-j : goal.invariant-loop-j
invariant-loop-j l =
    (x : TempId) (i : ℕ) → i ≤ 32
    → (is_told l.homes x i || list_any (λ (o : Operand). is_operand_mark o x i) (drop l.j l.op.operands)) ≡
    (is_told l.initial.homes x i || list_any (λ (o : Operand). is_operand_mark o x i) l.op.operands)
