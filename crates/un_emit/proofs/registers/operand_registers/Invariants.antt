use Rattle.std.proofs.Common.{◌≡◌, ◌++◌, ℕ, drop}
use Rattle.un_ir.specs.declared.extended.Operand.{Operand}
use Rattle.un_model.specs.Emission.{operand_registers, temp_register}
use Rattle.un_model.specs.Pairs.{places_from}
use Rattle.un_model.specs.Schedules.{choice_of}
use Rattle.un_emit.proofs.registers.operand_registers.Given as goal

abbrev pub invariant-loop-j : goal.invariant-loop-j
invariant-loop-j l =
    l.regs ++ places_from (λ (j : ℕ) (operand : Operand). temp_register l.m l.values (choice_of l.values l.vars j operand)) l.j
    (drop l.j l.op.operands) ≡ operand_registers l.m l.values l.op l.vars
