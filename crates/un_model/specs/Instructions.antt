-- What the operations of an extended function are as instructions.
use Rattle.std.specs.Prelude.{ℕ, Bool, true, false, ◌==◌, if◌then◌else◌, Option, Some, None, slice_get, unwrap_or}
use Rattle.un_isa.specs.Facts.{operand_space, result_space}
use Rattle.un_isa.specs.Tables.{number_of, latency_of}
use Rattle.un_isa.specs.declared.op.Op.{Op}
use Rattle.un_isa.specs.declared.op.Op.TheVariants.{Mov, Jump as JumpOp, JumpIf, JumpIfNot, Jumpr, Spill, Reload, P2R, R2P}
use Rattle.un_isa.specs.declared.op.Op.TheVariants.{Enter as EnterOp, Leave as LeaveOp}
use Rattle.un_isa.specs.declared.reg.Space.{Space}
use Rattle.un_isa.specs.declared.reg.Space.TheVariants.{P, M}
use Rattle.un_isa.specs.declared.table.Needs.{Needs}
use Rattle.un_isa.specs.declared.table.Table.{Table}
use Rattle.un_ir.specs.declared.function.Term.{Term}
use Rattle.un_ir.specs.declared.function.Term.TheVariants.{Fall, Jump, Branch, Ret}
use Rattle.un_ir.specs.declared.extended.TheConstants.{MOVE, SPILL, RELOAD, FROM_PREDICATE, TO_PREDICATE}
use Rattle.un_ir.specs.declared.extended.ExtKind.{ExtKind}
use Rattle.un_ir.specs.declared.extended.ExtKind.TheVariants.{In, Out, Body, End, Copy, Enter, Leave}

-- the instruction of a terminator
abbrev pub transfer_of : Term → Option Op
transfer_of Fall = None
transfer_of (Jump to) = Some JumpOp
transfer_of (Branch pred true to) = Some JumpIf
transfer_of (Branch pred false to) = Some JumpIfNot
transfer_of (Ret value) = Some Jumpr

-- the instruction of a copy that has the number n; 0 is an inactive copy
abbrev pub copy_of : ℕ → Option Op
copy_of n =
    if n == MOVE then Some Mov
    else (if n == SPILL then Some Spill else
    (if n == RELOAD then Some Reload else (if n == FROM_PREDICATE then Some P2R else (if n == TO_PREDICATE then Some R2P else None))))

-- the instruction of Enter or Leave that has the number n; 0 is inactive
abbrev pub frame_instr : Op → ℕ → Option Op
frame_instr op n = if n == 0 then None else Some op

-- the instruction that an operation issues, of which the variable of the instruction, where there is one, has the value n:
-- none at the bounds of a block, and none of an inactive operation
abbrev pub instruction_of : ExtKind → ℕ → Option Op
instruction_of In n = None
instruction_of Out n = None
instruction_of (Body o) n = Some o.op
instruction_of (End term) n = transfer_of term
instruction_of (Copy node) n = copy_of n
instruction_of Enter n = frame_instr EnterOp n
instruction_of Leave n = frame_instr LeaveOp n

-- the latency of an instruction, and 1 for the values at a block's start
abbrev pub latency_by : Table → Option Op → ℕ
latency_by t None = 1
latency_by t (Some op) = latency_of t op

abbrev pub no_needs : Needs
no_needs = record { mem = 0; store = 0; xc = 0; control = 0 }

-- the resources that an instruction needs
abbrev pub needs_by : Table → Option Op → Needs
needs_by t None = no_needs
needs_by t (Some op) = unwrap_or (slice_get t.uses (number_of op)) no_needs

-- the space of the operand at place j: a Reload's is a slot
abbrev pub operand_space_in : Op → ℕ → Option Space
operand_space_in Reload j = Some M
operand_space_in op j = operand_space op j

-- the space of the result: a Spill's is a slot
abbrev pub result_space_in : Op → Option Space
result_space_in Spill = Some M
result_space_in op = result_space op

-- the space that an instruction asks of its operand at place j, and of its result; the bounds of a block ask for none
abbrev pub space_read : Option Op → ℕ → Option Space
space_read None j = None
space_read (Some op) j = operand_space_in op j

abbrev pub space_given : Option Op → Option Space
space_given None = None
space_given (Some op) = result_space_in op

abbrev pub is_predicate_space : Option Space → Bool
is_predicate_space (Some P) = true
is_predicate_space _ = false

-- whether an operation of the source gives a truth value
abbrev pub gives_truth : Op → Bool
gives_truth op = is_predicate_space (result_space op)
