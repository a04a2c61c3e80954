-- The code of a solution: which instructions issue in each cycle of a block, how large the frame is, and where the values at a
-- block's start stand.
use Rattle.std.specs.Prelude.{ℕ, Bool, false, ◌+◌, ◌-◌, ◌*◌, ◌/◌, ◌==◌, ◌&&◌, nat_le, ℤ, pos, neg_ℤ, if◌then◌else◌, List, [], ◌∷◌, Option, Some, None}
use Rattle.std.specs.Prelude.{map, fold, max, slice_get}
use Rattle.std.specs.List.{range_with_len, position_or_len, zip}
use Rattle.std.specs.Option.{option_map, option_to_list}
use Rattle.un_base.specs.declared.ids.BlockId.{BlockId}
use Rattle.un_base.specs.declared.ids.NameId.{NameId}
use Rattle.un_base.specs.declared.ids.TempId.{TempId}
use Rattle.un_isa.specs.declared.op.Op.{Op}
use Rattle.un_isa.specs.declared.op.Op.TheVariants.{Call, JumpIf, JumpIfNot, Spill, Reload, Nop, JumpIfNew, JumpIfNotNew}
use Rattle.un_isa.specs.declared.reg.TheConstants.{FIRST_SLOT}
use Rattle.un_isa.specs.declared.reg.Reg.{Reg}
use Rattle.un_isa.specs.declared.instr.Instr.{Instr}
use Rattle.un_ir.specs.declared.function.SrcOp.{SrcOp}
use Rattle.un_ir.specs.declared.function.Term.{Term}
use Rattle.un_ir.specs.declared.function.Term.TheVariants.{Fall, Jump, Branch, Ret}
use Rattle.un_ir.specs.declared.extended.ExtKind.{ExtKind}
use Rattle.un_ir.specs.declared.extended.ExtKind.TheVariants.{In, Out, Body, End, Copy, Enter, Leave}
use Rattle.un_ir.specs.declared.extended.Operand.{Operand}
use Rattle.un_ir.specs.declared.extended.ExtOp.{ExtOp}
use Rattle.un_ir.specs.declared.extended.ExtBlock.{ExtBlock}
use Rattle.un_model.specs.declared.model.TempVars.{TempVars}
use Rattle.un_model.specs.declared.model.OpVars.{OpVars}
use Rattle.un_model.specs.declared.model.BlockVars.{BlockVars}
use Rattle.un_model.specs.declared.model.Model.{Model}
use Rattle.un_model.specs.declared.schedule.LiveRange.{LiveRange}
use Rattle.un_model.specs.Congruences.{live_in_temps}
use Rattle.un_model.specs.Cost.{value_of}
use Rattle.un_model.specs.Pairs.{places_from, joined}
use Rattle.un_model.specs.Registers.{reg_at}
use Rattle.un_model.specs.Schedules.{choice_of, cycle_of, instr_of, schedule_of, value_by}

-- ---- registers

abbrev pub register_by : List ℕ → Option TempVars → Reg
register_by values None = reg_at 0
register_by values (Some t) = reg_at (value_of values t.reg)

-- the register that values give to a temporary
abbrev pub temp_register : Model → List ℕ → TempId → Reg
temp_register m values x = register_by values (slice_get m.temps x.0)

-- the registers of the temporaries that the operands choose
abbrev pub operand_registers : Model → List ℕ → ExtOp → OpVars → List Reg
operand_registers m values op vars = places_from
    (λ (j : ℕ) (operand : Operand). temp_register m values (choice_of values vars j operand)) 0 op.operands

abbrev pub result_register : Model → List ℕ → ExtOp → Option Reg
result_register m values op = option_map (temp_register m values) (slice_get op.results 0)

-- ---- the frame

-- the larger of h and the slot of a temporary that is active and has one
abbrev pub larger_slot : ℕ → LiveRange → ℕ
larger_slot h range = if range.active && nat_le FIRST_SLOT range.reg then max h (range.reg - FIRST_SLOT) else h

abbrev pub largest_slot : List LiveRange → ℕ
largest_slot ranges = fold larger_slot 0 ranges

-- the bytes of a frame whose largest slot is h, a multiple of 8
abbrev pub frame_bytes : ℕ → ℕ
frame_bytes h = 8 * ((h + 2) / 2)

abbrev pub frame_of : Model → List ℕ → ℕ
frame_of m values = if value_of values m.flag == 0 then 0 else frame_bytes (largest_slot (schedule_of m values).ranges)

-- the byte of the frame at which a slot begins
abbrev pub slot_offset : Option Reg → ℤ
slot_offset None = pos 0
slot_offset (Some r) = pos (4 * (r.0 - FIRST_SLOT))

-- ---- instructions

-- a call's result is in the register that the table says, and none of its own
abbrev pub source_instr : SrcOp → Op → List Reg → Option Reg → Instr
source_instr o Call srcs dst = record { op = Call; dst = None; srcs = srcs; imm = o.imm; label = o.callee }
source_instr o op srcs dst = record { op = op; dst = dst; srcs = srcs; imm = o.imm; label = o.callee }

abbrev pub label_at : List ExtBlock → BlockId → Option (List ℕ)
label_at blocks b = option_map (λ (block : ExtBlock). block.label) (slice_get blocks b.0)

-- the label to which a terminator may jump
abbrev pub label_of : List ExtBlock → Term → Option (List ℕ)
label_of blocks Fall = None
label_of blocks (Jump to) = label_at blocks to
label_of blocks (Branch pred sense to) = label_at blocks to
label_of blocks (Ret value) = None

abbrev pub term_instr : List ExtBlock → Term → Op → List Reg → Instr
term_instr blocks term op srcs = record { op = op; dst = None; srcs = srcs; imm = pos 0; label = label_of blocks term }

-- a Spill writes the slot of its result, a Reload reads the slot of its operand
abbrev pub copy_instr : Op → List Reg → Option Reg → Instr
copy_instr Spill srcs dst = record { op = Spill; dst = None; srcs = srcs; imm = slot_offset dst; label = None }
copy_instr Reload srcs dst = record { op = Reload; dst = dst; srcs = []; imm = slot_offset (slice_get srcs 0); label = None }
copy_instr op srcs dst = record { op = op; dst = dst; srcs = srcs; imm = pos 0; label = None }

-- what moves the stack pointer by so many bytes
abbrev pub stack_instr : Op → ℤ → Instr
stack_instr op bytes = record { op = op; dst = None; srcs = []; imm = bytes; label = None }

-- the instruction of an operation, with these registers for its operands and its result, in a function with a frame of so many
-- bytes
abbrev pub instr_by : List ExtBlock → ℕ → ExtKind → Op → List Reg → Option Reg → Option Instr
instr_by blocks frame In op srcs dst = None
instr_by blocks frame Out op srcs dst = None
instr_by blocks frame (Body o) op srcs dst = Some (source_instr o op srcs dst)
instr_by blocks frame (End term) op srcs dst = Some (term_instr blocks term op srcs)
instr_by blocks frame (Copy node) op srcs dst = Some (copy_instr op srcs dst)
instr_by blocks frame Enter op srcs dst = Some (stack_instr op (neg_ℤ (pos frame)))
instr_by blocks frame Leave op srcs dst = Some (stack_instr op (pos frame))

-- ---- jumps that test what their own packets write

-- the jump that does so, for one that tests a predicate of an earlier packet
abbrev pub new_op : Op → Op
new_op JumpIf = JumpIfNew
new_op JumpIfNot = JumpIfNotNew
new_op op = op

-- a temporary that is defined in this cycle
abbrev pub is_from : ℕ → Option LiveRange → Bool
is_from cycle None = false
is_from cycle (Some range) = range.from == cycle

abbrev pub reads_beside : List LiveRange → List ℕ → OpVars → Option Operand → Bool
reads_beside ranges values vars None = false
reads_beside ranges values vars (Some x) = is_from (value_by values vars.cycle) (slice_get ranges (choice_of values vars 0 x).0)

-- whether what an operation reads first is defined in its own cycle, where temporaries have these live ranges
abbrev pub is_beside : List LiveRange → List ℕ → ExtOp → OpVars → Bool
is_beside ranges values op vars = reads_beside ranges values vars (slice_get op.operands 0)

-- a terminator beside what it reads tests that
abbrev pub emitted_by : Bool → ExtKind → Op → Op
emitted_by beside (End term) op = if beside then new_op op else op
emitted_by beside _ op = op

-- the operation of the instruction as which an operation is emitted that issues this one
abbrev pub emitted_op : Model → List ℕ → ExtOp → OpVars → Op → Op
emitted_op m values op vars instr = emitted_by (is_beside (schedule_of m values).ranges values op vars) op.kind instr

abbrev pub instr_if : Model → List ℕ → ExtOp → OpVars → Option Op → Option Instr
instr_if m values op vars None = None
instr_if m values op vars (Some instr) =
    instr_by m.ext.blocks (frame_of m values) op.kind (emitted_op m values op vars instr) (operand_registers m values op vars)
    (result_register m values op)

-- the instruction of an operation, none where it is inactive, and none of a block's start and of its end
abbrev pub emitted_instr : Model → List ℕ → ExtOp → OpVars → Option Instr
emitted_instr m values op vars = instr_if m values op vars (instr_of values op vars)

-- ---- packets

-- the instruction of an operation of a block with this end, where it issues in cycle c
abbrev pub issued_in : Model → List ℕ → ℕ → ℕ → ExtOp → OpVars → List Instr
issued_in m values end c op vars = if cycle_of values end op vars == c then option_to_list (emitted_instr m values op vars) else []

-- the instructions of a block in cycle c, in the order of the extended function
abbrev pub instrs_in : Model → List ℕ → ExtBlock → BlockVars → ℕ → List Instr
instrs_in m values block vars c =
    joined (map (λ (o : ExtOp × OpVars). issued_in m values (value_of values vars.end) c o.0 o.1) (zip block.ops vars.ops))

abbrev pub nop : Instr
nop = record { op = Nop; dst = None; srcs = []; imm = pos 0; label = None }

-- a packet is never empty
abbrev pub or_nop : List Instr → List Instr
or_nop [] = nop ∷ []
or_nop (i ∷ is) = i ∷ is

-- the packets of a block: one for each cycle from 1 to the one before the block's end
abbrev pub block_packets : Model → List ℕ → ExtBlock → BlockVars → List (List Instr)
block_packets m values block vars = map (λ (c : ℕ). or_nop (instrs_in m values block vars c))
    (range_with_len 1 (value_of values vars.end - 1))

-- those of all blocks, in their order
abbrev pub packets_of : Model → List ℕ → List (List (List Instr))
packets_of m values = map (λ (b : ExtBlock × BlockVars). block_packets m values b.0 b.1) (zip m.ext.blocks m.blocks)

-- ---- places at a block's start

-- the temporary of a name at a block's start
abbrev pub temp_at_start : ExtBlock → ℕ → Option TempId
temp_at_start block name = slice_get (live_in_temps block.ops) (position_or_len (λ (n : NameId). n.0 == name) block.live_in)

abbrev pub place_in : Model → List ℕ → Option ExtBlock → ℕ → Option Reg
place_in m values None name = None
place_in m values (Some block) name = option_map (temp_register m values) (temp_at_start block name)

-- the register or slot in which a name stands at the start of block b
abbrev pub start_place : Model → List ℕ → ℕ → ℕ → Option Reg
start_place m values b name = place_in m values (slice_get m.ext.blocks b) name
