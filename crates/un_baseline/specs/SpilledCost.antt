-- What it costs to spill every name.
use Rattle.std.specs.Prelude.{ℕ, ◌+◌, ◌*◌, Bool, true, false, List, [], ◌∷◌, Option, Some, None, length, replicate, sum_by}
use Rattle.un_base.specs.declared.ids.NameId.{NameId}
use Rattle.un_isa.specs.Tables.{latency_of}
use Rattle.un_isa.specs.declared.op.Op.{Op}
use Rattle.un_isa.specs.declared.op.Op.TheVariants.{Call, Jump as JumpOp, Jumpr, Spill, Reload, P2R, R2P}
use Rattle.un_isa.specs.declared.op.Op.TheVariants.{Enter as EnterOp, Leave as LeaveOp}
use Rattle.un_isa.specs.declared.table.Table.{Table}
use Rattle.un_ir.specs.declared.function.Kind.{Kind}
use Rattle.un_ir.specs.declared.function.Kind.TheVariants.{General, Pred}
use Rattle.un_ir.specs.declared.function.SrcOp.{SrcOp}
use Rattle.un_ir.specs.declared.function.Term.{Term}
use Rattle.un_ir.specs.declared.function.Term.TheVariants.{Fall, Jump, Branch, Ret}
use Rattle.un_ir.specs.declared.function.Block.{Block}
use Rattle.un_ir.specs.declared.function.Function.{Function}
use Rattle.un_ir.specs.WellFormed.{operand_kinds, result_kind}
use Rattle.un_ir.specs.LinearOf.{live_at}
use Rattle.un_model.specs.Instructions.{latency_by, transfer_of}

-- the packets in which an operand is reloaded
abbrev pub operand_packets : Table → Kind → ℕ
operand_packets t General = latency_of t Reload
operand_packets t Pred = latency_of t Reload + latency_of t R2P

-- those in which a result is spilled
abbrev pub result_packets : Table → Kind → ℕ
result_packets t General = latency_of t Spill
result_packets t Pred = latency_of t P2R + latency_of t Spill

abbrev pub assigned_packets : Table → Kind → Option NameId → ℕ
assigned_packets t kind None = 0
assigned_packets t kind (Some name) = result_packets t kind

-- the kinds of the operands of an operation; a call's are words
abbrev pub read_kinds : SrcOp → Op → List Kind
read_kinds o Call = replicate (length o.srcs) General
read_kinds o op = operand_kinds op

abbrev pub source_packets : Table → SrcOp → ℕ
source_packets t o = sum_by (operand_packets t) (read_kinds o o.op) + latency_of t o.op + assigned_packets t (result_kind o.op) o.dst

-- those of a terminator; a return reloads its result and the address, and leaves the frame
abbrev pub end_packets : Table → Term → ℕ
end_packets t Fall = 0
end_packets t (Jump to) = latency_of t JumpOp
end_packets t (Branch pred sense to) = operand_packets t Pred + latency_by t (transfer_of (Branch pred sense to))
end_packets t (Ret None) = operand_packets t General + latency_of t LeaveOp + latency_of t Jumpr
end_packets t (Ret (Some name)) = operand_packets t General + operand_packets t General + latency_of t LeaveOp + latency_of t Jumpr

-- the entry makes the frame, and spills the parameters that are live and the address to which the function returns
abbrev pub start_packets : Table → Bool → List NameId → ℕ
start_packets t true live = latency_of t EnterOp + (length live + 1) * latency_of t Spill
start_packets t false live = 0

abbrev pub block_packets : Table → Bool → List NameId → Block → ℕ
block_packets t entry live block = start_packets t entry live + sum_by (source_packets t) block.ops + end_packets t block.term

-- the sum over the blocks from block b on of frequency times packets, where the first of them is the entry or none is
abbrev pub spilled_cost : Table → List (List NameId) → Bool → ℕ → List Block → ℕ
spilled_cost t lists entry b [] = 0
spilled_cost t lists entry b (block ∷ blocks) = block.freq * block_packets t entry (live_at lists b) block + spilled_cost t lists false
    (b + 1) blocks

-- that of a function, of which these names are live at each block's start
abbrev pub spill_cost : Table → Function → List (List NameId) → ℕ
spill_cost t f lists = spilled_cost t lists true 0 f.blocks
