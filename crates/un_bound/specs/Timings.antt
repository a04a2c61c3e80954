-- When the operations of a block that every solution issues do so: the cycle of each operation of the block, in their order, and
-- the block's end.
use Rattle.std.specs.Prelude.{ℕ, ◌≡◌, ◌+◌, ◌-◌, ◌≤◌, List, Some, All, IfSome, length, slice_get, slice_index}
use Rattle.un_base.specs.declared.ids.OpId.{OpId}
use Rattle.un_ir.specs.declared.extended.ExtKind.{ExtKind}
use Rattle.un_ir.specs.declared.extended.ExtKind.TheVariants.{In, Out}
use Rattle.un_ir.specs.declared.extended.ExtOp.{ExtOp}
use Rattle.un_model.specs.declared.model.Arc.{Arc}
use Rattle.un_model.specs.Instructions.{instruction_of}
use Rattle.un_model.specs.Solutions.{IsPlacedAs}

-- a block's start is at 0 and its end at the end; what surely issues an instruction does so within the block, a transfer in its
-- last cycle; an optional operation may be anywhere
abbrev pub IsTimed : ℕ → ℕ → ExtKind → Type 0
IsTimed end cycle In = cycle ≡ 0
IsTimed end cycle Out = cycle ≡ end
IsTimed end cycle kind = IfSome (instruction_of kind 0) (IsPlacedAs cycle end)

-- a relation holds of the cycle of each operation and the operation
abbrev pub AtEach : (ℕ → ExtOp → Type 0) → List ℕ → List ExtOp → Type 0
AtEach R cycles ops = (k : ℕ) (op : ExtOp) → slice_get ops k ≡ Some op → R (slice_index cycles k) op

-- the cycle of an operation of a block of which the first operation has the number n
abbrev pub cycle_in : List ℕ → ℕ → OpId → ℕ
cycle_in cycles n op = slice_index cycles (op.0 - n)

abbrev pub IsKept : ℕ → List ℕ → Arc → Type 0
IsKept n cycles arc = cycle_in cycles n arc.from + arc.gap ≤ cycle_in cycles n arc.to

pub record IsTiming (n : ℕ) (ops : List ExtOp) (arcs : List Arc) (end : ℕ) (cycles : List ℕ) : Type 0 where
  pub long : length cycles ≡ length ops
  pub each : AtEach (λ (cycle : ℕ) (op : ExtOp). IsTimed end cycle op.kind) cycles ops
  pub kept : All (IsKept n cycles) arcs

-- the least number of cycles before the end of a block, whatever its horizon
pub record IsLeastLength (n : ℕ) (ops : List ExtOp) (arcs : List Arc) (len : ℕ) : Type 0 where
  pub reached : (end : ℕ) × (cycles : List ℕ) × IsTiming n ops arcs end cycles × (end - 1 ≡ len)
  pub least : (end : ℕ) (cycles : List ℕ) → IsTiming n ops arcs end cycles → len ≤ end - 1
