-- Words of private contracts: the least cycles of the operations of a block.
use Rattle.std.specs.Prelude.{ℕ, ◌≡◌, ◌+◌, ◌*◌, ◌<◌, ◌≤◌, List, Option, Some, None, length, slice_get, slice_index, slice_index_or}
use Rattle.un_isa.specs.declared.op.Op.{Op}
use Rattle.un_ir.specs.declared.extended.ExtKind.{ExtKind}
use Rattle.un_ir.specs.declared.extended.ExtKind.TheVariants.{Out}
use Rattle.un_ir.specs.declared.extended.ExtOp.{ExtOp}
use Rattle.un_model.specs.declared.model.Arc.{Arc}
use Rattle.un_bound.specs.Timings.{AtEach, IsKept}
use Rattle.un_model.specs.Instructions.{instruction_of}

-- the first cycle of an instruction that every solution issues
abbrev pub first_by : Option Op → ℕ
first_by None = 0
first_by (Some op) = 1

abbrev pub first_cycle : ExtKind → ℕ
first_cycle kind = first_by (instruction_of kind 0)

abbrev pub StartAtFirst : List ℕ → List ExtOp → Type 0
StartAtFirst cycles ops = AtEach (λ (cycle : ℕ) (op : ExtOp). cycle ≡ first_cycle op.kind) cycles ops

-- which cycles the operation at a place may have
abbrev pub Choice : Type 1
Choice = ℕ → ℕ → Type 0

-- none before its first
abbrev pub FromFirst : List ExtOp → Choice
FromFirst ops k cycle = (op : ExtOp) → slice_get ops k ≡ Some op → first_cycle op.kind ≤ cycle

-- each of so many cycles may be had
abbrev pub AreChosen : Choice → ℕ → List ℕ → Type 0
AreChosen may count cycles = (k : ℕ) → k < count → may k (slice_index cycles k)

-- the first i arcs leave their gaps
abbrev pub KeepFirst : ℕ → List Arc → ℕ → List ℕ → Type 0
KeepFirst n arcs i cycles = (j : ℕ) (d : Arc) → j < i → IsKept n cycles (slice_index_or arcs j d)

-- of the cycles that may be had and keep the first i arcs these are the least
pub record AreEarliest (may : Choice) (count n : ℕ) (arcs : List Arc) (i : ℕ) (cycles : List ℕ) : Type 0 where
  pub long : length cycles ≡ count
  pub chosen : AreChosen may count cycles
  pub kept : KeepFirst n arcs i cycles
  pub least : (others : List ℕ) → AreChosen may count others → KeepFirst n arcs i others
      → (k : ℕ) → slice_index cycles k ≤ slice_index others k

-- the least end of a block in which an operation has this cycle
abbrev pub end_by : ℕ → Option Op → ℕ
end_by cycle None = 0
end_by cycle (Some op) = cycle + 1

abbrev pub end_after : ℕ → ExtKind → ℕ
end_after cycle Out = cycle
end_after cycle kind = end_by cycle (instruction_of kind 0)

abbrev pub IsEnd : ℕ → List ℕ → List ExtOp → Type 0
IsEnd end cycles ops = AtEach (λ (cycle : ℕ) (op : ExtOp). end_after cycle op.kind ≤ end) cycles ops

pub record IsLeastEnd (end : ℕ) (cycles : List ℕ) (ops : List ExtOp) : Type 0 where
  pub met : IsEnd end cycles ops
  pub least : (other : ℕ) → IsEnd other cycles ops → end ≤ other

-- each cycle is at most the first and a gap for each operation before it
abbrev pub AreSmall : List ℕ → Type 0
AreSmall cycles = (k : ℕ) → slice_index cycles k ≤ 1 + 255 * k
