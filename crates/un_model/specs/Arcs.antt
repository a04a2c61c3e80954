-- The precedences among the operations that every solution issues: a block's start and its end, the operations of the source
-- and the terminator. Copies only lengthen the way from a definer to a reader.
use Rattle.std.specs.Prelude.{zero, suc}
use Rattle.std.specs.Prelude.{ℕ, ◌≡◌, ◌+◌, ◌<◌, ◌≤◌, ◌⊎◌, ◌==◌, ◌&&◌, Bool, true, false, if◌then◌else◌, List, [], ◌∷◌, Option, Some, None}
use Rattle.std.specs.Prelude.{map, max, take, length, slice_get}
use Rattle.std.specs.List.{list_any}
use Rattle.std.specs.Option.{option_to_list, option_map_or}
use Rattle.un_base.specs.declared.ids.TempId.{TempId}
use Rattle.un_isa.specs.declared.op.Op.{Op}
use Rattle.un_isa.specs.declared.table.Table.{Table}
use Rattle.un_ir.specs.Kinds.{is_mandatory}
use Rattle.un_ir.specs.declared.extended.Operand.{Operand}
use Rattle.un_ir.specs.declared.extended.ExtOp.{ExtOp}
use Rattle.un_ir.specs.declared.extended.ExtBlock.{ExtBlock}
use Rattle.un_model.specs.declared.model.TempVars.{TempVars}
use Rattle.un_model.specs.declared.model.Arc.{Arc}
use Rattle.un_model.specs.Instructions.{instruction_of}
use Rattle.un_model.specs.Pairs.{places_from, joined}
use Rattle.un_model.specs.Schedules.{chosen}
use Rattle.un_model.specs.Solutions.{memory_distance, latency_gap}

-- ---- precedences

-- the instruction that a mandatory operation issues, none at the bounds of a block
abbrev pub own_instr : ExtOp → Option Op
own_instr op = instruction_of op.kind 0

-- the value that an operand reads, which is its first alternative
abbrev pub value_read : Operand → TempId
value_read x = chosen x.alts 0

-- operation n defines value x
abbrev pub defines : List TempVars → ℕ → TempId → Bool
defines temps n x = option_map_or (λ (t : TempVars). t.op.0 == n) (slice_get temps x.0) false

-- an operation reads a value that operation n defines
abbrev pub reads_from : List TempVars → ℕ → ExtOp → Bool
reads_from temps n op = list_any (λ (x : Operand). defines temps n (value_read x)) op.operands

-- how long after operation n, which is `from`, a later one has to issue: by data the gap between the two, by memory what keeps
-- Loads, Stores and Calls in their order
abbrev pub data_gap : Table → Bool → ExtOp → ExtOp → Option ℕ
data_gap t reads from to = if reads then Some (latency_gap t (own_instr from) (own_instr to)) else None

abbrev pub memory_gap : ExtOp → ExtOp → Option ℕ
memory_gap from to = memory_distance (own_instr from) (own_instr to)

-- an operation, which reads from operation n or does not, has to issue so long after that
pub data NeedsGap (t : Table) (reads : Bool) (from to : ExtOp) (gap : ℕ) : Type 0 where
  ByData : data_gap t reads from to ≡ Some gap → NeedsGap t reads from to gap
  ByMemory : memory_gap from to ≡ Some gap → NeedsGap t reads from to gap

-- ---- arcs

-- the larger of two gaps, where there is one
abbrev pub larger : Option ℕ → Option ℕ → Option ℕ
larger None b = b
larger (Some a) None = Some a
larger (Some a) (Some b) = Some (max a b)

-- the largest gap between two mandatory operations
abbrev pub largest_gap : Table → Bool → ExtOp → ExtOp → Option ℕ
largest_gap t reads from to =
    if is_mandatory from.kind && is_mandatory to.kind then larger (data_gap t reads from to) (memory_gap from to) else None

abbrev pub arc : ℕ → ℕ → ℕ → Arc
arc n m gap = record { from = record { 0 = n }; to = record { 0 = m }; gap = gap }

-- the arc from operation n to operation m, where a precedence relates them
abbrev pub arcs_between : Table → List TempVars → ℕ → ExtOp → ℕ → ExtOp → List Arc
arcs_between t temps m to n from = map (arc n m) (option_to_list (largest_gap t (reads_from temps n to) from to))

-- the arcs to operation m from those before it in its block, of which the first has the number n
abbrev pub arcs_into : Table → List TempVars → ℕ → List ExtOp → ℕ → ExtOp → List Arc
arcs_into t temps n before m to = joined (places_from (arcs_between t temps m to) n before)

-- the arcs to the operation at place i of a block, of which the first operation has the number n
abbrev pub arcs_at : Table → List TempVars → ℕ → List ExtOp → ℕ → ExtOp → List Arc
arcs_at t temps n ops i to = arcs_into t temps n (take i ops) (n + i) to

-- the arcs of a block: to each operation in order, from each before it in order
abbrev pub block_arcs : Table → List TempVars → ℕ → List ExtOp → List Arc
block_arcs t temps n ops = joined (places_from (arcs_at t temps n ops) 0 ops)

-- those of each block
abbrev pub blocks_arcs : Table → List TempVars → ℕ → List ExtBlock → List (List Arc)
blocks_arcs t temps n [] = []
blocks_arcs t temps n (block ∷ blocks) = block_arcs t temps n block.ops ∷ blocks_arcs t temps (n + length block.ops) blocks

-- ---- what the arcs of a block are

-- some precedence asks for the gap, and none for a larger one
pub record IsLargest (t : Table) (reads : Bool) (from to : ExtOp) (gap : ℕ) : Type 0 where
  pub asked : NeedsGap t reads from to gap
  pub most : (g : ℕ) → NeedsGap t reads from to g → g ≤ gap

-- An arc between two mandatory operations of a block, of which the first operation has the number n: the precedences between the
-- two ask for its gap, and for no larger one.
pub record IsArcOf (t : Table) (temps : List TempVars) (n : ℕ) (ops : List ExtOp) (a : Arc) : Type 0 where
  pub earlier : ℕ
  pub later : ℕ
  pub from : ExtOp
  pub to : ExtOp
  pub order : earlier < later
  pub from_at : slice_get ops earlier ≡ Some from
  pub to_at : slice_get ops later ≡ Some to
  pub numbers : (a.from.0 ≡ n + earlier) × (a.to.0 ≡ n + later)
  pub mandatory : (is_mandatory from.kind ≡ true) × (is_mandatory to.kind ≡ true)
  pub gap : IsLargest t (reads_from temps a.from.0 to) from to a.gap

-- the number of the first operation of block b
abbrev pub first_number : List ExtBlock → ℕ → ℕ
first_number [] b = 0
first_number (block ∷ blocks) zero = 0
first_number (block ∷ blocks) (suc b) = length block.ops + first_number blocks b

-- by rising `to` and then rising `from`
abbrev pub RisesTo : Arc → Arc → Type 0
RisesTo a b = (a.to.0 < b.to.0) ⊎ ((a.to.0 ≡ b.to.0) × (a.from.0 < b.from.0))
