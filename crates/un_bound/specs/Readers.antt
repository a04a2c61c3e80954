-- What the arcs of a model ask of its relaxation: a reader waits for the definer of what it reads as it does in a solution.
use Rattle.std.specs.Prelude.{ℕ, ◌≡◌, ◌+◌, ◌<◌, ◌≤◌, true, List, Some, Contains, slice_get, slice_index}
use Rattle.un_base.specs.declared.ids.TempId.{TempId}
use Rattle.un_ir.specs.Extended.{carried}
use Rattle.un_ir.specs.Kinds.{is_mandatory}
use Rattle.un_ir.specs.declared.extended.Operand.{Operand}
use Rattle.un_ir.specs.declared.extended.Ext.{Ext}
use Rattle.un_ir.specs.declared.extended.ExtOp.{ExtOp}
use Rattle.un_ir.specs.declared.extended.ExtBlock.{ExtBlock}
use Rattle.un_model.specs.declared.model.Arc.{Arc}
use Rattle.un_model.specs.declared.model.Model.{Model}
use Rattle.un_model.specs.Arcs.{first_number}
use Rattle.un_model.specs.Instructions.{instruction_of}
use Rattle.un_model.specs.Solutions.{latency_gap}
use Rattle.un_bound.specs.Timings.{IsTiming}

-- an operand of the later operation may choose a temporary that carries a result of the earlier one
pub record ReadsFrom (e : Ext) (definer reader : ExtOp) : Type 0 where
  pub operand : Operand
  pub choice : TempId
  pub reads : Contains reader.operands operand
  pub may : Contains operand.alts choice
  pub given : Contains definer.results (carried e.blocks choice)

-- so a mandatory operation issues the gap after each mandatory one before it whose results it reads, or later
abbrev pub ReadersWait : Ext → List ExtOp → List ℕ → Type 0
ReadersWait e ops cycles = (i j : ℕ) (definer reader : ExtOp) → i < j → slice_get ops i ≡ Some definer → slice_get ops j ≡ Some reader
    → is_mandatory definer.kind ≡ true → is_mandatory reader.kind ≡ true → ReadsFrom e definer reader
    → slice_index cycles i + latency_gap e.table (instruction_of definer.kind 0) (instruction_of reader.kind 0) ≤ slice_index cycles j

-- in each timing of each block of a model
abbrev pub AllReadersWait : Model → Type 0
AllReadersWait m = (b : ℕ) (block : ExtBlock) (arcs : List Arc) (end : ℕ) (cycles : List ℕ) → slice_get m.ext.blocks b ≡ Some block
    → slice_get m.arcs b ≡ Some arcs → IsTiming (first_number m.ext.blocks b) block.ops arcs end cycles
    → ReadersWait m.ext block.ops cycles
