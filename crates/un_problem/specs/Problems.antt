-- The problem of a function: its extended function and the model of that.
use Rattle.std.specs.Prelude.{◌≡◌, ◌≤◌, All, List, None, length}
use Rattle.un_base.specs.declared.ids.NameId.{NameId}
use Rattle.un_isa.specs.Fit.{IsFit}
use Rattle.un_isa.specs.declared.reg.TheConstants.{SLOTS}
use Rattle.un_isa.specs.declared.table.Table.{Table}
use Rattle.un_ir.specs.Extended.{IsExtended}
use Rattle.un_ir.specs.declared.extended.Ext.{Ext}
use Rattle.un_ir.specs.declared.extended.ExtBlock.{ExtBlock}
use Rattle.un_ir.specs.declared.extended.TheConstants.{BLOCK_OPS}
use Rattle.un_ir.specs.declared.function.Function.{Function}
use Rattle.un_ir.specs.ExtendOf.{extend_of}
use Rattle.un_ir.specs.LinearOf.{AreLive, lin_of}
use Rattle.un_model.specs.Extended.{HasSmallCounts}
use Rattle.un_model.specs.Options.{AreOptions}
use Rattle.un_model.specs.Variables.{IsModel, model_of}
use Rattle.un_model.specs.declared.model.Options.{Options}
use Rattle.un_model.specs.declared.model.Model.{Model}

-- the extended function of the function's linear function, which goes by the names that are live at each block's start
pub record IsExtOf (t : Table) (f : Function) (e : Ext) : Type 0 where
  pub live : List (List NameId)
  pub are_live : AreLive f.blocks live
  pub is_extended : e ≡ extend_of (lin_of f live t)

-- the model of the extended function
pub record IsModelOf (t : Table) (f : Function) (o : Options) (m : Model) : Type 0 where
  pub ext : IsExtOf t f m.ext
  pub is_model : m ≡ model_of m.ext o

-- a model of the function for its own table, which is one that the compiler works for, and under its own options, with what follows
-- from that
pub record IsProblemOf (f : Function) (m : Model) : Type 0 where
  pub fit : IsFit m.ext.table
  pub options : AreOptions m.options
  pub gives : IsModelOf m.ext.table f m.options m
  pub own : IsModel m
  pub extended : IsExtended m.ext
  pub counts : HasSmallCounts m.ext
  pub short : All (λ (block : ExtBlock). length block.ops ≤ BLOCK_OPS) m.ext.blocks

-- all registers may be assigned, and the frame has all its slots
abbrev pub default_options : Options
default_options = record { regs = None; slots = SLOTS }
