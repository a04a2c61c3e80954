-- For which models every name can be spilled.
use Rattle.std.specs.Prelude.{ℕ, ◌≡◌, ◌<◌, ◌≤◌, List, IfSome, length}
use Rattle.un_base.specs.declared.ids.NameId.{NameId}
use Rattle.un_isa.specs.Fit.{IsFit}
use Rattle.un_ir.specs.declared.function.Function.{Function}
use Rattle.un_ir.specs.declared.function.TheConstants.{PARAMS}
use Rattle.un_ir.specs.declared.extended.Ext.{Ext}
use Rattle.un_ir.specs.ExtendOf.{extend_of}
use Rattle.un_ir.specs.LinearOf.{AreLive, lin_of}
use Rattle.un_model.specs.declared.model.Options.{Options}
use Rattle.un_model.specs.declared.model.Model.{Model}
use Rattle.un_model.specs.Options.{AreOptions}
use Rattle.un_model.specs.Variables.{IsModel}

-- enough registers may be assigned for the arguments of every call, r0 to r5, and there is a slot for each name of the function and one
-- more
pub record AreRoomyFor (f : Function) (o : Options) : Type 0 where
  pub regs : IfSome o.regs (λ (n : ℕ). PARAMS ≤ n)
  pub slots : length f.names < o.slots

-- the same of an extended function's names, under options that a model may have
pub record AreRoomy (e : Ext) (o : Options) : Type 0 where
  pub options : AreOptions o
  pub regs : IfSome o.regs (λ (n : ℕ). PARAMS ≤ n)
  pub slots : length e.names < o.slots

-- it is the extended function of a function
pub record IsOfFunction (e : Ext) : Type 0 where
  pub function : Function
  pub lists : List (List NameId)
  pub live : AreLive function.blocks lists
  pub extended : e ≡ extend_of (lin_of function lists e.table)

-- the model of a function's extended function under roomy options, for a table that the compiler works for
pub record IsSpillable (m : Model) : Type 0 where
  pub model : IsModel m
  pub table : IsFit m.ext.table
  pub function : IsOfFunction m.ext
  pub roomy : AreRoomy m.ext m.options
