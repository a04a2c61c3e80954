-- That a rule takes no value of a solution.
use Rattle.std.specs.Prelude.{ℕ, ◌≢◌, List, Option, slice_index}
use Rattle.un_isa.specs.Fit.{IsFit}
use Rattle.un_ir.specs.Extended.{IsExtended}
use Rattle.un_domains.specs.Sets.{Sets, IsIn}
use Rattle.un_model.specs.declared.model.Model.{Model}
use Rattle.un_model.specs.Options.{AreOptions}
use Rattle.un_model.specs.Variables.{IsModel}
use Rattle.un_model.specs.Boxes.{IsBelow}
use Rattle.un_steps.specs.Allowed.{MayGo}
use Rattle.un_steps.specs.declared.step.Rule.{Rule}

-- the model of an extended function for a table that fits
pub record IsGround (m : Model) : Type 0 where
  pub model : IsModel m
  pub extended : IsExtended m.ext
  pub fit : IsFit m.ext.table
  pub options : AreOptions m.options

-- no value of a solution below the limit goes from a box in which it lies
abbrev pub Keeps : Model → Option ℕ → Rule → Type 0
Keeps m limit rule =
    (s : Sets) (x : List ℕ) (o v y : ℕ) → IsIn x s → IsBelow m limit x → MayGo rule m limit s o v y → slice_index x v ≢ y
