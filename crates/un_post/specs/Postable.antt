-- A model for which propagators can be posted.
use Rattle.un_ir.specs.Extended.{IsExtended}
use Rattle.un_isa.specs.Fit.{IsFit}
use Rattle.un_model.specs.Options.{AreOptions}
use Rattle.un_model.specs.Variables.{IsModel}
use Rattle.un_model.specs.declared.model.Model.{Model}

-- the model of an extended function that is well made, for a table that fits and options that are allowed
pub record IsPostable (m : Model) : Type 0 where
  pub model : IsModel m
  pub extended : IsExtended m.ext
  pub fit : IsFit m.ext.table
  pub options : AreOptions m.options
