-- Models that can be searched.
use Rattle.std.specs.Prelude.{All}
use Rattle.un_ir.specs.Extended.{IsExtended}
use Rattle.un_isa.specs.Fit.{IsFit}
use Rattle.un_model.specs.declared.model.Model.{Model}
use Rattle.un_model.specs.Extended.{HasSmallCounts}
use Rattle.un_model.specs.Options.{AreOptions}
use Rattle.un_model.specs.Variables.{IsModel}
use Rattle.un_bound.specs.Arcs.{IsShort}

-- what a search asks of a model
pub record IsSearchable (m : Model) : Type 0 where
  pub model : IsModel m
  pub extended : IsExtended m.ext
  pub fit : IsFit m.ext.table
  pub options : AreOptions m.options
  pub counts : HasSmallCounts m.ext
  pub short : All IsShort m.ext.blocks
