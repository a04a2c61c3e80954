-- What the model of a function's extended function stands on: its linear and its extended function are sound.
use Rattle.std.proofs.Common.{sym, subst}
use Rattle.un_ir.specs.Extended.{IsLinear, IsExtended}
use Rattle.un_ir.specs.LinearOf.{lin_of}
use Rattle.un_model.specs.declared.model.Model.{Model}
use Rattle.un_problem.proofs.ProblemLaws.{linear_kept, extended_kept}
use Rattle.un_baseline.specs.RoomyOptions.{IsOfFunction, IsSpillable}

module _ (m : Model) (h : IsSpillable m) where
  pub is_linear : (source : IsOfFunction m.ext) → IsLinear (lin_of source.function source.lists m.ext.table)
  is_linear source = linear_kept m.ext.table source.function source.lists source.live h.table

  pub is_extended : IsExtended m.ext
  is_extended =
      let of = h.function in subst IsExtended (sym of.extended) (extended_kept m.ext.table of.function of.lists of.live h.table)
