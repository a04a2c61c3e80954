-- A solution of a model that is its own function's model is one of that function's model.
use Rattle.std.proofs.Common.{subst}
use Rattle.un_isa.specs.Fit.{IsFit}
use Rattle.un_ir.specs.Extended.{IsExtended}
use Rattle.un_model.specs.declared.model.Model.{Model}
use Rattle.un_model.specs.declared.model.Solution.{Solution}
use Rattle.un_model.specs.Options.{AreOptions}
use Rattle.un_model.specs.Schedules.{schedule_of}
use Rattle.un_model.specs.Solutions.{IsSchedule, IsSolution, latency_gap}
use Rattle.un_model.specs.Variables.{IsModel}
use Rattle.un_model.proofs.Readings.{Solved}

pub solved : (m : Model) (s : Solution) → IsModel m → IsExtended m.ext → IsFit m.ext.table → AreOptions m.options → IsSolution m s
    → Solved m.ext m.options s.values
solved m s own extended fit options solution = record {
  extended = extended;
  fit = fit;
  options = options;
  schedule = subst (λ (x : Model). IsSchedule (latency_gap m.ext.table) x.domains x s.values (schedule_of x s.values)) own solution;
}
