-- The same of the solutions of a model, which is that of its function.
use Rattle.std.proofs.Common.{ℕ, ◌≡◌, ◌<◌, length, sym, subst}
use Rattle.un_isa.specs.Fit.{IsFit}
use Rattle.un_isa.specs.Registers.{saved_registers}
use Rattle.un_ir.specs.Extended.{IsExtended}
use Rattle.un_model.specs.declared.model.Model.{Model}
use Rattle.un_model.specs.declared.model.Solution.{Solution}
use Rattle.un_model.specs.Options.{AreOptions}
use Rattle.un_model.specs.Schedules.{schedule_of}
use Rattle.un_model.specs.Solutions.{IsSchedule, IsSolution, latency_gap}
use Rattle.un_model.specs.Variables.{IsModel}
use Rattle.un_model.proofs.Readings.{Solved}
use Rattle.un_saved.specs.Standing.{place_at, IsJoined, in_slots}
use Rattle.un_saved.specs.declared.boundary.Boundary.{Boundary}
use Rattle.un_saved.specs.declared.boundary.Boundary.TheVariants.{EndOf}
use Rattle.un_saved.proofs.OnePlace.{one_place, one_count}

module _ (m : Model) (s : Solution) (own : IsModel m) (extended : IsExtended m.ext) (fit : IsFit m.ext.table)
    (options : AreOptions m.options) (solution : IsSolution m s) where
  pub solved : Solved m.ext m.options s.values
  solved = record {
    extended = extended;
    fit = fit;
    options = options;
    schedule = subst (λ (x : Model). IsSchedule (latency_gap m.ext.table) x.domains x s.values (schedule_of x s.values)) own solution;
  }

  pub model_place : (c : Boundary) → IsJoined m.ext.blocks c → (j : ℕ) → j < length (saved_registers m.ext.table)
      → place_at (schedule_of m s.values) m.ext.blocks (EndOf 0) j ≡ place_at (schedule_of m s.values) m.ext.blocks c j
  model_place c joined j lt = subst (λ (x : Model).
      place_at (schedule_of x s.values) m.ext.blocks (EndOf 0) j ≡ place_at (schedule_of x s.values) m.ext.blocks c j) (sym own)
      (one_place m.ext m.options s.values solved c joined j lt)

  pub model_count : (c : Boundary) → IsJoined m.ext.blocks c
      → in_slots (schedule_of m s.values) m.ext.blocks (EndOf 0) (length (saved_registers m.ext.table))
      ≡ in_slots (schedule_of m s.values) m.ext.blocks c (length (saved_registers m.ext.table))
  model_count c joined = subst (λ (x : Model). in_slots (schedule_of x s.values) m.ext.blocks (EndOf 0) (length (saved_registers m.ext.table))
      ≡ in_slots (schedule_of x s.values) m.ext.blocks c (length (saved_registers m.ext.table))) (sym own)
      (one_count m.ext m.options s.values solved c joined)
