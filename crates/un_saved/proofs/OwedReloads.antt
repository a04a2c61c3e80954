-- The Reloads that a block owes to the saved values which it reads in registers, counted in a schedule.
use Rattle.std.proofs.Common.{ℕ, ◌≡◌, ◌+◌, true, List, length, sym, ap, ◌∙◌, subst, eq-eqb}
use Rattle.std.specs.Prelude.{Some, slice_get, ◌==◌, nat_lt, nat_le}
use Rattle.un_isa.specs.Registers.{saved_registers}
use Rattle.un_isa.specs.Tables.{latency_of}
use Rattle.un_isa.specs.declared.op.Op.TheVariants.{Reload}
use Rattle.un_ir.specs.declared.extended.ExtBlock.{ExtBlock}
use Rattle.un_ir.specs.declared.extended.Ext.{Ext}
use Rattle.un_isa.specs.Fit.{IsFit}
use Rattle.un_ir.specs.Extended.{IsExtended}
use Rattle.un_model.specs.declared.model.Model.{Model}
use Rattle.un_model.specs.declared.model.Solution.{Solution}
use Rattle.un_model.specs.Options.{AreOptions}
use Rattle.un_model.specs.Solutions.{IsSolution}
use Rattle.un_model.specs.declared.model.Options.{Options}
use Rattle.un_model.specs.Schedules.{schedule_of}
use Rattle.un_model.specs.Variables.{IsModel, model_of}
use Rattle.un_model.proofs.Placed.{Placed, end_of, issue_at}
use Rattle.un_model.proofs.Readings.{Solved}
use Rattle.un_press.specs.Accesses.{is_reload, reloads_after, Reloads}
use Rattle.un_press.proofs.Descent.{cycle_at}
use Rattle.un_press.proofs.Spilling.{counted, three, lt_true, le_true}
use Rattle.un_saved.specs.Reads.{reads_saved}
use Rattle.un_saved.specs.Standing.{in_slots}
use Rattle.un_saved.specs.declared.boundary.Boundary.TheVariants.{StartOf}
use Rattle.un_saved.proofs.OnePlace.{saved_number}
use Rattle.un_saved.proofs.ReturnReloads.{ReloadsByEnd, start_all_reloads}
use Rattle.un_saved.proofs.Here.{here}
use Rattle.un_saved.proofs.Models.{solved as solution_of}

module _ (e : Ext) (o : Options) (values : List ℕ) (solved : Solved e o values) where
  abbrev cycle : Placed → ℕ
  cycle p = cycle_at e o values solved p

  pub reloads_owed : (k : ℕ) (b : ExtBlock) → slice_get e.blocks k ≡ Some b → reads_saved b ≡ true
      → Reloads (model_of e o) (record { values = values }) k 0
      (in_slots (schedule_of (model_of e o) values) e.blocks (StartOf k) (length (saved_registers e.table)))
  reloads_owed k b at reads =
      let h = here e o values solved k b at in
      let read = sym (ap reads_saved h.owner) ∙ reads in
      counted e o values solved (ReloadsByEnd e o values solved k h.region h.at read) (reloads_after e.table k 0)
      (in_slots (schedule_of (model_of e o) values) e.blocks (StartOf k) (saved_number e o values solved)) (λ p s. s.member) (λ p s.
      three (p.block == k) (is_reload (issue_at values p).instr) (nat_lt 0 (cycle p))
      (nat_le (cycle p + latency_of e.table Reload) (end_of values p)) (eq-eqb p.block k (s.block ∙ h.number)) (ap is_reload s.instr)
      (lt_true 0 (cycle p) s.first) (le_true (cycle p + latency_of e.table Reload) (end_of values p) s.last))
      (start_all_reloads e o values solved k h.region h.at read)

-- ---- of a model

module _ (m : Model) (s : Solution) (own : IsModel m) (extended : IsExtended m.ext) (fit : IsFit m.ext.table)
    (options : AreOptions m.options) (solution : IsSolution m s) where
  pub model_reloads : (k : ℕ) (b : ExtBlock) → slice_get m.ext.blocks k ≡ Some b → reads_saved b ≡ true
      → Reloads m s k 0 (in_slots (schedule_of m s.values) m.ext.blocks (StartOf k) (length (saved_registers m.ext.table)))
  model_reloads k b at reads = subst (λ (x : Model). Reloads x s k 0
      (in_slots (schedule_of x s.values) m.ext.blocks (StartOf k) (length (saved_registers m.ext.table)))) (sym own)
      (reloads_owed m.ext m.options s.values (solution_of m s own extended fit options solution) k b at reads)
