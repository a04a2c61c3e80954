-- The Spills that the entry owes to its saved values, counted in a schedule.
use Rattle.std.proofs.Common.{ℕ, ◌≡◌, ◌≤◌, true, List, length, sym, ap, ◌∙◌, subst, eq-eqb}
use Rattle.std.specs.Prelude.{Some, slice_get, ◌==◌, nat_lt, count_by}
use Rattle.un_isa.specs.Registers.{saved_registers}
use Rattle.un_ir.specs.declared.extended.ExtBlock.{ExtBlock}
use Rattle.un_ir.specs.declared.extended.Ext.{Ext}
use Rattle.un_isa.specs.Fit.{IsFit}
use Rattle.un_ir.specs.Extended.{IsExtended}
use Rattle.un_model.specs.declared.model.Model.{Model}
use Rattle.un_model.specs.declared.model.Solution.{Solution}
use Rattle.un_model.specs.Options.{AreOptions}
use Rattle.un_model.specs.Solutions.{IsSolution}
use Rattle.un_model.specs.declared.model.Options.{Options}
use Rattle.un_model.specs.Schedules.{schedule_of, issues_of}
use Rattle.un_model.specs.Variables.{IsModel, model_of}
use Rattle.un_model.proofs.Placed.{Placed, end_of, issue_at}
use Rattle.un_model.proofs.Readings.{Solved}
use Rattle.un_press.specs.Accesses.{is_spill}
use Rattle.un_press.proofs.Descent.{cycle_at}
use Rattle.un_press.proofs.Spilling.{counted, three, lt_true}
use Rattle.un_saved.specs.Owed.{spills_inside}
use Rattle.un_saved.specs.Saved.{hands_own}
use Rattle.un_saved.specs.Standing.{in_slots}
use Rattle.un_saved.specs.declared.boundary.Boundary.TheVariants.{EndOf}
use Rattle.un_saved.proofs.OnePlace.{saved_number}
use Rattle.un_saved.proofs.EntrySpills.{SpillsAtEntry, entry_spills}
use Rattle.un_saved.proofs.Here.{here}
use Rattle.un_saved.proofs.Models.{solved as solution_of}

module _ (e : Ext) (o : Options) (values : List ℕ) (solved : Solved e o values) where
  abbrev cycle : Placed → ℕ
  cycle p = cycle_at e o values solved p

  pub spills_owed : (b : ExtBlock) → slice_get e.blocks 0 ≡ Some b → hands_own b ≡ true
      → in_slots (schedule_of (model_of e o) values) e.blocks (EndOf 0) (length (saved_registers e.table))
      ≤ count_by (spills_inside 0) (issues_of (model_of e o) values)
  spills_owed b at own =
      let h = here e o values solved 0 b at in
      counted e o values solved (SpillsAtEntry e o values solved) (spills_inside 0)
      (in_slots (schedule_of (model_of e o) values) e.blocks (EndOf 0) (saved_number e o values solved)) (λ p s. s.member) (λ p s.
      three (p.block == 0) (is_spill (issue_at values p).instr) (nat_lt 1 (cycle p)) (nat_lt (cycle p) (end_of values p))
      (eq-eqb p.block 0 s.block) (ap is_spill s.instr) (lt_true 1 (cycle p) s.late) (lt_true (cycle p) (end_of values p) s.before))
      (entry_spills e o values solved h.region h.at (sym (ap hands_own h.owner) ∙ own))

-- ---- of a model

module _ (m : Model) (s : Solution) (own : IsModel m) (extended : IsExtended m.ext) (fit : IsFit m.ext.table)
    (options : AreOptions m.options) (solution : IsSolution m s) where
  pub model_spills : (b : ExtBlock) → slice_get m.ext.blocks 0 ≡ Some b → hands_own b ≡ true
      → in_slots (schedule_of m s.values) m.ext.blocks (EndOf 0) (length (saved_registers m.ext.table))
      ≤ count_by (spills_inside 0) (issues_of m s.values)
  model_spills b at hands = subst (λ (x : Model). in_slots (schedule_of x s.values) m.ext.blocks (EndOf 0) (length (saved_registers m.ext.table))
      ≤ count_by (spills_inside 0) (issues_of x s.values)) (sym own)
      (spills_owed m.ext m.options s.values (solution_of m s own extended fit options solution) b at hands)
