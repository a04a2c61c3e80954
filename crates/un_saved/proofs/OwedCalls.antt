-- How many saved values a block with a call has in slots.
use Rattle.std.proofs.Common.{ℕ, ◌≡◌, ◌≤◌, ◌+◌, true, List, length, sym, ap, ◌∙◌, subst, Contains}
use Rattle.std.specs.Prelude.{Some, slice_get}
use Rattle.un_isa.specs.Registers.{callee_saved, saved_registers}
use Rattle.un_ir.specs.Kinds.{is_call_kind}
use Rattle.un_ir.specs.declared.extended.ExtOp.{ExtOp}
use Rattle.un_ir.specs.declared.extended.ExtBlock.{ExtBlock}
use Rattle.un_ir.specs.declared.extended.Ext.{Ext}
use Rattle.un_isa.specs.Fit.{IsFit}
use Rattle.un_ir.specs.Extended.{IsExtended}
use Rattle.un_model.specs.declared.model.Model.{Model}
use Rattle.un_model.specs.declared.model.Solution.{Solution}
use Rattle.un_model.specs.Options.{AreOptions}
use Rattle.un_model.specs.Solutions.{IsSolution}
use Rattle.un_model.specs.declared.model.Options.{Options}
use Rattle.un_model.specs.Schedules.{schedule_of}
use Rattle.un_model.specs.Variables.{IsModel, model_of, var_at, ops_count}
use Rattle.un_lists.proofs.Lists.{Member, member_at, place_of as position_of}
use Rattle.un_model.proofs.Operations.{contains_member, placed_get}
use Rattle.un_model.proofs.Placed.{Placed, Region, region_placed}
use Rattle.un_model.proofs.Readings.{Solved}
use Rattle.un_saved.specs.Saved.{keeps_places}
use Rattle.un_saved.specs.Standing.{in_slots}
use Rattle.un_saved.specs.declared.boundary.Boundary.TheVariants.{StartOf}
use Rattle.un_saved.proofs.CallReloads.{call_crowds}
use Rattle.un_saved.proofs.Here.{here}
use Rattle.un_saved.proofs.Models.{solved as solution_of}

module _ (e : Ext) (o : Options) (values : List ℕ) (solved : Solved e o values) where
  -- an operation of a block is one of its region
  in_region : (r : Region) (b : ExtBlock) (op : ExtOp) → b ≡ r.owner → Contains b.ops op
      → (q : Placed) × Member q (region_placed r) × (q.op ≡ op)
  in_region r b op owner has =
      let own : ExtBlock = r.owner in
      let i = position_of own.ops op (contains_member own.ops op (subst (λ (c : ExtBlock). Contains c.ops op) owner has)) in
      let got = placed_get r.block own (var_at (r.first + ops_count own.ops)) r.number r.first i.0 own.ops op i.2 in
      (got.0, member_at (region_placed r) i.0 got.0 got.1, got.2)

  pub calls_owe : (k : ℕ) (b : ExtBlock) (op : ExtOp) → slice_get e.blocks k ≡ Some b → keeps_places b ≡ true → Contains b.ops op
      → is_call_kind op.kind ≡ true → length (saved_registers e.table) ≤ length (callee_saved e.table)
      + in_slots (schedule_of (model_of e o) values) e.blocks (StartOf k) (length (saved_registers e.table))
  calls_owe k b op at keeps has call =
      let h = here e o values solved k b at in
      let q = in_region h.region b op h.owner has in
      call_crowds e o values solved k h.region h.at (sym (ap keeps_places h.owner) ∙ keeps) q.0 q.1
      (ap (λ (x : ExtOp). is_call_kind x.kind) q.2 ∙ call)

-- ---- of a model

module _ (m : Model) (s : Solution) (own : IsModel m) (extended : IsExtended m.ext) (fit : IsFit m.ext.table)
    (options : AreOptions m.options) (solution : IsSolution m s) where
  pub model_calls : (k : ℕ) (b : ExtBlock) (op : ExtOp) → slice_get m.ext.blocks k ≡ Some b → keeps_places b ≡ true → Contains b.ops op
      → is_call_kind op.kind ≡ true → length (saved_registers m.ext.table) ≤ length (callee_saved m.ext.table)
      + in_slots (schedule_of m s.values) m.ext.blocks (StartOf k) (length (saved_registers m.ext.table))
  model_calls k b op at keeps has call = subst (λ (x : Model). length (saved_registers m.ext.table) ≤ length (callee_saved m.ext.table)
      + in_slots (schedule_of x s.values) m.ext.blocks (StartOf k) (length (saved_registers m.ext.table))) (sym own)
      (calls_owe m.ext m.options s.values (solution_of m s own extended fit options solution) k b op at keeps has call)
