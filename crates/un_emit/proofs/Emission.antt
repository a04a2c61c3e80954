-- The packets that a solution comes to do, from each start, what the extended function does, and no packet waits.
use Rattle.std.proofs.Common.{ℕ, ◌≡◌, ◌+◌, ◌-◌, List, sym, ap, ◌∙◌, subst}
use Rattle.std.specs.Prelude.{Option, slice_get, slice_index}
use Rattle.un_isa.specs.declared.reg.TheConstants.{STACK}
use Rattle.un_isa.specs.declared.start.Start.{Start}
use Rattle.un_ir.specs.declared.extended.ExtBlock.{ExtBlock}
use Rattle.un_ir.specs.declared.extended.Ext.{Ext}
use Rattle.un_ir.specs.Linear.{LinearRun, linear_run, enter, first_taken, first_values, first_world}
use Rattle.un_model.specs.declared.model.Options.{Options}
use Rattle.un_model.specs.Cost.{value_of}
use Rattle.un_model.specs.Emission.{frame_of}
use Rattle.un_model.specs.Variables.{model_of, block_vars, var_at, ops_count}
use Rattle.un_packet.specs.Run.{NeverWaits, first_state, enter as enter_packets}
use Rattle.un_simulation.specs.Simulation.{CanStart}
use Rattle.un_emit.specs.Emitted.{code_block, code_blocks}
use Rattle.un_lists.proofs.Lists.{get_below}
use Rattle.un_emit.proofs.Cycles.{packets_from}
use Rattle.un_model.proofs.Placed.{block_placed}
use Rattle.un_emit.proofs.Jobs.{jobs_of}
use Rattle.un_model.proofs.Readings.{Solved}
use Rattle.un_emit.proofs.Codes.{region_vars, packets_same, block_there, label_leads_to}
use Rattle.un_emit.proofs.Starts.{base, base_even, base_top, base_room, at_first}
use Rattle.un_emit.proofs.Runs.{region, IsCodeOf, RunsAlike, known_all}

module _ (e : Ext) (o : Options) (values : List ℕ) (h : Solved e o values) where
  pub is_code : IsCodeOf e o values h (code_blocks (model_of e o) values)
  is_code = record {
    code_at = λ k block at.
        let m = model_of e o in
        let r = region_vars e o values k block at in
        let z = r.0 in
        let g = z.region in (
          code_block m values block (block_vars g.first block),
          block_there e o values k block at,
          packets_same m values g.block g.number g.first block
              ∙ ap (λ (b : ExtBlock). packets_from (jobs_of m values (block_placed g.block g.number g.first b)) 1
              (value_of values (var_at (g.first + ops_count b.ops)) - 1)) (sym z.owner),
        );
    label_at = λ k block at. let x = h.extended in let g = x.good in label_leads_to e o values g.distinct_labels k block at;
  }

  module _ (s : Start) (can : CanStart s (frame_of (model_of e o) values)) where
    -- the two runs from a start
    pub runs_alike : (n : ℕ) → RunsAlike e o values h (slice_index s.regs STACK) (linear_run e.table e.blocks s n)
        (enter_packets e.table (code_blocks (model_of e o) values) n 0 (first_state (frame_of (model_of e o) values) s))
        × NeverWaits e.table (code_blocks (model_of e o) values) n 0 (first_state (frame_of (model_of e o) values) s)
    runs_alike n =
        let x = h.extended in
        let g = x.good in
        let entry = get_below e.blocks 0 g.entry in
        let r = region e o values h 0 entry.0 entry.1 in
        let run = enter_packets e.table (code_blocks (model_of e o) values) n 0 (first_state (frame_of (model_of e o) values) s) in
        let f = known_all e o values h (code_blocks (model_of e o) values) is_code (base e o values h entry.0 entry.1 r s can)
        (base_even e o values h entry.0 entry.1 r s can) (base_room e o values h entry.0 entry.1 r s can) n 0 entry.0 entry.1
        (first_values e.table (entry.0).live_in s) (first_world s) (first_state (frame_of (model_of e o) values) s)
        (at_first e o values h entry.0 entry.1 r s can) in
        let taken : first_values e.table (entry.0).live_in s ≡ first_taken e.table (slice_get e.blocks 0) s =
        ap (λ (b : Option ExtBlock). first_taken e.table b s) (sym entry.1) in (
          subst (λ (l : LinearRun). RunsAlike e o values h (slice_index s.regs STACK) l run)
              (ap (λ vs. enter e.blocks n 0 vs (first_world s)) taken)
              (subst (λ top. RunsAlike e o values h top (enter e.blocks n 0 (first_values e.table (entry.0).live_in s) (first_world s)) run)
              (base_top e o values h entry.0 entry.1 r s can) f.0),
          f.1,
        )
