-- The plan that spills every name keeps the clauses on domains, latencies and the frame.
use Rattle.std.proofs.Common.{◌≡◌, ℕ, ◌<◌, true, List, [], ◌∷◌, length, sym, subst, ◌∙◌}
use Rattle.std.specs.Prelude.{All}
use Rattle.std.proofs.lemmas.List.Elements.{All-head, All-tail}
use Rattle.un_ir.specs.declared.extended.ExtBlock.{ExtBlock}
use Rattle.un_ir.specs.declared.extended.Ext.{Ext}
use Rattle.un_ir.specs.Extended.{IsGoodExtBlock, IsExtended}
use Rattle.un_model.specs.declared.model.Model.{Model}
use Rattle.un_model.specs.declared.schedule.Schedule.{Schedule}
use Rattle.un_model.specs.Cost.{value_of}
use Rattle.un_model.specs.Schedules.{schedule_of}
use Rattle.un_model.specs.Solutions.{KeepsDomains, uses_frame, KeepsFrameOrder, KeepsFrame, KeepsSpaces, KeepsLatencies, latency_gap}
use Rattle.un_baseline.specs.Plans.{planned_schedule}
use Rattle.un_baseline.specs.RoomyOptions.{AreRoomy, IsSpillable}
use Rattle.un_baseline.proofs.Grounds.{is_linear, is_extended}
use Rattle.un_baseline.specs.SpillEverywhere.{block_plans, spilled_values}
use Rattle.un_baseline.proofs.SpillSteps.{EachBlockOp}
use Rattle.un_baseline.proofs.Terminators.{SourceOp, source_kind, each_of_at, made_ended}
use Rattle.un_baseline.proofs.BlockTimes.{AreEndedBlocks, AreTimed, are_timed}
use Rattle.un_baseline.proofs.FrameOrder.{keeps_frame_order}
use Rattle.un_baseline.proofs.UsesFrame.{spilled_uses}
use Rattle.un_baseline.proofs.Latencies.{keeps_latencies}
use Rattle.un_baseline.proofs.InDomains.{AreIn, keeps_domains}
use Rattle.un_baseline.proofs.AllIn.{function_in}
use Rattle.un_baseline.proofs.Kept.{schedule_is, are_laid_out, same_schedule, all_real, spaces_of_model, frame_ops_of_model, flag_of_model}

-- ---- what every extended function keeps

module _ (e : Ext) where
  each_source : (blocks : List ExtBlock) → All (IsGoodExtBlock e.table e.names e.blocks) blocks → EachBlockOp SourceOp blocks
  each_source [] h = tt
  each_source (block ∷ blocks) h =
      let g = All-head (IsGoodExtBlock e.table e.names e.blocks) block blocks h in (
        each_of_at SourceOp block.ops (λ k op at. source_kind op.kind op (g.ops k op at).kind),
        each_source blocks (All-tail (IsGoodExtBlock e.table e.names e.blocks) block blocks h),
      )

  each_ended : (blocks : List ExtBlock) → All (IsGoodExtBlock e.table e.names e.blocks) blocks → AreEndedBlocks blocks
  each_ended [] h = tt
  each_ended (block ∷ blocks) h =
      let g = All-head (IsGoodExtBlock e.table e.names e.blocks) block blocks h in (
        made_ended block.ops g.parts.0 g.parts.1,
        each_ended blocks (All-tail (IsGoodExtBlock e.table e.names e.blocks) block blocks h),
      )

-- ---- the solution of a model

module _ (m : Model) (h : IsSpillable m) (values : List ℕ) (same : values ≡ spilled_values m.ext) where
  pub times_of_model : AreTimed m.ext true 0 0 m.ext.blocks
  times_of_model =
      let good = (is_extended m h).good in
      are_timed m.ext h.table true 0 0 m.ext.blocks (are_laid_out m h values same) (each_source m.ext m.ext.blocks good.each)
      (each_ended m.ext m.ext.blocks good.each)

  pub planned_of_model : planned_schedule m.ext.blocks (block_plans m.ext true m.ext.blocks) ≡ schedule_of m values
  planned_of_model = sym (schedule_is m.ext m.options) ∙ same_schedule m h values same

  pub latencies_of_model : KeepsLatencies (latency_gap m.ext.table) (schedule_of m values)
  latencies_of_model =
      subst (λ (t : Schedule). KeepsSpaces t → KeepsLatencies (latency_gap m.ext.table) t) planned_of_model
      (keeps_latencies m.ext h.table (is_extended m h) times_of_model) (spaces_of_model m h values same)

  frame_order : KeepsFrameOrder (schedule_of m values).issues
  frame_order = subst (λ (t : Schedule). KeepsFrameOrder t.issues) planned_of_model (keeps_frame_order m.ext h.table times_of_model)

  used : uses_frame (schedule_of m values) ≡ true
  used =
      let is = h.function.extended in
      subst (λ (t : Schedule). uses_frame t ≡ true) planned_of_model
      (subst (λ (e : Ext). 0 < length e.blocks → uses_frame (planned_schedule e.blocks (block_plans e true e.blocks)) ≡ true) (sym is)
      (spilled_uses h.function.function h.function.lists m.ext.table) (is_extended m h).good.entry)

  pub frame_of_model : KeepsFrame (value_of values m.flag) (schedule_of m values)
  frame_of_model =
      let one = flag_of_model m h values same in
      record {
        used = λ uses. one;
        needed = λ flag. used;
        without = λ none. let z : 0 ≡ 1 = sym none ∙ one in absurd (cc z);
        with_frame = λ flag. frame_ops_of_model m h values same;
        ordered = λ flag. frame_order;
      }

  each_in : AreIn m.ext m.options true m.ext.blocks
  each_in =
      let of = h.function in
      subst (λ (e : Ext). AreRoomy e m.options → IsExtended e → AreIn e m.options true e.blocks) (sym of.extended)
      (λ roomy kept. function_in of.function of.lists m.ext.table m.options h.table roomy kept (is_linear m h of)) h.roomy (is_extended m h)

  pub domains_of_model : KeepsDomains m.domains values
  domains_of_model =
      let laid = are_laid_out m h values same in
      let good = (is_extended m h).good in
      let kept = keeps_domains m.ext m.options h.table laid good.each times_of_model (all_real true m.ext.blocks laid) each_in in
      subst (KeepsDomains m.domains) (sym same) (subst (λ (n : Model). KeepsDomains n.domains (spilled_values m.ext)) (sym h.model) kept)
