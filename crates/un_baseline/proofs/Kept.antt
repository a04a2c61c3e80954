-- What the plan that spills every name keeps in the extended function of a function.
use Rattle.std.proofs.Common.{◌≡◌, ◌≢◌, ℕ, suc, ◌+◌, Bool, true, false, List, [], ◌∷◌, ◌++◌, length, map, replicate, Some, refl, sym, ap}
use Rattle.std.proofs.Common.{subst, ◌∙◌}
use Rattle.std.specs.Prelude.{◌||◌, slice_get, All}
use Rattle.std.proofs.Math.Logic.{∥∥₁_elim}
use Rattle.un_base.specs.declared.ids.NameId.{NameId}
use Rattle.un_isa.specs.Facts.{is_source}
use Rattle.un_isa.specs.Fit.{IsFit}
use Rattle.un_isa.specs.declared.op.Op.{Op}
use Rattle.un_isa.specs.declared.op.Op.TheVariants.{Enter as EnterOp}
use Rattle.un_isa.specs.declared.table.Table.{Table}
use Rattle.un_ir.specs.declared.function.Kind.{Kind}
use Rattle.un_ir.specs.declared.function.SrcOp.{SrcOp}
use Rattle.un_ir.specs.declared.function.Block.{Block}
use Rattle.un_ir.specs.declared.function.Function.{Function}
use Rattle.un_ir.specs.declared.function.Term.TheVariants.{Fall, Jump, Branch, Ret}
use Rattle.un_ir.specs.declared.extended.ExtKind.{ExtKind}
use Rattle.un_ir.specs.declared.extended.ExtKind.TheVariants.{In, Out, Body, End, Copy, Enter, Leave}
use Rattle.un_ir.specs.declared.extended.ExtOp.{ExtOp}
use Rattle.un_ir.specs.declared.extended.ExtBlock.{ExtBlock}
use Rattle.un_ir.specs.declared.extended.Ext.{Ext}
use Rattle.un_ir.specs.declared.extended.Value.{Value}
use Rattle.un_ir.specs.declared.extended.Growth.{Growth}
use Rattle.un_ir.specs.Extended.{returns}
use Rattle.un_ir.specs.ExtendOf.{extend_of, grown_block, with_ops, extended_blocks, with_all_extended, with_extended}
use Rattle.un_ir.specs.LinearOf.{lin_of, linear_blocks, linear_block, past_block, live_at, live_after, first_temps, current_after, body_ops}
use Rattle.un_ir.specs.LinearOf.{end_ops, out_op, in_op, kind_of_pair}
use Rattle.un_ir.specs.WellFormed.{IsGoodOp, IsGoodBlock, IsWellFormed}
use Rattle.un_ir.proofs.NameBounds.{at_all}
use Rattle.un_isa.specs.Registers.{callee_saved, saved_registers}
use Rattle.un_model.specs.declared.model.Model.{Model}
use Rattle.un_model.specs.declared.model.Options.{Options}
use Rattle.un_model.specs.Cost.{value_of}
use Rattle.un_model.specs.declared.schedule.Schedule.{Schedule}
use Rattle.un_model.specs.Schedules.{schedule_of}
use Rattle.un_baseline.proofs.FrameOps.{frame_ops_active}
use Rattle.un_model.specs.Congruences.{KeepsCongruences}
use Rattle.un_model.specs.Solutions.{KeepsZeros, KeepsChoices, KeepsSpaces, KeepsMemory, KeepsRegisters, KeepsPackets, KeepsHomes, HasFrame}
use Rattle.un_model.specs.Variables.{model_of}
use Rattle.un_baseline.specs.Plans.{planned_schedule}
use Rattle.un_baseline.specs.RoomyOptions.{IsSpillable}
use Rattle.un_baseline.specs.SpillEverywhere.{block_plans, spilled_values}
use Rattle.un_baseline.proofs.PlanSchedules.{schedule_of_plan, flag_of_plan}
use Rattle.un_baseline.proofs.SpillSteps.{EachOp, EachBlockOp, IsReal, plan_suits, keeps_zeros}
use Rattle.un_baseline.proofs.Clauses.{keeps_choices, keeps_congruences, keeps_spaces, keeps_homes, keeps_registers}
use Rattle.un_baseline.proofs.Fronts.{IsFrontKind, AreFront}
use Rattle.un_baseline.proofs.Layouts.{IsLaidOut, onward, back, AreLaidOut, each_weaker, laid_out_keep_memory, laid_out_keep_packets}
use Rattle.un_baseline.proofs.Tails.{IsReading, first_one, second_one}
use Rattle.un_baseline.proofs.Shapes.{EachSource, IsReadingOp, each_append, all_extended-append, link_reads}
use Rattle.un_baseline.proofs.BlockShapes.{begins, ended}

-- ---- operations of the source

-- no operation of a text is Enter
never_enter : (op : Op) → is_source op ≡ true → op ≢ EnterOp
never_enter op h e = let f : is_source EnterOp ≡ true = ap is_source (sym e) ∙ h in cc f

abbrev Calm : SrcOp → Type 0
Calm o = o.op ≢ EnterOp

source_calm : (f : Function) (b k : ℕ) (block : Block) (o : SrcOp) → slice_get f.blocks b ≡ Some block
    → slice_get block.ops k ≡ Some o → Calm o
source_calm f b k block o at here enter =
    ∥∥₁_elim f.well_formed (λ (x y : ⊥). absurd x)
    (λ (w : IsWellFormed f.name f.params f.names f.blocks).
    let g = at_all (IsGoodBlock f.names) f.blocks b block w.good_blocks at in
    let good = at_all (IsGoodOp f.names) block.ops k o g.ops here in
    never_enter o.op good.op enter)

each_source : (os : List SrcOp) → ((k : ℕ) (o : SrcOp) → slice_get os k ≡ Some o → Calm o) → EachSource Calm os
each_source [] h = tt
each_source (o ∷ os) h = (h 0 o refl, each_source os (λ k p e. h (suc k) p e))

abbrev EachBlockSource : List Block → Type 0
EachBlockSource [] = Unit {0}
EachBlockSource (block ∷ blocks) = EachSource Calm block.ops × EachBlockSource blocks

each_block_source : (blocks : List Block) → ((b k : ℕ) (block : Block) (o : SrcOp) → slice_get blocks b ≡ Some block
    → slice_get block.ops k ≡ Some o → Calm o) → EachBlockSource blocks
each_block_source [] h = tt
each_block_source (block ∷ blocks) h = (
  each_source block.ops (λ k o e. h 0 k block o refl e),
  each_block_source blocks
      (λ b k c o at e. h (suc b) k c o at e),
)

-- ---- blocks

blocks_laid_out : (names : List Kind) (t : Table) (count : ℕ) (lists : List (List NameId)) (entry : Bool) (b n : ℕ)
    (values : List Value) (next : ℕ) (blocks : List Block) → EachBlockSource blocks
    → AreLaidOut entry (extended_blocks names entry values next (linear_blocks t count lists b n blocks))
blocks_laid_out names t count lists entry b n values next [] h = tt
blocks_laid_out names t count lists entry b n values next (block ∷ blocks) h =
    let lin = linear_block t count lists b n block in
    let g = grown_block names entry values next lin in
    let live_in = live_at lists b in
    let live_out = live_after lists count b block.term in
    let kept = n + length live_in in
    let first = kept + length (saved_registers t) in
    let current = first_temps (replicate count 0) n live_in in
    let after = current_after current first block.ops in
    let saved = entry || returns lin in
    let rest = end_ops after (kept + length (callee_saved t)) block.term ++ out_op t after kept live_out block.term ∷ [] in
    let start = with_extended names live_in entry saved (in_op n (length live_in + length (saved_registers t)))
    (record { ops = []; values = values; next = next }) in
    let whole : g.ops ≡ (with_all_extended names live_in entry saved rest (with_all_extended names live_in entry saved
    (body_ops t current first block.ops) start)).ops =
    ap (λ (x : Growth). x.ops) (all_extended-append names live_in entry saved (body_ops t current first block.ops) rest start) in (
      ended names live_in saved entry t after (kept + length (callee_saved t)) kept live_out block.term (with_ops lin g.ops)
          (with_all_extended names live_in entry saved (body_ops t current first block.ops) start) whole
          (begins names live_in saved entry t current n (length live_in + length (saved_registers t)) first block.ops values next h.0),
      blocks_laid_out names t count lists false (b + 1) (past_block t lists b n block) g.values g.next blocks h.1,
    )

pub laid_out : (f : Function) (lists : List (List NameId)) (t : Table) → AreLaidOut true (extend_of (lin_of f lists t)).blocks
laid_out f lists t =
    blocks_laid_out (map kind_of_pair f.names) t (length f.names) lists true 0 0 [] 0 f.blocks (each_block_source f.blocks
    (λ b k block o at here. source_calm f b k block o at here))

-- ---- no terminator falls through

front_real : (entry : Bool) (kind : ExtKind) → IsFrontKind entry kind → IsReal kind
front_real entry In h = tt
front_real entry Out h = tt
front_real entry (Body o) h = tt
front_real entry (End Fall) h = absurd h
front_real entry (End (Jump to)) h = tt
front_real entry (End (Branch pred sense to)) h = tt
front_real entry (End (Ret value)) h = tt
front_real entry (Copy node) h = tt
front_real entry Enter h = tt
front_real entry Leave h = tt

abbrev RealOp : ExtOp → Type 0
RealOp op = IsReal op.kind

fronts_real : (entry : Bool) (ops : List ExtOp) → AreFront entry ops → EachOp RealOp ops
fronts_real entry [] h = tt
fronts_real entry (op ∷ ops) h = (front_real entry op.kind h.0, fronts_real entry ops h.1.1)

reading_real_by : (kind : ExtKind) → IsReading kind → IsReal kind
reading_real_by kind (first_one h) = subst IsReal (sym h) tt
reading_real_by kind (second_one h) = subst IsReal (sym h) tt

readings_real : (ops : List ExtOp) → EachOp IsReadingOp ops → EachOp RealOp ops
readings_real ops h = each_weaker IsReadingOp RealOp (λ op r. reading_real_by op.kind r) ops h

laid_real : (entry : Bool) (block : ExtBlock) → IsLaidOut entry block → EachOp RealOp block.ops
laid_real entry block (onward h) = fronts_real entry block.ops h.front
laid_real entry block (back h) =
    let tail = h.late ++ h.out ∷ [] in
    let late : EachOp RealOp tail = each_append RealOp h.late (h.out ∷ []) (readings_real h.late h.is_late) (
      subst IsReal
          (sym h.is_out) tt,
      tt,
    ) in
    let ending : EachOp RealOp (h.us ++ (h.op ∷ tail)) = each_append RealOp h.us (h.op ∷ tail) (readings_real h.us
    (link_reads h.us h.for_link)) (subst IsReal (sym h.is_return) tt, late) in
    subst (EachOp RealOp) (sym h.whole) (each_append RealOp h.front (h.leave ∷ (h.us ++ (h.op ∷ tail)))
    (fronts_real entry h.front h.is_front) (subst IsReal (sym h.is_leave) tt, ending))

pub all_real : (entry : Bool) (blocks : List ExtBlock) → AreLaidOut entry blocks → EachBlockOp RealOp blocks
all_real entry [] h = tt
all_real entry (block ∷ blocks) h = (laid_real entry block h.0, all_real false blocks h.1)

-- ---- what is kept

module _ (e : Ext) (o : Options) where
  pub schedule_is : schedule_of (model_of e o) (spilled_values e) ≡ planned_schedule e.blocks (block_plans e true e.blocks)
  schedule_is = schedule_of_plan e o (block_plans e true e.blocks) 1 (plan_suits e)

  pub zeros_kept : AreLaidOut true e.blocks → KeepsZeros (schedule_of (model_of e o) (spilled_values e))
  zeros_kept h = subst KeepsZeros (sym schedule_is) (keeps_zeros e (all_real true e.blocks h))

  pub memory_kept : IsFit e.table → AreLaidOut true e.blocks → KeepsMemory (schedule_of (model_of e o) (spilled_values e))
  memory_kept fit h = subst KeepsMemory (sym schedule_is) (laid_out_keep_memory e fit h)

  pub packets_kept : IsFit e.table → AreLaidOut true e.blocks → KeepsPackets e.table (schedule_of (model_of e o) (spilled_values e))
  packets_kept fit h = subst (KeepsPackets e.table) (sym schedule_is) (laid_out_keep_packets e fit h)

-- ---- the solution of a model

module _ (m : Model) (h : IsSpillable m) (values : List ℕ) (same : values ≡ spilled_values m.ext) where
  pub are_laid_out : AreLaidOut true m.ext.blocks
  are_laid_out = subst (λ (e : Ext). AreLaidOut true e.blocks) (sym h.function.extended)
      (laid_out h.function.function h.function.lists m.ext.table)

  pub same_schedule : schedule_of (model_of m.ext m.options) (spilled_values m.ext) ≡ schedule_of m values
  same_schedule = ap (λ (n : Model). schedule_of n (spilled_values m.ext)) (sym h.model) ∙ ap (schedule_of m) (sym same)

  pub zeros_of_model : KeepsZeros (schedule_of m values)
  zeros_of_model = subst KeepsZeros same_schedule (zeros_kept m.ext m.options are_laid_out)

  pub memory_of_model : KeepsMemory (schedule_of m values)
  memory_of_model = subst KeepsMemory same_schedule (memory_kept m.ext m.options h.table are_laid_out)

  pub packets_of_model : KeepsPackets m.ext.table (schedule_of m values)
  packets_of_model = subst (KeepsPackets m.ext.table) same_schedule (packets_kept m.ext m.options h.table are_laid_out)

  pub frame_ops_of_model : All (HasFrame true) (schedule_of m values).issues
  frame_ops_of_model = subst (λ (t : Schedule). All (HasFrame true) t.issues) (sym (schedule_is m.ext m.options)
      ∙ same_schedule) (frame_ops_active m.ext)

  pub flag_of_model : value_of values m.flag ≡ 1
  flag_of_model =
      ap (λ (xs : List ℕ). value_of xs m.flag) same ∙ ap (λ (n : Model). value_of (spilled_values m.ext) n.flag) h.model
      ∙ flag_of_plan m.ext m.options (block_plans m.ext true m.ext.blocks) 1 (plan_suits m.ext)

  -- what the plan keeps for the extended function of a function under this table
  for_function : (P : Schedule → Type 0) → (let x = extend_of (lin_of h.function.function h.function.lists m.ext.table) in P
      (planned_schedule x.blocks
      (block_plans x true x.blocks))) → P (schedule_of m values)
  for_function P kept =
      subst P (sym (schedule_is m.ext m.options) ∙ same_schedule)
      (subst (λ (x : Ext). P (planned_schedule x.blocks (block_plans x true x.blocks))) (sym h.function.extended) kept)

  pub choices_of_model : KeepsChoices (schedule_of m values)
  choices_of_model = for_function KeepsChoices (keeps_choices h.function.function h.function.lists m.ext.table h.table h.function.live)

  pub spaces_of_model : KeepsSpaces (schedule_of m values)
  spaces_of_model = for_function KeepsSpaces (keeps_spaces h.function.function h.function.lists m.ext.table h.table h.function.live)

  pub homes_of_model : KeepsHomes (schedule_of m values)
  homes_of_model = for_function KeepsHomes (keeps_homes h.function.function h.function.lists m.ext.table h.table h.function.live)

  pub registers_of_model : KeepsRegisters m.ext.table.clobbered (schedule_of m values)
  registers_of_model = for_function (KeepsRegisters m.ext.table.clobbered)
      (keeps_registers h.function.function h.function.lists m.ext.table h.table h.function.live)

  pub congruences_of_model : KeepsCongruences m.ext.blocks (schedule_of m values)
  congruences_of_model =
      subst (λ (t : Schedule). KeepsCongruences m.ext.blocks t) (sym (schedule_is m.ext m.options) ∙ same_schedule)
      (subst (λ (x : Ext). KeepsCongruences x.blocks (planned_schedule x.blocks (block_plans x true x.blocks))) (sym h.function.extended)
      (keeps_congruences h.function.function h.function.lists m.ext.table h.table h.function.live))
