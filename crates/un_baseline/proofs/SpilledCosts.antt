-- The plan that spills every name of a function costs what is stated of the function.
use Rattle.std.proofs.Common.{◌≡◌, ℕ, suc, ◌+◌, ◌*◌, ◌≤◌, Bool, true, false, List, [], ◌∷◌, length, Option, Some, None, All, refl, sym, ap}
use Rattle.std.proofs.Common.{subst, ◌∙◌, arith}
use Rattle.std.specs.Prelude.{◌||◌, slice_get}
use Rattle.std.proofs.lemmas.List.{length-append}
use Rattle.std.proofs.lemmas.List.Elements.{All-head, All-tail}
use Rattle.un_base.specs.declared.ids.NameId.{NameId}
use Rattle.un_isa.specs.Fit.{IsFit}
use Rattle.un_isa.specs.Registers.{callee_saved, saved_registers}
use Rattle.un_isa.specs.declared.reg.TheConstants.{LINK}
use Rattle.un_isa.specs.declared.table.Table.{Table}
use Rattle.un_ir.specs.declared.function.SrcOp.{SrcOp}
use Rattle.un_ir.specs.declared.function.Block.{Block}
use Rattle.un_ir.specs.declared.function.Function.{Function}
use Rattle.un_ir.specs.declared.extended.ExtBlock.{ExtBlock}
use Rattle.un_ir.specs.declared.extended.Ext.{Ext}
use Rattle.un_ir.specs.declared.extended.Value.{Value}
use Rattle.un_ir.specs.Extended.{returns, IsGoodExtBlock, IsExtended, IsLinear}
use Rattle.un_ir.specs.ExtendOf.{grown_block, with_ops, extended_blocks, extend_of}
use Rattle.un_ir.specs.LinearOf.{past, past_all, past_block, linear_block, linear_blocks, live_at, lin_of}
use Rattle.un_model.specs.declared.model.Model.{Model}
use Rattle.un_model.specs.declared.model.Options.{Options}
use Rattle.un_model.specs.Cost.{cost_of}
use Rattle.un_baseline.specs.RoomyOptions.{AreRoomy, IsOfFunction, IsSpillable}
use Rattle.un_baseline.proofs.Grounds.{is_linear, is_extended}
use Rattle.un_baseline.specs.SpilledCost.{block_packets, spilled_cost, spill_cost}
use Rattle.un_baseline.specs.SpillEverywhere.{block_plans, spilled_values}
use Rattle.un_baseline.proofs.FunctionIn.{assigns_well, reads_own}
use Rattle.un_baseline.proofs.AllIn.{low_results, past_count, AreWell, AllWell, all_well, source_ok}
use Rattle.un_baseline.proofs.BodiesReach.{AreSources}
use Rattle.un_baseline.proofs.BlockCosts.{block_takes}
use Rattle.un_baseline.proofs.PlanCosts.{plans_cost, cost_is}

-- ---- a block defines a temporary at least

past_low : (srcs : List SrcOp) (n : ℕ) → n ≤ past_all n srcs
past_low [] n = omega arith
past_low (src ∷ srcs) n = let rest = past_low srcs (past src.dst n) in let here = past_one src.dst in omega arith
  where
    past_one : (dst : Option NameId) → n ≤ past dst n
    past_one None = omega arith
    past_one (Some name) = omega arith

past_some : (t : Table) (lists : List (List NameId)) (bn n : ℕ) (blk : Block) → 1 ≤ past_block t lists bn n blk
past_some t lists bn n blk =
    let l = length-append (callee_saved t) (LINK ∷ []) in
    let rest = past_low blk.ops (n + length (live_at lists bn) + length (saved_registers t)) in
    omega arith

-- ---- all blocks

module _ (f : Function) (lists : List (List NameId)) (t : Table) (o : Options) (fit : IsFit t) where
  abbrev e : Ext
  e = extend_of (lin_of f lists t)

  abbrev count : ℕ
  count = length f.names

  abbrev linear : List ExtBlock
  linear = linear_blocks t count lists 0 0 f.blocks

  module _ (roomy : AreRoomy e o) (extended : IsExtended e) where
    sources_are : (b : ℕ) (entry : Bool) (block : ExtBlock) (at_b : slice_get e.blocks b ≡ Some block) (saved : Bool) (from : ℕ)
        (srcs : List SrcOp) → AreWell f srcs → AreSources e o roomy fit extended b entry block at_b saved from srcs
    sources_are b entry block at_b saved from [] h = tt
    sources_are b entry block at_b saved from (src ∷ srcs) h = (
      source_ok f lists t o fit roomy extended b entry block at_b src h.0,
      sources_are b entry block at_b saved from srcs h.1,
    )

    blocks_take : (entry : Bool) (d bn n : ℕ) (values : List Value) (next : ℕ) (blks : List Block) → length values ≡ n
        → (entry ≡ false → 1 ≤ n) → AllWell f blks → All (IsGoodExtBlock t e.names linear) (linear_blocks t count lists bn n blks)
        → ((k : ℕ) (x : ExtBlock) → slice_get (extended_blocks e.names entry values next (linear_blocks t count lists bn n blks)) k ≡ Some x
        → slice_get e.blocks (d + k) ≡ Some x)
        → (let blocks = extended_blocks e.names entry values next (linear_blocks t count lists bn n blks) in
        plans_cost blocks (block_plans e entry blocks) ≡ spilled_cost t lists entry bn blks)
    blocks_take entry d bn n values next [] size later well good at = refl
    blocks_take entry d bn n values next (blk ∷ blks) size later well good at =
        let lin = linear_block t count lists bn n blk in
        let g = grown_block e.names entry values next lin in
        let block = with_ops lin g.ops in
        let more = linear_blocks t count lists (bn + 1) (past_block t lists bn n blk) blks in
        let others = extended_blocks e.names false g.values g.next more in
        let z : d + 0 ≡ d = omega arith in
        let at_b : slice_get e.blocks d ≡ Some block = ap (slice_get e.blocks) (sym z) ∙ at 0 block refl in
        let low = low_results e o roomy fit extended d entry count lists bn n blk values next size in
        let reads = reads_own t e.names linear lin (All-head (IsGoodExtBlock t e.names linear) lin more good) n low e o entry block in
        let here = block_takes e o roomy fit extended d entry count lists bn n blk values next size later at_b
        (sources_are d entry block at_b (entry || returns lin) n blk.ops well.0) reads in
        let rest = blocks_take false (d + 1) (bn + 1) (past_block t lists bn n blk) g.values g.next blks
        (past_count e o roomy fit extended d entry count lists bn n blk values next size) (λ not. past_some t lists bn n blk) well.1
        (All-tail (IsGoodExtBlock t e.names linear) lin more good)
        (λ k x there. let q : d + suc k ≡ d + 1 + k = omega arith in ap (slice_get e.blocks) (sym q) ∙ at (suc k) x there) in
        ap (λ (packets : ℕ). blk.freq * packets + plans_cost others (block_plans e false others)) here
        ∙ ap (λ (n : ℕ). blk.freq * block_packets t entry (live_at lists bn) blk + n) rest

    pub function_costs : IsLinear (lin_of f lists t)
        → plans_cost e.blocks (block_plans e true e.blocks) ≡ spill_cost t f lists
    function_costs is_linear =
        blocks_take true 0 0 0 [] 0 f.blocks refl (λ not. absurd (cc not)) (all_well f f.blocks (λ b k block src at here. assigns_well f b k
        block src at here))
        is_linear.good.each (λ k x at. let z : k ≡ 0 + k = omega arith in ap (slice_get e.blocks) (sym z) ∙ at)

-- ---- the solution of a model

pub cost_of_model : (m : Model) → IsSpillable m → (values : List ℕ) → values ≡ spilled_values m.ext → (source : IsOfFunction m.ext)
    → cost_of m (record { values = values }) ≡ spill_cost m.ext.table source.function source.lists
cost_of_model m h values same source =
    ap (λ (xs : List ℕ). cost_of m (record { values = xs })) same
    ∙ ap (λ (n : Model). cost_of n (record { values = spilled_values m.ext })) h.model ∙ cost_is m.ext m.options
    ∙ subst (λ (e : Ext). AreRoomy e m.options → IsExtended e
    → plans_cost e.blocks (block_plans e true e.blocks) ≡ spill_cost m.ext.table source.function source.lists)
    (sym source.extended)
    (λ roomy kept. function_costs source.function source.lists m.ext.table m.options h.table roomy kept (is_linear m h source)) h.roomy
    (is_extended m h)
