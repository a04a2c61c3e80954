-- What the plan that spills every name costs, block by block.
use Rattle.std.proofs.Common.{◌≡◌, ℕ, ◌+◌, ◌-◌, ◌*◌, true, List, [], ◌∷◌, refl, ap, ◌∙◌, arith}
use Rattle.un_ir.specs.declared.extended.ExtBlock.{ExtBlock}
use Rattle.un_ir.specs.declared.extended.Ext.{Ext}
use Rattle.un_model.specs.declared.model.Options.{Options}
use Rattle.un_model.specs.Cost.{blocks_cost, cost_of}
use Rattle.un_model.specs.Variables.{blocks_vars, block_count, model_of}
use Rattle.un_baseline.specs.Plans.{BlockPlan, SuitsAll, block_values, blocks_values}
use Rattle.un_baseline.specs.SpillEverywhere.{block_plans, spilled_values}
use Rattle.un_baseline.proofs.Holding.{Holds, holds_whole, holds_left, holds_right}
use Rattle.un_baseline.proofs.PlanSchedules.{block_size, end_is}
use Rattle.un_baseline.proofs.SpillSteps.{plan_suits}

-- the sum over the blocks of frequency times the cycles before the end
abbrev pub plans_cost : List ExtBlock → List BlockPlan → ℕ
plans_cost [] plans = 0
plans_cost (block ∷ blocks) [] = 0
plans_cost (block ∷ blocks) (p ∷ plans) = block.freq * (p.end - 1) + plans_cost blocks plans

costs_are : (values : List ℕ) (first : ℕ) (blocks : List ExtBlock) (plans : List BlockPlan) → SuitsAll blocks plans
    → Holds values first (blocks_values blocks plans) → blocks_cost values blocks (blocks_vars first blocks) ≡ plans_cost blocks plans
costs_are values first [] plans fit h = refl
costs_are values first (block ∷ blocks) [] fit h = absurd fit
costs_are values first (block ∷ blocks) (p ∷ plans) fit h =
    let size = block_size block p fit.0 in
    let here = holds_left values first (block_values block p) (blocks_values blocks plans) h in
    let rest = costs_are values (first + block_count block) blocks plans fit.1 (holds_right values first (first + block_count block)
    (block_values
    block p) (blocks_values blocks plans) (omega arith) h) in
    ap (λ (end : ℕ). block.freq * (end - 1) + blocks_cost values blocks (blocks_vars (first + block_count block) blocks)) (end_is values
    first block p
    fit.0 here)
    ∙ ap (λ (n : ℕ). block.freq * (p.end - 1) + n) rest

pub cost_is : (e : Ext) (o : Options) → cost_of (model_of e o) (record { values = spilled_values e }) ≡ plans_cost e.blocks (block_plans
    e true e.blocks)
cost_is e o =
    let plans = block_plans e true e.blocks in
    costs_are (spilled_values e) 0 e.blocks plans (plan_suits e) (holds_left (spilled_values e) 0 (blocks_values e.blocks plans) (1 ∷ [])
    (holds_whole (spilled_values e)))
