-- The values of the plan that spills every name lie in their domains, where those of each operation do.
use Rattle.std.proofs.Common.{◌≡◌, ℕ, ◌+◌, ◌*◌, Bool, true, false, List, [], ◌∷◌, ◌++◌, length, map, refl, sym, subst, ◌∙◌, append_assoc}
use Rattle.std.proofs.Common.{arith}
use Rattle.std.specs.Prelude.{All}
use Rattle.std.specs.List.{AllZip}
use Rattle.std.specs.Option.{option_to_list}
use Rattle.std.proofs.lemmas.List.Elements.{All-head, All-tail}
use Rattle.un_isa.specs.Fit.{IsFit}
use Rattle.un_ir.specs.declared.extended.ExtOp.{ExtOp}
use Rattle.un_ir.specs.declared.extended.ExtBlock.{ExtBlock}
use Rattle.un_ir.specs.declared.extended.Ext.{Ext}
use Rattle.un_ir.specs.Extended.{IsGoodExtBlock}
use Rattle.un_ir.proofs.GoodOps.{zip_append}
use Rattle.un_domains.specs.declared.domain.Domain.TheVariants.{Range}
use Rattle.un_model.specs.declared.model.Options.{Options}
use Rattle.un_model.specs.Pairs.{places_from}
use Rattle.un_model.specs.Solutions.{InDomain, KeepsDomains}
use Rattle.un_ir.specs.Kinds.{is_optional}
use Rattle.un_model.specs.Variables.{has_cycle, chosen_operands, instr_domain, cycle_domain, choice_domain, result_domain}
use Rattle.un_model.specs.Variables.{carries_truth, op_domains, ops_domains, block_domains, blocks_domains, own_horizon, domains_of}
use Rattle.un_baseline.specs.Plans.{Step, value_if, step_values, steps_values, block_values, blocks_values, planned_issues}
use Rattle.un_baseline.specs.SpillEverywhere.{setting_of, first_progress, first_cycle, block_plan, block_plans, spilled_values}
use Rattle.un_baseline.proofs.Each.{EachStep}
use Rattle.un_baseline.proofs.SpillSteps.{EachOp, EachBlockOp, IsReal, Rests, rests_by, steps_each_of}
use Rattle.un_baseline.proofs.BlockTimes.{BlockTimes, AreTimed}
use Rattle.un_baseline.proofs.Horizons.{CycleIn, cycles_in, end_bound}
use Rattle.un_baseline.proofs.Latencies.{block_placed, first_positive}
use Rattle.un_baseline.proofs.Layouts.{AreLaidOut, IsLaidOut}

-- what an operation has but for its cycle lies in its domain
pub record StepIn (e : Ext) (o : Options) (entry : Bool) (block : ExtBlock) (op : ExtOp) (s : Step) : Type 0 where
  pub instr : AllZip InDomain (value_if (is_optional op.kind) s.instr) (option_to_list (instr_domain (carries_truth e block op
      op.results) op.kind))
  pub choices : AllZip InDomain s.choices (map choice_domain (chosen_operands op))
  pub registers : AllZip InDomain s.registers (places_from (result_domain e o entry block op) 0 op.results)

-- of all blocks, of which the first is the entry or none is
abbrev pub AreIn : Ext → Options → Bool → List ExtBlock → Type 0
AreIn e o entry [] = Unit {0}
AreIn e o entry (block ∷ blocks) = EachStep (λ m. StepIn e o entry block) 0 block.ops (block_plan e entry block).steps × AreIn e o false
    blocks

block_rests : (e : Ext) (entry : Bool) (block : ExtBlock) (n : ℕ) → EachOp (λ (op : ExtOp). IsReal op.kind) block.ops
    → EachStep (λ m. Rests) n block.ops (block_plan e entry block).steps
block_rests e entry block n real =
    let s = setting_of e entry block in
    steps_each_of (λ (op : ExtOp). IsReal op.kind) (λ m. Rests) e block s (λ m p purpose op h. rests_by e block s p purpose op op.kind
    refl h) n
    (first_progress e entry) block.ops real

module _ (e : Ext) (o : Options) where
  step_in : (entry : Bool) (block : ExtBlock) (horizon : ℕ) (op : ExtOp) (s : Step) → StepIn e o entry block op s → CycleIn horizon op s
      → AllZip InDomain (step_values op s) (op_domains e o entry block horizon op)
  step_in entry block horizon op s h c =
      let instrs = option_to_list (instr_domain (carries_truth e block op op.results) op.kind) in
      let cycles = option_to_list (cycle_domain horizon op.kind) in
      let choices = map choice_domain (chosen_operands op) in
      let registers = places_from (result_domain e o entry block op) 0 op.results in
      let grouped : op_domains e o entry block horizon op ≡ instrs ++ (cycles ++ (choices ++ registers)) =
      append_assoc (instrs ++ cycles) choices registers ∙ append_assoc instrs cycles (choices ++ registers) in
      subst (AllZip InDomain (step_values op s)) (sym grouped)
      (zip_append InDomain (value_if (is_optional op.kind) s.instr) (value_if (has_cycle op.kind) s.cycle ++ (s.choices ++ s.registers))
      instrs
      (cycles ++ (choices ++ registers)) h.instr
      (zip_append InDomain (value_if (has_cycle op.kind) s.cycle) (s.choices ++ s.registers) cycles (choices ++ registers) c.cycle
      (zip_append InDomain s.choices s.registers choices registers h.choices h.registers)))

  steps_in : (entry : Bool) (block : ExtBlock) (horizon n m : ℕ) (ops : List ExtOp) (steps : List Step)
      → EachStep (λ k. StepIn e o entry block) n ops steps → EachStep (λ k. CycleIn horizon) m ops steps
      → AllZip InDomain (steps_values ops steps) (ops_domains e o entry block horizon ops)
  steps_in entry block horizon n m [] [] h c = tt
  steps_in entry block horizon n m [] (s ∷ steps) h c = absurd h
  steps_in entry block horizon n m (op ∷ ops) [] h c = absurd h
  steps_in entry block horizon n m (op ∷ ops) (s ∷ steps) h c =
      zip_append InDomain (step_values op s) (steps_values ops steps) (op_domains e o entry block horizon op) (ops_domains e o entry
      block horizon ops)
      (step_in entry block horizon op s h.0 c.0) (steps_in entry block horizon (n + 1) (m + 1) ops steps h.1 c.1)

  module _ (fit : IsFit e.table) where
    block_in : (entry : Bool) (b n : ℕ) (block : ExtBlock) → IsLaidOut entry block → block.horizon ≡ 2 * length block.ops + 2
        → BlockTimes e.table (first_cycle e.table entry) (block_plan e entry block).end (planned_issues b n block (block_plan e entry
        block))
        → EachOp (λ (op : ExtOp). IsReal op.kind) block.ops → EachStep (λ m. Rests) n block.ops (block_plan e entry block).steps
        → EachStep (λ m. StepIn e o entry block) 0 block.ops (block_plan e entry block).steps
        → AllZip InDomain (block_values block (block_plan e entry block)) (block_domains e o entry (own_horizon block) block)
    block_in entry b n block laid size times real rests h =
        let p = block_plan e entry block in
        let bound = end_bound e fit entry block laid in
        let horizon = block.horizon in
        let low = first_positive e.table entry in
        let now = times.entered_by in
        let last = times.now_end in
        let cycles = cycles_in horizon p.end (omega arith) b n block.ops p.steps (block_placed e fit entry b n block times) rests real in
        zip_append InDomain (steps_values block.ops p.steps) (p.end ∷ []) (ops_domains e o entry block horizon block.ops) (Range 1
        horizon ∷ [])
        (steps_in entry block horizon 0 n block.ops p.steps h cycles) ((omega arith, omega arith), tt)

    blocks_in : (entry : Bool) (b n : ℕ) (blocks : List ExtBlock) → AreLaidOut entry blocks
        → All (IsGoodExtBlock e.table e.names e.blocks) blocks
        → AreTimed e entry b n blocks → EachBlockOp (λ (op : ExtOp). IsReal op.kind) blocks → AreIn e o entry blocks
        → AllZip InDomain (blocks_values blocks (block_plans e entry blocks)) (blocks_domains e o own_horizon entry blocks)
    blocks_in entry b n [] laid good times real h = tt
    blocks_in entry b n (block ∷ blocks) laid good times real h =
        let p = block_plan e entry block in
        let g = All-head (IsGoodExtBlock e.table e.names e.blocks) block blocks good in
        zip_append InDomain (block_values block p) (blocks_values blocks (block_plans e false blocks)) (block_domains e o entry
        (own_horizon block)
        block) (blocks_domains e o own_horizon false blocks)
        (block_in entry b n block laid.0 g.horizon times.0 real.0 (block_rests e entry block n real.0) h.0)
        (blocks_in false (b + 1) (n + length block.ops) blocks laid.1 (All-tail (IsGoodExtBlock e.table e.names e.blocks) block blocks good)
        times.1 real.1 h.1)

    pub keeps_domains : AreLaidOut true e.blocks → All (IsGoodExtBlock e.table e.names e.blocks) e.blocks → AreTimed e true 0 0 e.blocks
        → EachBlockOp (λ (op : ExtOp). IsReal op.kind) e.blocks → AreIn e o true e.blocks
        → KeepsDomains (domains_of own_horizon e o) (spilled_values e)
    keeps_domains laid good times real h =
        zip_append InDomain (blocks_values e.blocks (block_plans e true e.blocks)) (1 ∷ []) (blocks_domains e o own_horizon true e.blocks)
        (Range 0 1 ∷ []) (blocks_in true 0 0 e.blocks laid good times real h) ((omega arith, omega arith), tt)
