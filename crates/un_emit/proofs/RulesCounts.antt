-- How many packets the emitted code has: a block's end is at most its horizon, and all horizons together are few.
use Rattle.std.proofs.Common.{ℕ, ◌≡◌, ◌<◌, ◌≤◌, ◌+◌, ◌*◌, Bool, true, false, List, [], ◌∷◌, length, map, refl, subst, arith}
use Rattle.std.specs.Prelude.{slice_index, sum_by}
use Rattle.std.specs.List.{zip}
use Rattle.un_ir.specs.declared.extended.ExtOp.{ExtOp}
use Rattle.un_ir.specs.declared.extended.ExtBlock.{ExtBlock}
use Rattle.un_ir.specs.declared.extended.Ext.{Ext}
use Rattle.un_ir.specs.Extended.{IsGoodExtBlock}
use Rattle.un_domains.specs.declared.domain.Domain.TheVariants.{Range}
use Rattle.un_model.specs.declared.model.BlockVars.{BlockVars}
use Rattle.un_model.specs.declared.model.Options.{Options}
use Rattle.un_model.specs.Variables.{model_of, block_vars, blocks_vars, block_count, ops_count, ops_domains, block_domains}
use Rattle.un_model.specs.Variables.{blocks_domains, own_horizon, domains_of}
use Rattle.un_packet.specs.declared.code.CodeBlock.{CodeBlock}
use Rattle.un_packet.specs.declared.code.TheConstants.{PACKETS}
use Rattle.un_emit.specs.Emitted.{code_block, code_blocks}
use Rattle.un_emit.proofs.Costs.{packet_count}
use Rattle.un_model.proofs.OpDomains.{Sits, keeps_sits, sits_left, sits_right, length-ops_domains, length-block}
use Rattle.un_lists.proofs.Lists.{Each, each_all, each_more}
use Rattle.un_model.proofs.Readings.{Solved, good}
use Rattle.un_emit.proofs.RulesLists.{total, sum_total}

-- operations are fewer than operations with their operands and results
abbrev op_size : ExtOp → ℕ
op_size op = 1 + length op.operands + length op.results

count_ops : (ops : List ExtOp) → length ops ≤ total op_size ops
count_ops [] = omega arith
count_ops (op ∷ ops) = let z = count_ops ops in omega arith

abbrev op_count : ExtBlock → ℕ
op_count block = length block.ops

few_ops : (blocks : List ExtBlock) → total op_count blocks ≤ total (λ (block : ExtBlock). sum_by op_size block.ops) blocks
few_ops [] = omega arith
few_ops (block ∷ blocks) =
    let z = few_ops blocks in
    let y = count_ops block.ops in
    let s = sum_total op_size block.ops in omega (arith, z, y, s)

abbrev packets_in : CodeBlock → ℕ
packets_in block = length block.packets

abbrev HasHorizon : ExtBlock → Type 0
HasHorizon block = block.horizon ≡ 2 * length block.ops + 2

module _ (e : Ext) (o : Options) (values : List ℕ) where
  -- the code of blocks of which the first variable has this number
  abbrev blocks_from : ℕ → List ExtBlock → List CodeBlock
  blocks_from first blocks =
      map (λ (b : ExtBlock × BlockVars). code_block (model_of e o) values b.0 b.1) (zip blocks (blocks_vars first blocks))

  -- the end of a block
  end_sits : (ie : Bool) (first : ℕ) (block : ExtBlock) → Sits values (block_domains e o ie (own_horizon block) block) first
      → slice_index values (first + ops_count block.ops) ≤ own_horizon block
  end_sits ie first block h =
      let ds = ops_domains e o ie block (own_horizon block) block.ops in
      let l = length-ops_domains e o values ie block (own_horizon block) block.ops in
      let last = sits_right values ds (Range 1 (own_horizon block) ∷ []) first (first + ops_count block.ops) (omega (arith, l)) h in
      let range = last 0 (Range 1 (own_horizon block)) refl in
      let z : first + ops_count block.ops + 0 ≡ first + ops_count block.ops = omega arith in
      subst (λ k. slice_index values k ≤ own_horizon block) z range.1

  packets_few : (ie : Bool) (first : ℕ) (blocks : List ExtBlock) → Sits values (blocks_domains e o own_horizon ie blocks) first
      → Each HasHorizon blocks → total packets_in (blocks_from first blocks) ≤ 2 * total op_count blocks + 2 * length blocks
  packets_few ie first [] h g = omega arith
  packets_few ie first (block ∷ blocks) h g =
      let here = block_domains e o ie (own_horizon block) block in
      let rest = blocks_domains e o own_horizon false blocks in
      let l = length-block e o values ie block in
      let count = packet_count (model_of e o) values block (block_vars first block) in
      let end = end_sits ie first block (sits_left values here rest first h) in
      let sits = sits_right values here rest first (first + block_count block) (omega (arith, l)) h in
      let later = packets_few false (first + block_count block) blocks sits g.1 in
      let horizon = g.0 in
      omega (arith, count, end, later, horizon)

  pub few_packets : Solved e o values → sum_by (λ (b : CodeBlock). length b.packets) (code_blocks (model_of e o) values) < PACKETS
  few_packets h =
      let s = h.schedule in
      let g = good e o values h in
      let IsGood : ExtBlock → Type 0 = IsGoodExtBlock e.table e.names e.blocks in
      let horizons = each_more IsGood HasHorizon e.blocks (λ b x. x.horizon) (each_all IsGood e.blocks g.each) in
      let sits = sits_left values _ _ 0 (keeps_sits values (domains_of own_horizon e o) s.in_domains) in
      let few = packets_few true 0 e.blocks sits horizons in
      let ops = few_ops e.blocks in
      let sizes = sum_total (λ (block : ExtBlock). sum_by op_size block.ops) e.blocks in
      let size = g.small in
      let blocks = g.few in
      let all = sum_total packets_in (code_blocks (model_of e o) values) in
      omega (arith, few, ops, sizes, size, blocks, all)
