-- A store that has as many variables as a model has those of each of its blocks.
use Rattle.std.proofs.Common.{◌≡◌, ℕ, zero, suc, ◌+◌, ◌≤◌, ◌<◌, true, List, [], ◌∷◌, length, Some, refl, sym, ap, ◌∙◌, subst, arith}
use Rattle.std.proofs.Common.{length-append}
use Rattle.std.specs.Prelude.{slice_get}
use Rattle.un_ir.specs.declared.extended.ExtKind.{ExtKind}
use Rattle.un_ir.specs.declared.extended.ExtKind.TheVariants.{In, Out, Body, End, Copy, Enter, Leave}
use Rattle.un_ir.specs.declared.extended.ExtOp.{ExtOp}
use Rattle.un_ir.specs.declared.extended.ExtBlock.{ExtBlock}
use Rattle.un_domains.specs.declared.domain.Domain.TheVariants.{Range}
use Rattle.un_model.specs.declared.model.OpVars.{OpVars}
use Rattle.un_model.specs.declared.model.Model.{Model}
use Rattle.un_model.specs.Variables.{has_cycle, count_if, cycle_place, var_count, var_if, op_vars, ops_vars, ops_count, block_count}
use Rattle.un_model.specs.Variables.{blocks_vars, blocks_count, own_horizon, blocks_domains, domains_of, IsModel}
use Rattle.un_model.proofs.Numbering.{length-blocks_domains}
use Rattle.un_bound.specs.Choices.{IsKnown, AllKnown}

known_kind : (count n : ℕ) (kind : ExtKind) → (has_cycle kind ≡ true → n < count) → IsKnown count kind (var_if (has_cycle kind) n)
known_kind count n In h = tt
known_kind count n Out h = tt
known_kind count n (Body o) h = h refl
known_kind count n (End term) h = h refl
known_kind count n (Copy node) h = tt
known_kind count n Enter h = tt
known_kind count n Leave h = tt

known_op : (count first : ℕ) (op : ExtOp) → first + var_count op ≤ count → IsKnown count op.kind (op_vars first op).cycle
known_op count first op le =
    known_kind count (first + cycle_place op) op.kind (λ h. let one : count_if (has_cycle op.kind) ≡ 1 = ap count_if h in
    omega (arith, le, one))

known_ops : (count first : ℕ) (ops : List ExtOp) → first + ops_count ops ≤ count → (k : ℕ) (op : ExtOp) (v : OpVars)
    → slice_get ops k ≡ Some op → slice_get (ops_vars first ops) k ≡ Some v → IsKnown count op.kind v.cycle
known_ops count first [] le k op v p q = absurd (cc p)
known_ops count first (o ∷ ops) le zero op v p q =
    let same : o ≡ op = cc p in
    let alike : op_vars first o ≡ v = cc q in
    subst (λ (w : OpVars). IsKnown count op.kind w.cycle) alike
    (subst (λ (u : ExtOp). IsKnown count u.kind (op_vars first o).cycle) same (known_op count first o (omega (arith, le))))
known_ops count first (o ∷ ops) le (suc k) op v p q = known_ops count (first + var_count o) ops (omega (arith, le)) k op v p q

length-ops_vars : (first : ℕ) (ops : List ExtOp) → length (ops_vars first ops) ≡ length ops
length-ops_vars first [] = refl
length-ops_vars first (op ∷ ops) = ap suc (length-ops_vars (first + var_count op) ops)

known_blocks : (count first : ℕ) (blocks : List ExtBlock) → first + blocks_count blocks ≤ count
    → AllKnown count blocks (blocks_vars first blocks)
known_blocks count first [] le = tt
known_blocks count first (block ∷ blocks) le = (
  record {
    long = length-ops_vars first block.ops;
    stop = omega (arith, le);
    each = known_ops count first block.ops (omega (arith, le));
  },
  known_blocks count (first + block_count block) blocks (omega (arith, le)),
)

pub known_model : (m : Model) (count : ℕ) → IsModel m → length m.domains ≤ count → AllKnown count m.ext.blocks m.blocks
known_model m count h le =
    let all : length (domains_of own_horizon m.ext m.options) ≡ blocks_count m.ext.blocks + 1 =
    length-append (blocks_domains m.ext m.options own_horizon true m.ext.blocks) (Range 0 1 ∷ [])
    ∙ ap (λ (n : ℕ). n + 1) (length-blocks_domains m.ext m.options true m.ext.blocks) in
    let same : length m.domains ≡ length (domains_of own_horizon m.ext m.options) = ap (λ (x : Model). length x.domains) h in
    let vars : m.blocks ≡ blocks_vars 0 m.ext.blocks = ap (λ (x : Model). x.blocks) h in
    subst (AllKnown count m.ext.blocks) (sym vars) (known_blocks count 0 m.ext.blocks (omega (arith, all, same, le)))
