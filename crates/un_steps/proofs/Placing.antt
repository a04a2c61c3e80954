-- The operations and the definers of step logs are those that a schedule has, and their variables are variables of the model.
use Rattle.std.proofs.Common.{ℕ, ◌≡◌, ◌+◌, ◌<◌, ◌≤◌, List, [], ◌∷◌, ◌++◌, length, map, refl, sym, ap, ◌∙◌, arith}
use Rattle.std.specs.Prelude.{Option, Some, None, slice_get}
use Rattle.std.specs.List.{range_with_len}
use Rattle.std.specs.Option.{option_map}
use Rattle.un_base.specs.declared.ids.VarId.{VarId}
use Rattle.un_ir.specs.declared.extended.ExtOp.{ExtOp}
use Rattle.un_ir.specs.declared.extended.ExtBlock.{ExtBlock}
use Rattle.un_ir.specs.declared.extended.Ext.{Ext}
use Rattle.un_ir.specs.Extended.{all_results, temp}
use Rattle.un_domains.specs.Sets.{Sets, set_at}
use Rattle.un_model.specs.declared.model.Options.{Options}
use Rattle.un_model.specs.Pairs.{pairs_from}
use Rattle.un_model.specs.Schedules.{issues_of}
use Rattle.un_model.specs.Variables.{model_of, op_vars, ops_vars, var_count, var_at, ops_count, block_count, blocks_count, blocks_vars}
use Rattle.un_model.specs.Variables.{register_place}
use Rattle.un_lists.proofs.Lists.{Each, Member, each_join, map-append, slice_get-map, member_at}
use Rattle.un_model.proofs.Placed.{Placed, placed, block_placed, blocks_placed, vars_of, issue_at, issues_are, all_count, at_number, Spot, temp_vars, temps_are}
use Rattle.un_model.proofs.PlacedSchedules.{all, spots, spot_here}
use Rattle.un_steps.specs.Words.{Operation, operation, operations_from, operation_at, definer_of, definer_by, regs, regs_by}

abbrev pub operation_of : Placed → Operation
operation_of q = record { block = q.block; owner = q.owner; end = q.close; op = q.op; vars = vars_of q }

placed_operations : (b : ℕ) (owner : ExtBlock) (close : VarId) (i n first : ℕ) (ops : List ExtOp)
    → pairs_from (operation b owner close) i ops (ops_vars first ops) ≡ map operation_of (placed b owner close n first ops)
placed_operations b owner close i n first [] = refl
placed_operations b owner close i n first (op ∷ ops) = ap (λ ps. operation b owner close i op (op_vars first op) ∷ ps)
    (placed_operations b owner close (i + 1) (n + 1) (first + var_count op) ops)

pub operations_are : (b n first : ℕ) (blocks : List ExtBlock)
    → operations_from b blocks (blocks_vars first blocks) ≡ map operation_of (blocks_placed b n first blocks)
operations_are b n first [] = refl
operations_are b n first (block ∷ blocks) =
    let rest = blocks_placed (b + 1) (n + length block.ops) (first + block_count block) blocks in
    ap (λ ps. ps ++ operations_from (b + 1) blocks (blocks_vars (first + block_count block) blocks))
    (placed_operations b block (var_at (first + ops_count block.ops)) 0 n first block.ops)
    ∙ ap (λ ps. map operation_of (block_placed b n first block) ++ ps)
    (operations_are (b + 1) (n + length block.ops) (first + block_count block) blocks)
    ∙ sym (map-append operation_of (block_placed b n first block) rest)

-- ---- variables

-- the variables of an operation, and of its block's end, are among the first n
pub record AreAmong (n : ℕ) (q : Placed) : Type 0 where
  pub own : q.first + var_count q.op ≤ n
  pub close : q.close.0 < n

among_placed : (top b : ℕ) (owner : ExtBlock) (close : VarId) (n first : ℕ) (ops : List ExtOp) → first + ops_count ops ≤ top
    → close.0 < top → Each (AreAmong top) (placed b owner close n first ops)
among_placed top b owner close n first [] le lt = tt
among_placed top b owner close n first (op ∷ ops) le lt = (
  record { own = omega (arith, le); close = lt },
  among_placed top b owner close (n + 1) (first + var_count op) ops (omega (arith, le)) lt,
)

among_blocks : (top b n first : ℕ) (blocks : List ExtBlock) → first + blocks_count blocks ≤ top
    → Each (AreAmong top) (blocks_placed b n first blocks)
among_blocks top b n first [] le = tt
among_blocks top b n first (block ∷ blocks) le =
    each_join (AreAmong top) (block_placed b n first block)
    (blocks_placed (b + 1) (n + length block.ops) (first + block_count block) blocks)
    (among_placed top b block (var_at (first + ops_count block.ops)) n first block.ops (omega (arith, le)) (omega (arith, le)))
    (among_blocks top (b + 1) (n + length block.ops) (first + block_count block) blocks (omega (arith, le)))

pub all_among : (blocks : List ExtBlock) → Each (AreAmong (blocks_count blocks)) (blocks_placed 0 0 0 blocks)
all_among blocks = among_blocks (blocks_count blocks) 0 0 0 blocks (omega arith)

module _ (e : Ext) (o : Options) (x : List ℕ) where
  pub operation_here : (q : Placed) → Member q (all e o x) → operation_at (model_of e o) q.number ≡ Some (operation_of q)
  operation_here q m =
      ap (λ ps. slice_get ps q.number) (operations_are 0 0 0 e.blocks)
      ∙ slice_get-map operation_of (all e o x) q.number ∙ ap (option_map operation_of)
      (at_number 0 (all e o x) q q.number (all_count 0 0 0 e.blocks) m (omega arith))

  -- an operation of the model is one of the schedule
  pub found : (n : ℕ) (p : Operation) → operation_at (model_of e o) n ≡ Some p
      → (q : Placed) × (Member q (all e o x)) × (operation_of q ≡ p)
  found n p at = by (slice_get (all e o x) n) refl
      (sym (ap (λ ps. slice_get ps n) (operations_are 0 0 0 e.blocks) ∙ slice_get-map operation_of (all e o x) n) ∙ at)
    where
      by : (r : Option Placed) → slice_get (all e o x) n ≡ r → option_map operation_of (slice_get (all e o x) n) ≡ Some p
          → (q : Placed) × (Member q (all e o x)) × (operation_of q ≡ p)
      by None f h = absurd (cc (sym (ap (option_map operation_of) f) ∙ h))
      by (Some q) f h =
          let same : Some (operation_of q) ≡ Some p = sym (ap (option_map operation_of) f) ∙ h in
          (q, member_at (all e o x) n q f, cc same)

  -- ---- temporaries

  module _ (numbered : all_results e.blocks ≡ map temp (range_with_len 0 (length (all_results e.blocks)))) where
    temp_here : (u : Spot) → Member u (spots e o x) → slice_get (model_of e o).temps u.temp.0 ≡ Some (temp_vars u)
    temp_here u m = ap (λ xs. slice_get xs u.temp.0) (temps_are 0 0 0 e.blocks) ∙ slice_get-map temp_vars (spots e o x) u.temp.0
        ∙ ap (option_map temp_vars) (spot_here e o x numbered u m)

    pub definer_here : (u : Spot) → Member u (spots e o x) → Member u.definer (all e o x)
        → definer_of (model_of e o) u.temp ≡ Some (operation_of u.definer)
    definer_here u m d = ap (definer_by (model_of e o)) (temp_here u m) ∙ operation_here u.definer d

    pub regs_here : (s : Sets) (u : Spot) → Member u (spots e o x)
        → regs (model_of e o) s u.temp ≡ set_at s (u.definer.first + register_place u.definer.op + u.place)
    regs_here s u m = ap (regs_by s) (temp_here u m)

    -- the variable of a result's register
    pub reg_here : (u : Spot) → Member u (spots e o x) → slice_get (model_of e o).temps u.temp.0 ≡ Some (temp_vars u)
    reg_here u m = temp_here u m

  -- with what the schedule has at its number
  pub found_issue : (n : ℕ) (p : Operation) → operation_at (model_of e o) n ≡ Some p
      → (q : Placed) × (Member q (all e o x)) × (operation_of q ≡ p) × (slice_get (issues_of (model_of e o) x) n ≡ Some (issue_at x q))
  found_issue n p at = by (slice_get (all e o x) n) refl
      (sym (ap (λ ps. slice_get ps n) (operations_are 0 0 0 e.blocks) ∙ slice_get-map operation_of (all e o x) n) ∙ at)
    where
      by : (r : Option Placed) → slice_get (all e o x) n ≡ r → option_map operation_of (slice_get (all e o x) n) ≡ Some p
          → (q : Placed) × (Member q (all e o x)) × (operation_of q ≡ p) × (slice_get (issues_of (model_of e o) x) n ≡ Some (issue_at x q))
      by None f h = absurd (cc (sym (ap (option_map operation_of) f) ∙ h))
      by (Some q) f h =
          let same : Some (operation_of q) ≡ Some p = sym (ap (option_map operation_of) f) ∙ h in
          let issue : slice_get (issues_of (model_of e o) x) n ≡ Some (issue_at x q) =
          ap (λ is. slice_get is n) (issues_are x 0 0 0 e.blocks) ∙ slice_get-map (issue_at x) (all e o x) n ∙ ap (option_map (issue_at x)) f in
          (q, member_at (all e o x) n q f, cc same, issue)
