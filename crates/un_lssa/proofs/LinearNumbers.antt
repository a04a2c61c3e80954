-- A linear function has no copies, and its temporaries are numbered in the order in which they are defined.
use Rattle.std.proofs.Common.{◌≡◌, ℕ, zero, suc, ◌+◌, ◌-◌, ◌≤◌, ◌++◌, true, List, [], ◌∷◌, Option, Some, None, unwrap_or, map, length}
use Rattle.std.proofs.Common.{replicate, get_or, slice_get, All, refl, sym, ap, ◌∙◌, arith}
use Rattle.std.specs.List.{flat_map, range_with_len}
use Rattle.std.specs.Option.{option_to_list}
use Rattle.std.proofs.lemmas.Grind.{flat_map-append}
use Rattle.std.proofs.lemmas.List.{length-append, length-map, length-replicate}
use Rattle.std.proofs.lemmas.List.Elements.{All-nil, All-cons, All-head, All-tail, All-append, All-map}
use Rattle.std.proofs.lemmas.List.FromFn.{length-map-range_with_len}
use Rattle.std.proofs.lemmas.Option.{unwrap_or-slice_get}
use Rattle.un_base.specs.declared.ids.NameId.{NameId}
use Rattle.un_base.specs.declared.ids.TempId.{TempId}
use Rattle.un_isa.specs.Registers.{callee_saved, saved_registers}
use Rattle.un_isa.specs.declared.op.Op.{Op}
use Rattle.un_isa.specs.declared.op.Op.TheVariants.{Call}
use Rattle.un_isa.specs.declared.reg.Reg.{Reg}
use Rattle.un_isa.specs.declared.table.Table.{Table}
use Rattle.un_ir.specs.declared.function.Kind.{Kind}
use Rattle.un_ir.specs.declared.function.Kind.TheVariants.{General}
use Rattle.un_ir.specs.declared.function.SrcOp.{SrcOp}
use Rattle.un_ir.specs.declared.function.Term.{Term}
use Rattle.un_ir.specs.declared.function.Term.TheVariants.{Fall, Jump, Branch, Ret}
use Rattle.un_ir.specs.declared.function.Block.{Block}
use Rattle.un_ir.specs.declared.extended.ExtKind.{ExtKind}
use Rattle.un_ir.specs.declared.extended.ExtKind.TheVariants.{Body, Copy}
use Rattle.un_ir.specs.declared.extended.Operand.{Operand}
use Rattle.un_ir.specs.declared.extended.ExtOp.{ExtOp}
use Rattle.un_ir.specs.declared.extended.ExtBlock.{ExtBlock}
use Rattle.un_ir.specs.Extended.{temp, carried, carried_by, all_carried, results_of, all_results, defined_kinds, in_kinds}
use Rattle.un_ir.specs.Extended.{is_linear_kind, is_inner, AllAre, IsPlainOp}
use Rattle.un_ir.specs.LinearOf.{live_at, live_after, reads, name_operand, argument_operands, source_operands, kept_operands}
use Rattle.un_ir.specs.LinearOf.{out_operands_of, first_temps, assigned, past, body_ops, current_after, in_op, end_ops, out_op, past_all}
use Rattle.un_ir.specs.LinearOf.{past_block, linear_ops, linear_block, linear_blocks}
use Rattle.un_ir.proofs.GoodOps.{temps, Numbers, numbers_none, numbers_row, numbers_append, results_append}
use Rattle.un_lssa.specs.Making.{past_blocks}

-- ---- one alternative an operand, and no copies

abbrev Alone : Operand → Type 0
Alone x = length x.alts ≡ 1

names_alone : (current : List ℕ) (home : Option Reg) (names : List NameId) → All Alone (map (name_operand current home) names)
names_alone current home names = All-map Alone (name_operand current home) names (λ k d h. refl)

arguments_alone : (current registers : List ℕ) (names : List NameId) → All Alone (argument_operands current registers names)
arguments_alone current registers [] = All-nil Alone
arguments_alone current [] (name ∷ names) = All-cons Alone (name_operand current None name) (argument_operands current [] names) refl
    (arguments_alone current [] names)
arguments_alone current (r ∷ rs) (name ∷ names) =
    All-cons Alone (name_operand current (Some (record { 0 = r })) name) (argument_operands current rs names) refl
    (arguments_alone current rs names)

sources_alone : (t : Table) (current : List ℕ) (op : Op) (names : List NameId) → All Alone (source_operands t current op names)
sources_alone t current Call names = arguments_alone current t.args names
sources_alone t current _ names = names_alone current None names

kept_alone : (n : ℕ) (rs : List ℕ) → All Alone (kept_operands n rs)
kept_alone n [] = All-nil Alone
kept_alone n (r ∷ rs) = All-cons Alone (reads n (Some (record { 0 = r }))) (kept_operands (n + 1) rs) refl (kept_alone (n + 1) rs)

next_alone : (current : List ℕ) (names : List NameId) (xs : List ℕ)
    → All Alone (map (name_operand current None) names ++ map (λ (n : ℕ). reads n None) xs)
next_alone current names xs =
    All-append Alone (map (name_operand current None) names) (map (λ (n : ℕ). reads n None) xs) (names_alone current None names)
    (All-map Alone (λ (n : ℕ). reads n None) xs (λ k d h. refl))

out_alone : (t : Table) (current : List ℕ) (first : ℕ) (live_out : List NameId) (term : Term)
    → All Alone (out_operands_of t current first live_out term)
out_alone t current first live_out Fall = next_alone current live_out (range_with_len first (length (saved_registers t)))
out_alone t current first live_out (Jump to) = next_alone current live_out (range_with_len first (length (saved_registers t)))
out_alone t current first live_out (Branch pred sense to) = next_alone current live_out (range_with_len first (length (saved_registers t)))
out_alone t current first live_out (Ret None) = kept_alone first (callee_saved t)
out_alone t current first live_out (Ret (Some name)) =
    All-cons Alone (name_operand current (Some (record { 0 = t.result })) name) (kept_operands first (callee_saved t)) refl
    (kept_alone first (callee_saved t))

plain : (op : ExtOp) → is_linear_kind op.kind ≡ true → All Alone op.operands → IsPlainOp op
plain op k a = record { kind = k; alone = a }

body_plain : (t : Table) (current : List ℕ) (n : ℕ) (os : List SrcOp) → All IsPlainOp (body_ops t current n os)
body_plain t current n [] = All-nil IsPlainOp
body_plain t current n (o ∷ os) =
    All-cons IsPlainOp _ (body_ops t (assigned current o.dst n) (past o.dst n) os)
    (record { kind = refl; alone = sources_alone t current o.op o.srcs })
    (body_plain t (assigned current o.dst n) (past o.dst n) os)

end_plain : (current : List ℕ) (link : ℕ) (term : Term) → All IsPlainOp (end_ops current link term)
end_plain current link Fall = All-nil IsPlainOp
end_plain current link (Jump to) = All-cons IsPlainOp _ [] (record { kind = refl; alone = All-nil Alone }) (All-nil IsPlainOp)
end_plain current link (Branch pred sense to) =
    All-cons IsPlainOp _ [] (record { kind = refl; alone = All-cons Alone (name_operand current None pred) [] refl (All-nil Alone) })
    (All-nil IsPlainOp)
end_plain current link (Ret value) = All-cons IsPlainOp _ [] (record {
  kind = refl;
  alone =
      All-cons Alone (reads link None) [] refl (All-nil Alone);
}) (All-nil IsPlainOp)

module _ (t : Table) (names n : ℕ) (live_in live_out : List NameId) (block : Block) where
  abbrev saved_first : ℕ
  saved_first = n + length live_in

  abbrev own_first : ℕ
  own_first = saved_first + length (saved_registers t)

  abbrev first_names : List ℕ
  first_names = first_temps (replicate names 0) n live_in

  abbrev last_names : List ℕ
  last_names = current_after first_names own_first block.ops

  abbrev link_temp : ℕ
  link_temp = saved_first + length (callee_saved t)

  abbrev rest_ops : List ExtOp
  rest_ops = end_ops last_names link_temp block.term ++ out_op t last_names saved_first live_out block.term ∷ []

  ops_plain : All IsPlainOp (linear_ops t names n live_in live_out block)
  ops_plain =
      All-cons IsPlainOp (in_op n (length live_in + length (saved_registers t))) (body_ops t first_names own_first block.ops ++ rest_ops)
      (record { kind = refl; alone = All-nil Alone })
      (All-append IsPlainOp (body_ops t first_names own_first block.ops) rest_ops (body_plain t first_names own_first block.ops)
      (All-append IsPlainOp (end_ops last_names link_temp block.term) (out_op t last_names saved_first live_out block.term ∷ [])
      (end_plain last_names link_temp block.term)
      (All-cons IsPlainOp (out_op t last_names saved_first live_out block.term) []
      (record { kind = refl; alone = out_alone t last_names saved_first live_out block.term }) (All-nil IsPlainOp))))

pub blocks_plain : (t : Table) (names : ℕ) (lists : List (List NameId)) (b n : ℕ) (blocks : List Block)
    → All (λ (block : ExtBlock). All IsPlainOp block.ops) (linear_blocks t names lists b n blocks)
blocks_plain t names lists b n [] = All-nil (λ (block : ExtBlock). All IsPlainOp block.ops)
blocks_plain t names lists b n (block ∷ blocks) =
    All-cons (λ (block : ExtBlock). All IsPlainOp block.ops) (linear_block t names lists b n block)
    (linear_blocks t names lists (b + 1) (past_block t lists b n block) blocks)
    (ops_plain t names n (live_at lists b) (live_after lists names b block.term) block)
    (blocks_plain t names lists (b + 1) (past_block t lists b n block) blocks)

-- without copies each temporary carries its own value
carried_op : (kind : ExtKind) (op : ExtOp) → is_linear_kind kind ≡ true → carried_by kind op ≡ op.results
carried_op (Copy node) op h = absurd (cc h)
carried_op _ op h = refl

carried_ops : (ops : List ExtOp) → All IsPlainOp ops → flat_map (λ (op : ExtOp). carried_by op.kind op) ops ≡ results_of ops
carried_ops [] all = refl
carried_ops (op ∷ ops) all =
    let g = All-head IsPlainOp op ops all in
    ap (λ (xs : List TempId). xs ++ flat_map (λ (op : ExtOp). carried_by op.kind op) ops) (carried_op op.kind op g.kind)
    ∙ ap (λ (xs : List TempId). op.results ++ xs) (carried_ops ops (All-tail IsPlainOp op ops all))

carried_blocks : (blocks : List ExtBlock) → All (λ (block : ExtBlock). All IsPlainOp block.ops) blocks
    → all_carried blocks ≡ all_results blocks
carried_blocks [] all = refl
carried_blocks (block ∷ blocks) all =
    ap (λ (xs : List TempId). xs ++ all_carried blocks) (carried_ops block.ops
    (All-head (λ (block : ExtBlock). All IsPlainOp block.ops) block blocks all))
    ∙ ap (λ (xs : List TempId). results_of block.ops ++ xs) (carried_blocks blocks
    (All-tail (λ (block : ExtBlock). All IsPlainOp block.ops) block blocks all))

temps_at : (n count i : ℕ) → get_or (temps n count) i (temp (n + i)) ≡ temp (n + i)
temps_at n zero i = refl
temps_at n (suc count) zero = ap temp (let z : n ≡ n + 0 = omega arith in z)
temps_at n (suc count) (suc i) =
    let z : n + suc i ≡ (n + 1) + i = omega arith in
    ap (λ (k : ℕ). get_or (temps (n + 1) count) i (temp k)) z ∙ temps_at (n + 1) count i ∙ ap temp (sym z)

pub carried_itself : (blocks : List ExtBlock) (m : ℕ) → All (λ (block : ExtBlock). All IsPlainOp block.ops) blocks
    → Numbers 0 (all_results blocks) m → (x : ℕ) → carried blocks (temp x) ≡ temp x
carried_itself blocks m all numbers x =
    let z : 0 + x ≡ x = omega arith in
    unwrap_or-slice_get (all_carried blocks) x (temp x)
    ∙ ap (λ (xs : List TempId). get_or xs x (temp x)) (carried_blocks blocks all ∙ numbers.are)
    ∙ ap (λ (k : ℕ). get_or (temps 0 numbers.count) x (temp k)) (sym z) ∙ temps_at 0 numbers.count x ∙ ap temp z

-- ---- numbers

pub numbers_dst : (dst : Option NameId) (n : ℕ) → Numbers n (map (λ (name : NameId). temp n) (option_to_list dst)) (past dst n)
numbers_dst None n = numbers_none n
numbers_dst (Some name) n = numbers_row n 1

pub numbers_body : (t : Table) (current : List ℕ) (n : ℕ) (os : List SrcOp)
    → Numbers n (results_of (body_ops t current n os)) (past_all n os)
numbers_body t current n [] = numbers_none n
numbers_body t current n (o ∷ os) =
    numbers_append n (past o.dst n) (past_all (past o.dst n) os) (map (λ (name : NameId). temp n) (option_to_list o.dst))
    (results_of (body_ops t (assigned current o.dst n) (past o.dst n) os))
    (numbers_dst o.dst n) (numbers_body t (assigned current o.dst n) (past o.dst n) os)

pub rest_results : (t : Table) (after : List ℕ) (link saved : ℕ) (live_out : List NameId) (term other : Term)
    → results_of (end_ops after link term ++ out_op t after saved live_out other ∷ []) ≡ []
rest_results t after link saved live_out Fall other = refl
rest_results t after link saved live_out (Jump to) other = refl
rest_results t after link saved live_out (Branch pred sense to) other = refl
rest_results t after link saved live_out (Ret value) other = refl

pub numbers_ops : (t : Table) (names n : ℕ) (live_in live_out : List NameId) (block : Block)
    → Numbers n (results_of (linear_ops t names n live_in live_out block))
    (past_all (n + length live_in + length (saved_registers t)) block.ops)
numbers_ops t names n live_in live_out block =
    let count = length live_in + length (saved_registers t) in
    let first = n + length live_in + length (saved_registers t) in
    let z : n + count ≡ first = omega arith in
    let cur = first_temps (replicate names 0) n live_in in
    let all = numbers_append n first (past_all first block.ops) (temps n count) (results_of (body_ops t cur first block.ops))
    (record { count = count; are = refl; reach = z }) (numbers_body t cur first block.ops) in
    let tail = rest_ops t names n live_in live_out block in
    let e : results_of (body_ops t cur first block.ops ++ tail) ≡ results_of (body_ops t cur first block.ops) ++ [] =
    results_append (body_ops t cur first block.ops) tail
    ∙ ap (λ (xs : List TempId). results_of (body_ops t cur first block.ops) ++ xs)
    (rest_results t (last_names t names n live_in live_out block) (link_temp t names n live_in live_out block) (n + length live_in)
    live_out block.term block.term) in
    record {
      count = all.count;
      are = ap (λ (xs : List TempId). temps n count ++ xs) (e ∙ nil (results_of (body_ops t cur first block.ops))) ∙ all.are;
      reach = all.reach;
    }
  where
    nil : (xs : List TempId) → xs ++ [] ≡ xs
    nil [] = refl
    nil (x ∷ xs) = ap (λ (ys : List TempId). x ∷ ys) (nil xs)

pub numbers_blocks : (t : Table) (names : ℕ) (lists : List (List NameId)) (b n : ℕ) (blocks : List Block)
    → Numbers n (all_results (linear_blocks t names lists b n blocks)) (past_blocks t lists b n blocks)
numbers_blocks t names lists b n [] = numbers_none n
numbers_blocks t names lists b n (block ∷ blocks) =
    numbers_append n (past_block t lists b n block) (past_blocks t lists (b + 1) (past_block t lists b n block) blocks)
    (results_of (linear_ops t names n (live_at lists b) (live_after lists names b block.term) block))
    (all_results (linear_blocks t names lists (b + 1) (past_block t lists b n block) blocks))
    (numbers_ops t names n (live_at lists b) (live_after lists names b block.term) block)
    (numbers_blocks t names lists (b + 1) (past_block t lists b n block) blocks)

-- ---- kinds

abbrev pub kinds_of : List Kind → ExtBlock → List ExtOp → List Kind
kinds_of kinds block ops = flat_map (λ (op : ExtOp). defined_kinds kinds block op.kind op) ops

module _ (kinds : List Kind) (owner : ExtBlock) where
  pub body_kinds : (t : Table) (current : List ℕ) (n : ℕ) (os : List SrcOp)
      → n + length (kinds_of kinds owner (body_ops t current n os)) ≡ past_all n os
  body_kinds t current n [] = omega arith
  body_kinds t current n (o ∷ os) = by o.dst (body_kinds t (assigned current o.dst n) (past o.dst n) os)
    where
      by : (dst : Option NameId) → past dst n + length (kinds_of kinds owner (body_ops t (assigned current dst n) (past dst n) os)) ≡
          past_all (past dst n) os
          → n + length (kinds_of kinds owner (record {
            kind = Body o;
            operands = source_operands t current o.op o.srcs;
            results =
                map (λ (name : NameId). temp n) (option_to_list dst);
          } ∷ body_ops t (assigned current dst n) (past dst n) os)) ≡ past_all
          (past dst n) os
      by None h = h
      by (Some name) h = omega (arith, h)

  pub rest_kinds : (t : Table) (after : List ℕ) (link saved : ℕ) (live_out : List NameId) (term other : Term)
      → kinds_of kinds owner (end_ops after link term ++ out_op t after saved live_out other ∷ []) ≡ []
  rest_kinds t after link saved live_out Fall other = refl
  rest_kinds t after link saved live_out (Jump to) other = refl
  rest_kinds t after link saved live_out (Branch pred sense to) other = refl
  rest_kinds t after link saved live_out (Ret value) other = refl

  pub in_count : (names : List NameId) (count : ℕ) → length names ≤ count → length (in_kinds kinds names count) ≡ count
  in_count names count h =
      let a = length-append (map (λ (name : NameId). unwrap_or (slice_get kinds name.0) General) names)
      (replicate (count - length names) General) in
      let b = length-map names (λ (name : NameId). unwrap_or (slice_get kinds name.0) General) in
      let c = length-replicate (count - length names) General in
      omega (arith, a, b, c, h)

  -- a linear block defines as many kinds as temporaries
  pub ops_kinds : (t : Table) (names n : ℕ) (live_in live_out : List NameId) (block : Block) → owner.live_in ≡ live_in
      → n + length (kinds_of kinds owner (linear_ops t names n live_in live_out block)) ≡ past_all
      (n + length live_in + length (saved_registers t)) block.ops
  ops_kinds t names n live_in live_out block same =
      let width = length live_in + length (saved_registers t) in
      let first = n + length live_in + length (saved_registers t) in
      let body = body_ops t (first_names t names n live_in live_out block) first block.ops in
      let tail = rest_ops t names n live_in live_out block in
      let starts = in_kinds kinds owner.live_in (length (temps n width)) in
      let w = length-map-range_with_len temp n width in
      let s : length owner.live_in ≡ length live_in = ap (λ (xs : List NameId). length xs) same in
      let c = in_count owner.live_in (length (temps n width)) (omega (arith, w, s)) in
      let e : kinds_of kinds owner (body ++ tail) ≡ kinds_of kinds owner body ++ [] =
      flat_map-append (λ (op : ExtOp). defined_kinds kinds owner op.kind op) body tail
      ∙ ap (λ (xs : List Kind). kinds_of kinds owner body ++ xs) (rest_kinds t (last_names t names n live_in live_out block)
      (link_temp t names n live_in live_out block) (n + length live_in) live_out block.term block.term) in
      let l : length (kinds_of kinds owner (body ++ tail)) ≡ length (kinds_of kinds owner body) + 0 =
      ap (λ (xs : List Kind). length xs) e ∙ length-append (kinds_of kinds owner body) [] in
      let a = length-append starts (kinds_of kinds owner (body ++ tail)) in
      let b = body_kinds t (first_names t names n live_in live_out block) first block.ops in
      omega (arith, a, b, c, l, w)

pub inner_body : (t : Table) (current : List ℕ) (n : ℕ) (os : List SrcOp) → AllAre is_inner (body_ops t current n os)
inner_body t current n [] = All-nil (λ (op : ExtOp). is_inner op.kind ≡ true)
inner_body t current n (o ∷ os) =
    All-cons (λ (op : ExtOp). is_inner op.kind ≡ true) _ (body_ops t (assigned current o.dst n) (past o.dst n) os) refl
    (inner_body t (assigned current o.dst n) (past o.dst n) os)
