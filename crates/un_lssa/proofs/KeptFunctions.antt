-- What the linear function of every function keeps.
use Rattle.std.proofs.Common.{◌≡◌, ◌≢◌, ℕ, zero, suc, ◌+◌, ◌*◌, ◌<◌, ◌≤◌, ◌++◌, ◌^◌, Bool, List, [], ◌∷◌, Option, Some, None, map, filter}
use Rattle.std.proofs.Common.{length, replicate, get_or, slice_get, All, AllPairs, Contains, refl, sym, ap, ◌∙◌, arith, subst}
use Rattle.std.specs.List.{flat_map, range_with_len, list_any, sum_by}
use Rattle.std.specs.Option.{option_to_list}
use Rattle.std.proofs.Math.Logic.{∥∥₁_elim}
use Rattle.std.proofs.Props.{props}
use Rattle.std.proofs.lemmas.List.{length-append, length-map}
use Rattle.std.proofs.lemmas.List.Elements.{All-contains, Contains-get_or}
use Rattle.std.proofs.lemmas.List.Sums.{sum_by-cons}
use Rattle.std.proofs.lemmas.List.FromFn.{length-range_with_len, length-map-range_with_len}
use Rattle.std.proofs.lemmas.Option.{slice_get_within, slice_get-get_or, get_or_from_slice_get}
use Rattle.un_base.specs.declared.ids.NameId.{NameId}
use Rattle.un_isa.specs.Fit.{IsFit}
use Rattle.un_isa.specs.Registers.{callee_saved, saved_registers}
use Rattle.un_isa.specs.declared.op.Op.{Op}
use Rattle.un_isa.specs.declared.op.Op.TheVariants.{Mux, Call}
use Rattle.un_isa.specs.declared.reg.TheConstants.{LINK, GENERALS}
use Rattle.un_isa.specs.declared.table.Table.{Table}
use Rattle.un_ir.specs.declared.function.Kind.{Kind}
use Rattle.un_ir.specs.declared.function.Kind.TheVariants.{General}
use Rattle.un_ir.specs.declared.function.SrcOp.{SrcOp}
use Rattle.un_ir.specs.declared.function.Term.{Term}
use Rattle.un_ir.specs.declared.function.Term.TheVariants.{Fall, Jump, Branch, Ret}
use Rattle.un_ir.specs.declared.function.Block.{Block}
use Rattle.un_ir.specs.declared.function.Function.{Function}
use Rattle.un_ir.specs.declared.function.TheConstants.{BLOCKS, OPS, NAMES, PARAMS}
use Rattle.un_ir.specs.declared.extended.ExtOp.{ExtOp}
use Rattle.un_ir.specs.declared.extended.ExtBlock.{ExtBlock}
use Rattle.un_ir.specs.declared.extended.Lssa.{Lssa}
use Rattle.un_ir.specs.declared.extended.TheConstants.{BLOCK_SIZE}
use Rattle.un_ir.specs.Extended.{temp, all_results, name_kind, size_of, LeadsOn, HandsNamesOver, IsLinear}
use Rattle.un_ir.specs.Linear.{ending_of, Ending}
use Rattle.un_ir.specs.Live.{IsLive, targets_of}
use Rattle.un_ir.specs.LinearOf.{AreLive, live_at, is_among, live_after, name_of, kind_of_pair, reads, name_operand, argument_operands}
use Rattle.un_ir.specs.LinearOf.{source_operands, kept_operands, out_operands_of, first_temps, assigned, past, body_op, body_ops}
use Rattle.un_ir.specs.LinearOf.{current_after, in_op, end_ops, out_op, past_block, linear_ops, linear_block, linear_blocks, lin_of}
use Rattle.un_ir.specs.Names.{kind_of}
use Rattle.un_ir.specs.WellFormed.{IsOfKind, IsWellFormed, IsGoodOp, operand_kinds}
use Rattle.un_ir.proofs.FunctionFacts.{entry_there, leads_inside}
use Rattle.un_ir.proofs.GoodOps.{numbers_whole}
use Rattle.un_ir.proofs.NameBounds.{at_all, live_name_small}
use Rattle.un_ir.proofs.SourceFacts.{good_block, Reads, reads_kinds, kind_is}
use Rattle.un_lssa.specs.Making.{past_blocks}
use Rattle.un_lssa.proofs.EnterSim.{body_ending, rest_ending, any_true, contains_among, filter_has}
use Rattle.un_lssa.proofs.FunctionRuns.{params_few, entry_param}
use Rattle.un_lssa.proofs.FunctionSizes.{filter_few, saved_few, all_ops_few, block_ops_few, blocks_few, names_few, live_few}
use Rattle.un_lssa.proofs.KeptBlocks.{all_kept}
use Rattle.un_lssa.proofs.LinearNumbers.{blocks_plain, numbers_blocks}

-- ---- sizes

abbrev op_size : ExtOp → ℕ
op_size op = 1 + length op.operands + length op.results

abbrev ops_size : List ExtOp → ℕ
ops_size ops = sum_by op_size ops

size_cons : (op : ExtOp) (ops : List ExtOp) → ops_size (op ∷ ops) ≡ op_size op + ops_size ops
size_cons op ops = sum_by-cons op_size op ops

size_append : (xs ys : List ExtOp) → ops_size (xs ++ ys) ≡ ops_size xs + ops_size ys
size_append [] ys = omega arith
size_append (x ∷ xs) ys = let r = size_append xs ys in let a = size_cons x xs in let b = size_cons x (xs ++ ys) in omega (arith, r, a, b)

arguments_length : (current registers : List ℕ) (names : List NameId) → length (argument_operands current registers names) ≡ length names
arguments_length current registers [] = refl
arguments_length current [] (name ∷ names) = ap suc (arguments_length current [] names)
arguments_length current (r ∷ rs) (name ∷ names) = ap suc (arguments_length current rs names)

sources_length : (t : Table) (current : List ℕ) (op : Op) (names : List NameId) → length (source_operands t current op names) ≡ length names
sources_length t current Call names = arguments_length current t.args names
sources_length t current _ names = length-map names (name_operand current None)

kept_length : (n : ℕ) (rs : List ℕ) → length (kept_operands n rs) ≡ length rs
kept_length n [] = refl
kept_length n (r ∷ rs) = ap suc (kept_length (n + 1) rs)

next_length : (current : List ℕ) (n count : ℕ) (names : List NameId)
    → length (map (name_operand current None) names ++ map (λ (k : ℕ). reads k None) (range_with_len n count)) ≡ length names + count
next_length current n count names =
    let a = length-append (map (name_operand current None) names) (map (λ (k : ℕ). reads k None) (range_with_len n count)) in
    let b = length-map names (name_operand current None) in
    let c = length-map-range_with_len (λ (k : ℕ). reads k None) n count in
    omega (arith, a, b, c)

-- how many values stand at a block's start or end
abbrev values_limit : ℕ
values_limit = NAMES + GENERALS + 1

-- the size of an operation of a function
abbrev op_limit : ℕ
op_limit = PARAMS + 2

-- the size of the rest of a block
abbrev rest_limit : ℕ
rest_limit = 2 * values_limit + 4

kinds_few : (op : Op) → length (operand_kinds op) ≤ PARAMS
kinds_few Mux = omega arith
kinds_few _ = omega arith

option_few : {X : Type 0} (o : Option X) → length (option_to_list o) ≤ 1
option_few None = omega arith
option_few (Some x) = omega arith

srcs_few : (f : Function) (o : SrcOp) → IsGoodOp f.names o → length o.srcs ≤ PARAMS
srcs_few f o g = by o.op (reads_kinds f.names o.op o.srcs g.op g.reads)
  where
    by : (op : Op) → Reads f.names op o.srcs → length o.srcs ≤ PARAMS
    by Call r = r.1
    by op r =
        let e = ap (λ (xs : List (Option Kind)). length xs) r in
        let a = length-map o.srcs (kind_of f.names) in
        let b = length-map {B = Option Kind} (operand_kinds op) Some in
        let c = kinds_few op in
        omega (arith, e, a, b, c)

body_size : (t : Table) (f : Function) (current : List ℕ) (n : ℕ) (os : List SrcOp)
    → ((k : ℕ) (o : SrcOp) → slice_get os k ≡ Some o → IsGoodOp f.names o) → ops_size (body_ops t current n os) ≤ op_limit * length os
body_size t f current n [] g = omega arith
body_size t f current n (o ∷ os) g =
    let r = body_size t f (assigned current o.dst n) (past o.dst n) os (λ k x h. g (suc k) x h) in
    let a = sources_length t current o.op o.srcs in
    let s = srcs_few f o (g 0 o refl) in
    let b = length-map (option_to_list o.dst) (λ (name : NameId). temp n) in
    let c = option_few o.dst in
    let d = size_cons (body_op t current n o) (body_ops t (assigned current o.dst n) (past o.dst n) os) in
    omega (arith, r, a, s, b, c, d)

out_size : (t : Table) (current : List ℕ) (n : ℕ) (live_out : List NameId) (term : Term) → length live_out ≤ NAMES
    → length (out_operands_of t current n live_out term) ≤ values_limit
out_size t current n live_out Fall h = let a = next_length current n (length (saved_registers t)) live_out in let s = saved_few t in
    omega (arith, a, s, h)
out_size t current n live_out (Jump to) h = let a = next_length current n (length (saved_registers t)) live_out in let s = saved_few t in
    omega (arith, a, s, h)
out_size t current n live_out (Branch pred sense to) h = let a = next_length current n (length (saved_registers t)) live_out in let s =
    saved_few t in omega (arith, a, s, h)
out_size t current n live_out (Ret None) h =
    let a = kept_length n (callee_saved t) in let s = saved_few t in let c = length-append (callee_saved t) (LINK ∷ []) in
    omega (arith, a, s, c)
out_size t current n live_out (Ret (Some name)) h =
    let a = kept_length n (callee_saved t) in let s = saved_few t in let c = length-append (callee_saved t) (LINK ∷ []) in
    omega (arith, a, s, c)

end_size : (current : List ℕ) (link : ℕ) (term : Term) → ops_size (end_ops current link term) ≤ 2
end_size current link Fall = omega arith
end_size current link (Jump to) = omega arith
end_size current link (Branch pred sense to) = omega arith
end_size current link (Ret value) = omega arith

block_size : (t : Table) (f : Function) (n : ℕ) (live_in live_out : List NameId) (block : Block) → length live_in ≤ NAMES
    → length live_out ≤ NAMES
    → ((k : ℕ) (o : SrcOp) → slice_get block.ops k ≡ Some o → IsGoodOp f.names o)
    → ops_size (linear_ops t (length f.names) n live_in live_out block) ≤ rest_limit + op_limit * length block.ops
block_size t f n live_in live_out block few_in few_out g =
    let saved = n + length live_in in
    let first = saved + length (saved_registers t) in
    let current = first_temps (replicate (length f.names) 0) n live_in in
    let after = current_after current first block.ops in
    let link = saved + length (callee_saved t) in
    let body = body_ops t current first block.ops in
    let ends = end_ops after link block.term in
    let out = out_op t after saved live_out block.term in
    let a = size_append body (ends ++ out ∷ []) in
    let b = size_append ends (out ∷ []) in
    let c = body_size t f current first block.ops g in
    let d = end_size after link block.term in
    let e = out_size t after saved live_out block.term few_out in
    let w = length-map-range_with_len temp n (length live_in + length (saved_registers t)) in
    let s = saved_few t in
    let x = size_cons (in_op n (length live_in + length (saved_registers t))) (body ++ (ends ++ out ∷ [])) in
    let y = size_cons out [] in
    let z : ops_size [] ≡ 0 = refl in
    omega (arith, a, b, c, d, e, w, s, x, y, z, few_in)

after_few : (lists : List (List NameId)) (names b : ℕ) (term : Term) → length (live_after lists names b term) ≤ names
after_few lists names b term =
    let p : ℕ → Bool = λ (n : ℕ). list_any (λ (c : ℕ). is_among (live_at lists c) n) (targets_of b term) in
    let a = length-map (filter p (range_with_len 0 names)) name_of in
    let c = filter_few p (range_with_len 0 names) in
    let d = length-range_with_len 0 names in
    omega (arith, a, c, d)

blocks_size : (t : Table) (f : Function) (lists : List (List NameId)) → length f.names ≤ NAMES
    → ((b : ℕ) → length (live_at lists b) ≤ NAMES)
    → (b n : ℕ) (blocks : List Block)
    → ((j k : ℕ) (block : Block) (o : SrcOp) → slice_get blocks j ≡ Some block → slice_get block.ops k ≡ Some o → IsGoodOp f.names o)
    → size_of (linear_blocks t (length f.names) lists b n blocks) ≤ rest_limit * length blocks + op_limit * length
    (flat_map (λ (block : Block). block.ops) blocks)
blocks_size t f lists few live b n [] g = omega arith
blocks_size t f lists few live b n (block ∷ blocks) g =
    let o = after_few lists (length f.names) b block.term in
    let a = block_size t f n (live_at lists b) (live_after lists (length f.names) b block.term) block (live b) (omega (arith, o, few))
    (λ k x h. g 0 k block x refl h) in
    let r = blocks_size t f lists few live (b + 1) (past_block t lists b n block) blocks (λ j k other x h i. g (suc j) k other x h i) in
    let k : length (flat_map (λ (block : Block). block.ops) (block ∷ blocks)) ≡ length block.ops + length
    (flat_map (λ (block : Block). block.ops) blocks) =
    length-append block.ops (flat_map (λ (block : Block). block.ops) blocks) in
    let x : size_of (linear_blocks t (length f.names) lists b n (block ∷ blocks))
    ≡ ops_size (linear_ops t (length f.names) n (live_at lists b) (live_after lists (length f.names) b block.term) block) + size_of
    (linear_blocks t (length f.names) lists (b + 1) (past_block t lists b n block) blocks) =
    sum_by-cons (λ (own : ExtBlock). ops_size own.ops) (linear_block t (length f.names) lists b n block)
    (linear_blocks t (length f.names) lists (b + 1) (past_block t lists b n block) blocks) in
    omega (arith, a, r, k, x)

-- ---- from blocks to blocks

blocks_length : (t : Table) (names : ℕ) (lists : List (List NameId)) (b n : ℕ) (blocks : List Block)
    → length (linear_blocks t names lists b n blocks) ≡ length blocks
blocks_length t names lists b n [] = refl
blocks_length t names lists b n (block ∷ blocks) = ap suc (blocks_length t names lists (b + 1) (past_block t lists b n block) blocks)

-- the block from which a linear block was made
record Made (t : Table) (names : ℕ) (lists : List (List NameId)) (blocks : List Block) (k b : ℕ) (own : ExtBlock) : Type 0 where
  block : Block
  first : ℕ
  at : slice_get blocks k ≡ Some block
  is : linear_block t names lists b first block ≡ own

made : (t : Table) (names : ℕ) (lists : List (List NameId)) (b n : ℕ) (blocks : List Block) (k : ℕ) (own : ExtBlock)
    → slice_get (linear_blocks t names lists b n blocks) k ≡ Some own → Made t names lists blocks k (b + k) own
made t names lists b n [] k own h = absurd (cc h)
made t names lists b n (block ∷ blocks) zero own h =
    let e : linear_block t names lists b n block ≡ own = cc h in
    let z : b + 0 ≡ b = omega arith in
    record { block = block; first = n; at = refl; is = ap (λ (c : ℕ). linear_block t names lists c n block) z ∙ e }
made t names lists b n (block ∷ blocks) (suc k) own h =
    let r = made t names lists (b + 1) (past_block t lists b n block) blocks k own h in
    let z : b + suc k ≡ (b + 1) + k = omega arith in
    record { block = r.block; first = r.first; at = r.at; is = ap (λ (c : ℕ). linear_block t names lists c r.first r.block) z ∙ r.is }

module _ (f : Function) (lists : List (List NameId)) (t : Table) (live : AreLive f.blocks lists) (fit : IsFit t) where
  abbrev count : ℕ
  count = length f.names

  abbrev lin : List ExtBlock
  lin = linear_blocks t count lists 0 0 f.blocks

  lin_length : length lin ≡ length f.blocks
  lin_length = blocks_length t count lists 0 0 f.blocks

  lin_made : (k : ℕ) (own : ExtBlock) → slice_get lin k ≡ Some own → Made t count lists f.blocks k k own
  lin_made k own h = let z : 0 + k ≡ k = omega arith in subst (λ (c : ℕ). Made t count lists f.blocks k c own) z
      (made t count lists 0 0 f.blocks k own h)

  args_there : PARAMS ≤ length t.args
  args_there = let e = ap (λ (xs : List ℕ). length xs) fit.args in omega (arith, e)

  ending_term : (b m : ℕ) (block : Block) → (let ending = ending_of (let own = linear_block t count lists b m block in own.ops) in
      ending.term) ≡ block.term
  ending_term b m block =
      let saved = m + length (live_at lists b) in
      let first = saved + length (saved_registers t) in
      let current = first_temps (replicate count 0) m (live_at lists b) in
      let after = current_after current first block.ops in
      let link = saved + length (callee_saved t) in
      let out = live_after lists count b block.term in
      ap (λ (e : Ending). e.term)
      (body_ending t current first block.ops (end_ops after link block.term ++ out_op t after saved out block.term ∷ [])
      ∙ rest_ending t after link saved out block.term)

  own_term : (k : ℕ) (own : ExtBlock) (m : Made t count lists f.blocks k k own)
      → (let ending = ending_of own.ops in ending.term) ≡ (let block = m.block in block.term)
  own_term k own m = ap (λ (x : ExtBlock). (let ending = ending_of x.ops in ending.term)) (sym m.is) ∙ ending_term k m.first m.block

  leads : (b : ℕ) (own : ExtBlock) → slice_get lin b ≡ Some own → LeadsOn lin b own
  leads b own h =
      let m = lin_made b own h in
      let block = m.block in
      subst (λ (term : Term). All (λ (c : ℕ). (0 < c) × (c < length lin)) (targets_of b term)) (sym (own_term b own m))
      (λ k d below. (let c = get_or (targets_of b block.term) k d in
      let r = leads_inside f b block c m.at (Contains-get_or (targets_of b block.term) k d below) in
      (r.0, (let high = r.1 in let e = lin_length in omega (arith, high, e)))))

  hands_over : HandsNamesOver lin
  hands_over k l a b at_a at_b target =
      let ma = lin_made k a at_a in
      let mb = lin_made l b at_b in
      let block = ma.block in
      let to : Contains (targets_of k block.term) l = subst (λ (term : Term). Contains (targets_of k term) l) (own_term k a ma) target in
      let out : live_after lists count k block.term ≡ a.live_out = ap (λ (x : ExtBlock). x.live_out) ma.is in
      let into : live_at lists l ≡ b.live_in = ap (λ (x : ExtBlock). x.live_in) mb.is in
      subst (λ (xs : List NameId). All (Contains a.live_out) xs) into
      (subst (λ (ys : List NameId). All (Contains ys) (live_at lists l)) out
      (λ j d h. out_has block to (get_or (live_at lists l) j d) (Contains-get_or (live_at lists l) j d h)))
    where
      out_has : (block : Block) → Contains (targets_of k block.term) l → (name : NameId) → Contains (live_at lists l) name
          → Contains (live_after lists count k block.term) name
      out_has block to name has =
          let h = live_name_small f name l 0 ((live.exact l name).0 has) in
          filter_has (λ (n : ℕ). list_any (λ (c : ℕ). is_among (live_at lists c) n) (targets_of k block.term)) 0 count name.0 (omega arith)
          (omega (arith, h))
          (any_true (λ (c : ℕ). is_among (live_at lists c) name.0) (targets_of k block.term) l to
          (contains_among (live_at lists l) name has))

  distinct : (i j : ℕ) (a b : Block) → i < j → slice_get f.blocks i ≡ Some a → slice_get f.blocks j ≡ Some b → a.label ≢ b.label
  distinct i j a b lt at_a at_b same = ∥∥₁_elim f.well_formed (λ (x y : ⊥). absurd x)
      (λ (w : IsWellFormed f.name f.params f.names f.blocks).
      w.distinct_labels i j a lt (slice_get_within f.blocks j b at_b)
      (ap (λ (x : Block). x.label) (get_or_from_slice_get f.blocks i a a at_a) ∙ same
      ∙ ap (λ (x : Block). x.label) (sym (get_or_from_slice_get f.blocks j b a at_b))))

  distinct_labels : AllPairs (λ (a b : ExtBlock). a.label ≢ b.label) lin
  distinct_labels i j d lt below same =
      let ma = lin_made i (get_or lin i d) (slice_get-get_or lin i d (omega (arith, lt, below))) in
      let mb = lin_made j (get_or lin j d) (slice_get-get_or lin j d below) in
      distinct i j ma.block mb.block lt ma.at mb.at
      (ap (λ (x : ExtBlock). x.label) ma.is ∙ same ∙ ap (λ (x : ExtBlock). x.label) (sym mb.is))

  entry_word : (name : NameId) → Contains (live_at lists 0) name → (name.0 < PARAMS) × (name_kind (map kind_of_pair f.names) name ≡ General)
  entry_word name has = (let a = entry_param f name l in let b = params_few f in omega (arith, a, b), word)
    where
      l : IsLive f.blocks name 0 0
      l = (live.exact 0 name).0 has

      one : IsProp (name_kind (map kind_of_pair f.names) name ≡ General)
      one = hlevel (props)

      word : name_kind (map kind_of_pair f.names) name ≡ General
      word = ∥∥₁_elim f.well_formed one
          (λ (w : IsWellFormed f.name f.params f.names f.blocks).
          kind_is f.names General name (All-contains (IsOfKind f.names General) f.params name w.params_are_words (w.live name l)))

  params : (entry : ExtBlock) → slice_get lin 0 ≡ Some entry
      → All (λ (name : NameId). (name.0 < PARAMS) × (name_kind (map kind_of_pair f.names) name ≡ General)) entry.live_in
  params entry h =
      let m = lin_made 0 entry h in
      let into : live_at lists 0 ≡ entry.live_in = ap (λ (x : ExtBlock). x.live_in) m.is in
      subst (λ (xs : List NameId). All (λ (name : NameId). (name.0 < PARAMS) × (name_kind (map kind_of_pair f.names) name ≡ General)) xs)
      into
      (λ j d below. entry_word (get_or (live_at lists 0) j d) (Contains-get_or (live_at lists 0) j d below))

  op_good : (j k : ℕ) (block : Block) (o : SrcOp) → slice_get f.blocks j ≡ Some block → slice_get block.ops k ≡ Some o → IsGoodOp f.names o
  op_good j k block o at here = let g = good_block f j block at in at_all (IsGoodOp f.names) block.ops k o g.ops here

  small : size_of lin < 2 ^ 20
  small =
      let a = blocks_size t f lists (names_few f) (live_few f lists live) 0 0 f.blocks op_good in
      let b = blocks_few f in
      let c = all_ops_few f in
      omega (arith, a, b, c)

  -- no block is large
  pub small_blocks : All (λ (own : ExtBlock). ops_size own.ops ≤ BLOCK_SIZE) lin
  small_blocks k d lt = by (lin_made k (get_or lin k d) (slice_get-get_or lin k d lt))
    where
      by : Made t count lists f.blocks k k (get_or lin k d) → (let own = get_or lin k d in ops_size own.ops) ≤ BLOCK_SIZE
      by m =
          let block = m.block in
          let in_few = live_few f lists live k in
          let names = names_few f in
          let after = after_few lists count k block.term in
          let a = block_size t f m.first (live_at lists k) (live_after lists count k block.term) block in_few
          (omega (arith, after, names)) (λ j o h. op_good k j block o m.at h) in
          let b : length block.ops ≤ OPS = subst (λ (x : Block). length x.ops ≤ OPS) (get_or_from_slice_get f.blocks k block block m.at)
          (block_ops_few f k block (slice_get_within f.blocks k block m.at)) in
          subst (λ (x : ExtBlock). ops_size x.ops ≤ BLOCK_SIZE) m.is (omega (arith, a, b))

  entry : 0 < length lin
  entry = let a = entry_there f in let b = lin_length in omega (arith, a, b)

  few : length lin ≤ BLOCKS
  few = let a = blocks_few f in let b = lin_length in omega (arith, a, b)

  -- the linear function of every function, under a fit table
  pub linear_kept : IsLinear (lin_of f lists t)
  linear_kept = record {
    good = record {
      entry = entry;
      few = few;
      each = all_kept f lists t live args_there;
      numbered = numbers_whole (past_blocks t lists 0 0 f.blocks) (all_results lin) (numbers_blocks t count lists 0 0 f.blocks);
      leads = leads;
      hands_over = hands_over;
      distinct_labels = distinct_labels;
      params = params;
      small = small;
    };
    plain = blocks_plain t count lists 0 0 f.blocks;
  }

  -- so is what has its parts
  pub made_kept : (names : List Kind) (blocks : List ExtBlock) → names ≡ map kind_of_pair f.names → blocks ≡ lin
      → IsLinear (let l : Lssa = record { table = t; names = names; blocks = blocks } in l)
  made_kept names blocks e1 e2 =
      subst (λ (ns : List Kind). IsLinear (let l : Lssa = record { table = t; names = ns; blocks = blocks } in l)) (sym e1)
      (subst (λ (bs : List ExtBlock). IsLinear (let l : Lssa = record { table = t; names = map kind_of_pair f.names; blocks = bs } in l))
      (sym e2) linear_kept)
