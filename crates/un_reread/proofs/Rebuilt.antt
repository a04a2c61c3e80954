-- The parts that the lines of a function give are its parts.
use Rattle.std.proofs.Common.{◌≡◌, ◌≢◌, ℕ, zero, suc, ◌+◌, ◌<◌, ◌++◌, List, [], ◌∷◌, Option, Some, None, map, length, get_or, slice_get}
use Rattle.std.proofs.Common.{refl, sym, ap, ◌∙◌}
use Rattle.std.proofs.Common.{arith, subst}
use Rattle.std.specs.List.{AllByRecursion as Each, flat_map, position_or_len}
use Rattle.std.specs.Option.{option_map, option_to_list}
use Rattle.std.specs.Str.{bytes_eq}
use Rattle.std.proofs.lemmas.Bool.{false_from_ne_true}
use Rattle.std.proofs.lemmas.List.{length-map, map-append}
use Rattle.std.proofs.lemmas.List.Elements.{recursion_from_All as Each-from}
use Rattle.std.proofs.lemmas.List.Sums.{position_or_len_is}
use Rattle.std.proofs.lemmas.Slice.Eq.{bytes_eq-Decides}
use Rattle.un_faults.specs.Vocabulary.{NameId, BlockId, SrcOp, Term, Fall, JumpTo, BranchTo, Return, SourceBlock}
use Rattle.un_ir.specs.Live.{read_by_term}
use Rattle.un_ir.specs.Names.{names_on_op, names_in_block, appearances}
use Rattle.un_ir.specs.Text.{Names, label_of}
use Rattle.un_ir.specs.WellFormed.{IsWellFormed, LeadsInside, IsGoodBlock, IsGoodOp}
use Rattle.un_isa.specs.Operands.{HasLiteral}
use Rattle.un_faults.specs.Before.{numbered, names_of}
use Rattle.un_faults.specs.Groups.{Group}
use Rattle.un_words.specs.LineNames.{names_on}
use Rattle.un_reader.specs.Functions.{name_id, block_id, op_of, term_by, block_of}
use Rattle.un_faults.specs.Literals.{literal_value}
use Rattle.un_words.proofs.Each.{Each-left, Each-right, Each-unflat}
use Rattle.un_reader.proofs.NameNumbers.{IsPlace, place_back, numbers_placed, names_first}
use Rattle.un_reader.proofs.TextLines.{text_lines, names_on_line, names_at_end, group_names, names_of_groups}
use Rattle.un_reread.specs.Printed.{spelled_at, as_number, op_as_line, term_as_line, as_group}
use Rattle.un_reread.proofs.Literals.{value_back}

-- ---- the names on the lines

op_names : (names : Names) (o : SrcOp) → names_on_line (op_as_line names o) ≡ map (spelled_at names) (names_on_op o)
op_names names o = by o.dst
  where
    by : (dst : Option NameId) → option_to_list (option_map (spelled_at names) dst) ++ map (spelled_at names) o.srcs
        ≡ map (spelled_at names) (option_to_list dst ++ o.srcs)
    by None = refl
    by (Some name) = refl

ops_names : (names : Names) (ops : List SrcOp)
    → flat_map names_on_line (map (op_as_line names) ops) ≡ map (spelled_at names) (flat_map names_on_op ops)
ops_names names [] = refl
ops_names names (o ∷ ops) =
    rw (op_names names o, ops_names names ops) (sym (map-append (spelled_at names) (names_on_op o) (flat_map names_on_op ops)))

term_names : (blocks : List SourceBlock) (names : Names) (term : Term)
    → names_at_end (term_as_line blocks names term) ≡ map (spelled_at names) (read_by_term term)
term_names blocks names (Return (Some name)) = refl
term_names blocks names _ = refl

blocks_names : (blocks : List SourceBlock) (names : Names) (some : List SourceBlock)
    → flat_map group_names (map (as_group blocks names) some) ≡ map (spelled_at names) (flat_map names_in_block some)
blocks_names blocks names [] = refl
blocks_names blocks names (b ∷ some) =
    let ops = ops_names names b.ops in
    let term = term_names blocks names b.term in
    let here : group_names (as_group blocks names b) ≡ map (spelled_at names) (names_in_block b) =
    rw (ops, term) (sym (map-append (spelled_at names) (flat_map names_on_op b.ops) (read_by_term b.term))) in
    rw (here, blocks_names blocks names some) (sym (map-append (spelled_at names) (names_in_block b) (flat_map names_in_block some)))

-- each name as often as it stands in the lines
names_there : (name : List ℕ) (params : List NameId) (names : Names) (blocks : List SourceBlock)
    → flat_map names_on (text_lines name (map (spelled_at names) params) (map (as_group blocks names) blocks))
    ≡ map (spelled_at names) (appearances params blocks)
names_there name params names blocks =
    rw (names_of_groups (map (as_group blocks names) blocks), blocks_names blocks names blocks)
    (sym (map-append (spelled_at names) params (flat_map names_in_block blocks)))

-- ---- labels

abbrev pub labels : List SourceBlock → List (List ℕ)
labels blocks = map (λ (b : SourceBlock). b.label) blocks

pub labels_there : (blocks : List SourceBlock) (names : Names) (some : List SourceBlock)
    → map (λ (g : Group). g.label) (map (as_group blocks names) some) ≡ labels some
labels_there blocks names [] = refl
labels_there blocks names (b ∷ some) = ap (λ (ls : List (List ℕ)). b.label ∷ ls) (labels_there blocks names some)

label_at : (blocks : List SourceBlock) (k : ℕ) → label_of blocks k ≡ get_or (labels blocks) k []
label_at [] k = refl
label_at (b ∷ blocks) zero = refl
label_at (b ∷ blocks) (suc k) = label_at blocks k

-- ---- blocks among all blocks

-- these are the blocks from a place on
abbrev pub StandAt : List SourceBlock → ℕ → List SourceBlock → Type 0
StandAt blocks k some = (j : ℕ) (b : SourceBlock) → slice_get some j ≡ Some b → slice_get blocks (k + j) ≡ Some b

pub stand_all : (blocks : List SourceBlock) → StandAt blocks 0 blocks
stand_all blocks j b got = let place : 0 + j ≡ j = omega arith in subst (λ (n : ℕ). slice_get blocks n ≡ Some b) (sym place) got

pub stand_later : (blocks : List SourceBlock) (k : ℕ) (first : SourceBlock) (some : List SourceBlock) → StandAt blocks k (first ∷ some)
    → StandAt blocks (k + 1) some
stand_later blocks k first some stand j b got =
    let place : k + 1 + j ≡ k + suc j = omega arith in
    subst (λ (n : ℕ). slice_get blocks n ≡ Some b) (sym place) (stand (suc j) b got)

-- ---- the parts

module _ (name : List ℕ) (params : List NameId) (names : Names) (blocks : List SourceBlock)
    (w : IsWellFormed name params names blocks) where
  all_named : Each (IsPlace names) (appearances params blocks)
  all_named = numbers_placed names (appearances params blocks) w.numbered

  -- the names of the lines, each at its first appearance, are the function's
  pub names_again : names_of (text_lines name (map (spelled_at names) params) (map (as_group blocks names) blocks)) ≡ names
  names_again =
      ap (numbered []) (names_there name params names blocks)
      ∙ names_first names w.distinct_names (appearances params blocks) w.numbered

  ids_back : (ids : List NameId) → Each (IsPlace names) ids → map (name_id names) (map (spelled_at names) ids) ≡ ids
  ids_back [] all = refl
  ids_back (id ∷ ids) all =
      let here : name_id names (spelled_at names id) ≡ id = place_back names w.distinct_names id all.0 in
      rw (here, ids_back ids all.1) refl

  pub params_again : map (name_id names) (map (spelled_at names) params) ≡ params
  params_again = ids_back params (Each-left (IsPlace names) params (flat_map names_in_block blocks) all_named)

  op_back : (o : SrcOp) → Each (IsPlace names) (names_on_op o) → HasLiteral o.op o.imm → op_of names (op_as_line names o) ≡ o
  op_back o all literal =
      let dst = by o.dst (Each-left (IsPlace names) (option_to_list o.dst) o.srcs all) in
      let srcs = ids_back o.srcs (Each-right (IsPlace names) (option_to_list o.dst) o.srcs all) in
      let imm : literal_value (as_number o.imm) ≡ o.imm = value_back o.op o.imm literal in
      rw (dst, srcs, imm) refl
    where
      by : (dst : Option NameId) → Each (IsPlace names) (option_to_list dst)
          → option_map (name_id names) (option_map (spelled_at names) dst) ≡ dst
      by None all = refl
      by (Some id) all = ap Some (place_back names w.distinct_names id all.0)

  ops_back : (ops : List SrcOp) → Each (IsPlace names) (flat_map names_on_op ops) → Each (IsGoodOp names) ops
      → map (op_of names) (map (op_as_line names) ops) ≡ ops
  ops_back [] all good = refl
  ops_back (o ∷ ops) all good =
      let here = op_back o (Each-left (IsPlace names) (names_on_op o) (flat_map names_on_op ops) all) good.0.literal in
      rw (here, ops_back ops (Each-right (IsPlace names) (names_on_op o) (flat_map names_on_op ops) all) good.1) refl

  -- the place of a block's label
  block_back : (to : BlockId) → to.0 < length blocks → block_id (labels blocks) (label_of blocks to.0) ≡ to
  block_back to h =
      let len = length-map blocks (λ (b : SourceBlock). b.label) in
      let place : position_or_len (bytes_eq (get_or (labels blocks) to.0 [])) (labels blocks) ≡ to.0 =
      position_or_len_is (bytes_eq (get_or (labels blocks) to.0 [])) (labels blocks) to.0 [] (omega arith)
      (λ j below. false_from_ne_true (bytes_eq (get_or (labels blocks) to.0 []) (get_or (labels blocks) j []))
      (λ e. apart j to.0 below h (sym ((bytes_eq-Decides _ _).0 e))))
      (λ below. (bytes_eq-Decides (get_or (labels blocks) to.0 []) _).1 refl) in
      let make : ℕ → BlockId = λ k. record { 0 = k } in
      rw (label_at blocks to.0) (ap make place)
    where
      got : (some : List SourceBlock) (k : ℕ) (d : SourceBlock) → k < length some → get_or (labels some) k [] ≡ (get_or some k d).label
      got [] k d h = absurd (omega arith)
      got (b ∷ some) zero d h = refl
      got (b ∷ some) (suc k) d h = got some k d (omega arith)

      any : SourceBlock
      any = record { label = []; freq = 0; ops = []; term = Fall }

      apart : (j k : ℕ) → j < k → k < length blocks → get_or (labels blocks) j [] ≢ get_or (labels blocks) k []
      apart j k low high e = w.distinct_labels j k any low high (sym (got blocks j any (omega arith)) ∙ e ∙ got blocks k any high)

  term_back : (b : ℕ) (term : Term) → Each (IsPlace names) (read_by_term term) → LeadsInside blocks b term
      → term_by names (labels blocks) (term_as_line blocks names term) ≡ term
  term_back b Fall all leads = refl
  term_back b (JumpTo to) all leads = ap JumpTo (block_back to (leads 0 0 (omega arith)).1)
  term_back b (BranchTo pred sense to) all leads =
      let p = place_back names w.distinct_names pred all.0 in let t = block_back to (leads 1 0 (omega arith)).1 in rw (p, t) refl
  term_back b (Return None) all leads = refl
  term_back b (Return (Some id)) all leads = let p = place_back names w.distinct_names id all.0 in rw p refl

  block_again : (k : ℕ) (b : SourceBlock) → slice_get blocks k ≡ Some b → Each (IsPlace names) (names_in_block b) → IsGoodBlock names b
      → block_of names (labels blocks) (as_group blocks names b) ≡ b
  block_again k b got all good =
      let ops = ops_back b.ops (Each-left (IsPlace names) (flat_map names_on_op b.ops) (read_by_term b.term) all)
      (Each-from (IsGoodOp names) b.ops good.ops) in
      let term = term_back k b.term (Each-right (IsPlace names) (flat_map names_on_op b.ops) (read_by_term b.term) all) (w.leads k b got) in
      rw (ops, term) refl

  -- blocks of the function, from one on
  some_again : (k : ℕ) (some : List SourceBlock) → StandAt blocks k some
      → Each (λ (b : SourceBlock). Each (IsPlace names) (names_in_block b)) some → Each (IsGoodBlock names) some
      → map (block_of names (labels blocks)) (map (as_group blocks names) some) ≡ some
  some_again k [] got all good = refl
  some_again k (b ∷ some) got all good =
      let here = block_again (k + 0) b (got 0 b refl) all.0 good.0 in
      let later = some_again (k + 1) some (stand_later blocks k b some got) all.1 good.1 in
      rw (here, later) refl

  -- the blocks of the lines are the function's
  pub blocks_again : map (block_of names (labels blocks)) (map (as_group blocks names) blocks) ≡ blocks
  blocks_again =
      some_again 0 blocks (stand_all blocks)
      (Each-unflat (IsPlace names) names_in_block blocks (Each-right (IsPlace names) params (flat_map names_in_block blocks) all_named))
      (Each-from (IsGoodBlock names) blocks w.good_blocks)
