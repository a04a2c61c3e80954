-- The loops that number variables: what is made so far, and what is made of the rest, are the whole.
use Rattle.std.proofs.Common.{◌≡◌, ℕ, suc, subst, ◌+◌, Bool, true, false, nat_eq, List, [], ◌∷◌, ◌++◌, length, map, drop, Option, Some}
use Rattle.std.proofs.Common.{None, slice_get, refl, ap, ◌∙◌, sym, append_assoc, length-append, arith}
use Rattle.std.specs.Prelude.{is_some}
use Rattle.std.specs.List.{range_with_len}
use Rattle.std.specs.Option.{option_to_list}
use Rattle.std.proofs.lemmas.Bool.Decides.{nat_tests}
use Rattle.std.proofs.lemmas.List.FromFn.{map-range_with_len_more}
use Rattle.un_base.specs.declared.ids.VarId.{VarId}
use Rattle.un_ir.specs.declared.extended.ExtKind.{ExtKind}
use Rattle.un_ir.specs.declared.extended.ExtKind.TheVariants.{In, Out, Body, End, Copy, Enter, Leave}
use Rattle.un_ir.specs.declared.extended.ExtOp.{ExtOp}
use Rattle.un_ir.specs.declared.extended.ExtBlock.{ExtBlock}
use Rattle.un_ir.specs.declared.extended.Ext.{Ext}
use Rattle.un_domains.specs.declared.domain.Domain.{Domain}
use Rattle.un_domains.specs.declared.domain.Domain.TheVariants.{Range}
use Rattle.un_model.specs.declared.model.Options.{Options}
use Rattle.un_model.specs.declared.model.TempVars.{TempVars}
use Rattle.un_model.specs.declared.model.OpVars.{OpVars}
use Rattle.un_model.specs.declared.model.BlockVars.{BlockVars}
use Rattle.un_model.specs.declared.model.Model.{Model}
use Rattle.un_model.specs.declared.model.Arc.{Arc}
use Rattle.un_model.specs.Arcs.{blocks_arcs}
use Rattle.un_model.specs.Pairs.{places_from}
use Rattle.un_ir.specs.Kinds.{is_optional}
use Rattle.un_model.specs.Variables.{has_cycle, count_if, chosen_operands, cycle_place, choice_place, register_place}
use Rattle.un_model.specs.Variables.{var_count, var_at, op_vars, ops_vars, ops_count, block_vars, block_count, blocks_vars, blocks_count}
use Rattle.un_model.specs.Variables.{op_temps, ops_temps, blocks_temps, instr_domain, cycle_domain, choice_domain, result_domain}
use Rattle.un_model.specs.Variables.{carries_truth, op_domains, ops_domains, block_domains, blocks_domains, own_horizon, IsModel, model_of}
use Rattle.un_model.proofs.Steps.{drop_at, longer}

-- ---- lengths

length_some : (d : Option Domain) → length (option_to_list d) ≡ count_if (is_some d)
length_some None = refl
length_some (Some d) = refl

length-places : {A B : Type 0} (f : ℕ → A → B) (i : ℕ) (xs : List A) → length (places_from f i xs) ≡ length xs
length-places f i [] = refl
length-places f i (x ∷ xs) = ap suc (length-places f (i + 1) xs)

length_mapped : {A B : Type 0} (f : A → B) (xs : List A) → length (map f xs) ≡ length xs
length_mapped f [] = refl
length_mapped f (x ∷ xs) = ap suc (length_mapped f xs)

some_instr : (truth : Bool) (kind : ExtKind) → is_some (instr_domain truth kind) ≡ is_optional kind
some_instr truth In = refl
some_instr truth Out = refl
some_instr truth (Body o) = refl
some_instr truth (End term) = refl
some_instr truth (Copy node) = refl
some_instr truth Enter = refl
some_instr truth Leave = refl

some_cycle : (horizon : ℕ) (kind : ExtKind) → is_some (cycle_domain horizon kind) ≡ has_cycle kind
some_cycle horizon In = refl
some_cycle horizon Out = refl
some_cycle horizon (Body o) = refl
some_cycle horizon (End term) = refl
some_cycle horizon (Copy node) = refl
some_cycle horizon Enter = refl
some_cycle horizon Leave = refl

length_instr : (truth : Bool) (kind : ExtKind) → length (option_to_list (instr_domain truth kind)) ≡ count_if (is_optional kind)
length_instr truth kind = length_some (instr_domain truth kind) ∙ ap count_if (some_instr truth kind)

length_cycle : (horizon : ℕ) (kind : ExtKind) → length (option_to_list (cycle_domain horizon kind)) ≡ count_if (has_cycle kind)
length_cycle horizon kind = length_some (cycle_domain horizon kind) ∙ ap count_if (some_cycle horizon kind)

four_parts : {A : Type 0} (m a b c d : List A) → (((m ++ a) ++ b) ++ c) ++ d ≡ m ++ (((a ++ b) ++ c) ++ d)
four_parts m a b c d = ap (λ xs. (xs ++ c) ++ d) (append_assoc m a b) ∙ ap (λ xs. xs ++ d) (append_assoc m (a ++ b) c) ∙ append_assoc m
    ((a ++ b) ++ c) d

module _ (e : Ext) (o : Options) (is_entry : Bool) (block : ExtBlock) (horizon : ℕ) where
  pub length-op_domains : (op : ExtOp) → length (op_domains e o is_entry block horizon op) ≡ var_count op
  length-op_domains op =
      let a = length_instr (carries_truth e block op op.results) op.kind in
      let b = length_cycle horizon op.kind in
      let c = length_mapped choice_domain (chosen_operands op) in
      let d = length-places (result_domain e o is_entry block op) 0 op.results in
      let i = option_to_list (instr_domain (carries_truth e block op op.results) op.kind) in
      let k = option_to_list (cycle_domain horizon op.kind) in
      let h = map choice_domain (chosen_operands op) in
      let r = places_from (result_domain e o is_entry block op) 0 op.results in
      let x = length-append (i ++ k ++ h) r in
      let y = length-append (i ++ k) h in
      let z = length-append i k in
      omega (arith, a, b, c, d, x, y, z)

  pub length-ops_domains : (ops : List ExtOp) → length (ops_domains e o is_entry block horizon ops) ≡ ops_count ops
  length-ops_domains [] = refl
  length-ops_domains (op ∷ ops) =
      let a = length-append (op_domains e o is_entry block horizon op) (ops_domains e o is_entry block horizon ops) in
      let b = length-op_domains op in
      let c = length-ops_domains ops in
      omega (arith, a, b, c)

  -- ---- one operation

  pub op_made : (op : ExtOp) (d0 d1 d2 d3 d4 : List Domain)
      → d1 ≡ d0 ++ option_to_list (instr_domain (carries_truth e block op op.results) op.kind)
      → d2 ≡ d1 ++ option_to_list (cycle_domain horizon op.kind) → d3 ≡ d2 ++ map choice_domain (chosen_operands op)
      → d4 ≡ d3 ++ places_from (result_domain e o is_entry block op) 0 op.results → d4 ≡ d0 ++ op_domains e o is_entry block horizon op
  op_made op d0 d1 d2 d3 d4 a b c d = rw (d, c, b, a)
      (four_parts d0 (option_to_list (instr_domain (carries_truth e block op op.results) op.kind))
      (option_to_list (cycle_domain horizon op.kind)) (map choice_domain (chosen_operands op))
      (places_from (result_domain e o is_entry block op) 0 op.results))

  pub cycle_at : (op : ExtOp) (d0 d1 : List Domain)
      → d1 ≡ d0 ++ option_to_list (instr_domain (carries_truth e block op op.results) op.kind) → length d1 ≡ length d0 + cycle_place op
  cycle_at op d0 d1 a = let l = longer d0 d1 _ a in let x = length_instr (carries_truth e block op op.results) op.kind in omega
      (arith, l, x)

  pub choice_at : (op : ExtOp) (d0 d1 d2 : List Domain)
      → d1 ≡ d0 ++ option_to_list (instr_domain (carries_truth e block op op.results) op.kind)
      → d2 ≡ d1 ++ option_to_list (cycle_domain horizon op.kind) → length d2 ≡ length d0 + choice_place op
  choice_at op d0 d1 d2 a b = let k = cycle_at op d0 d1 a in let l = longer d1 d2 _ b in let x = length_cycle horizon op.kind in omega
      (arith, k, l, x)

  pub register_at : (op : ExtOp) (d0 d1 d2 d3 : List Domain)
      → d1 ≡ d0 ++ option_to_list (instr_domain (carries_truth e block op op.results) op.kind)
      → d2 ≡ d1 ++ option_to_list (cycle_domain horizon op.kind) → d3 ≡ d2 ++ map choice_domain (chosen_operands op)
      → length d3 ≡ length d0 + register_place op
  register_at op d0 d1 d2 d3 a b c = let k = choice_at op d0 d1 d2 a b in let l = longer d2 d3 _ c in let x = length_mapped choice_domain
      (chosen_operands op) in omega (arith, k, l, x)

  -- ---- the operations of a block

  pub ops_domains_more : (i : ℕ) (ops : List ExtOp) (op : ExtOp) (made whole next : List Domain)
      → made ++ ops_domains e o is_entry block horizon (drop i ops) ≡ whole → slice_get ops i ≡ Some op
      → next ≡ made ++ op_domains e o is_entry block horizon op
      → next ++ ops_domains e o is_entry block horizon (drop (i + 1) ops) ≡ whole
  ops_domains_more i ops op made whole next h p g =
      let s = ap (ops_domains e o is_entry block horizon) (drop_at ops i op p) in
      rw g (append_assoc made (op_domains e o is_entry block horizon op) (ops_domains e o is_entry block horizon (drop (i + 1) ops)) ∙ ap
      (λ ds. made ++ ds) (sym s) ∙ h)

  pub op_longer : (op : ExtOp) (made next : List Domain) → next ≡ made ++ op_domains e o is_entry block horizon op
      → length next ≡ length made + var_count op
  op_longer op made next g = let l = longer made next _ g in let x = length-op_domains op in omega (arith, l, x)

pub ops_vars_more : (i a a2 : ℕ) (ops : List ExtOp) (op : ExtOp) (made whole next : List OpVars) (v : OpVars)
    → made ++ ops_vars a (drop i ops) ≡ whole → slice_get ops i ≡ Some op → v ≡ op_vars a op → next ≡ made ++ v ∷ []
    → a2 ≡ a + var_count op → next ++ ops_vars a2 (drop (i + 1) ops) ≡ whole
ops_vars_more i a a2 ops op made whole next v h p f g k =
    let s = ap (ops_vars a) (drop_at ops i op p) in
    rw (g, k) (append_assoc made (v ∷ []) (ops_vars (a + var_count op) (drop (i + 1) ops)) ∙ ap
    (λ w. made ++ w ∷ ops_vars (a + var_count op) (drop (i + 1) ops)) f ∙ ap (λ vs. made ++ vs) (sym s) ∙ h)

pub ops_temps_more : (n n2 i a a2 : ℕ) (ops : List ExtOp) (op : ExtOp) (made whole next : List TempVars)
    → made ++ ops_temps n a (drop i ops) ≡ whole → slice_get ops i ≡ Some op → next ≡ made ++ op_temps n (a + register_place op) op
    → n2 ≡ n + 1 → a2 ≡ a + var_count op → next ++ ops_temps n2 a2 (drop (i + 1) ops) ≡ whole
ops_temps_more n n2 i a a2 ops op made whole next h p g l k =
    let s = ap (ops_temps n a) (drop_at ops i op p) in
    rw (g, l, k) (append_assoc made (op_temps n (a + register_place op) op) (ops_temps (n + 1) (a + var_count op) (drop (i + 1) ops)) ∙
    ap (λ vs. made ++ vs) (sym s) ∙ h)

pub vars_more : (vars next : List VarId) (v : VarId) (a j n : ℕ) → vars ≡ map var_at (range_with_len a j) → n ≡ a + j → v ≡ var_at n
    → next ≡ vars ++ v ∷ [] → next ≡ map var_at (range_with_len a (j + 1))
vars_more vars next v a j n h c e g = rw (g, h, e, map-range_with_len_more var_at a j n (sym c)) refl

pub count_more : {A : Type 0} (made next : List A) (x : A) (a j : ℕ) → next ≡ made ++ x ∷ [] → length made ≡ a + j
    → length next ≡ a + (j + 1)
count_more made next x a j g h = rw (g, length-append) (omega arith)

-- ---- blocks

pub length-block_domains : (e : Ext) (o : Options) (is_entry : Bool) (horizon : ℕ) (block : ExtBlock)
    → length (block_domains e o is_entry horizon block) ≡ block_count block
length-block_domains e o is_entry horizon block =
    let a = length-append (ops_domains e o is_entry block horizon block.ops) (Range 1 horizon ∷ []) in
    let b = length-ops_domains e o is_entry block horizon block.ops in
    omega (arith, a, b)

pub length-blocks_domains : (e : Ext) (o : Options) (is_entry : Bool) (blocks : List ExtBlock)
    → length (blocks_domains e o own_horizon is_entry blocks) ≡ blocks_count blocks
length-blocks_domains e o is_entry [] = refl
length-blocks_domains e o is_entry (block ∷ blocks) =
    let a = length-append (block_domains e o is_entry block.horizon block) (blocks_domains e o own_horizon false blocks) in
    let b = length-block_domains e o is_entry block.horizon block in
    let c = length-blocks_domains e o false blocks in
    omega (arith, a, b, c)

past_entry : (k : ℕ) → nat_eq (k + 1) 0 ≡ false
past_entry k = grind (arith, nat_tests)

pub blocks_domains_more : (e : Ext) (o : Options) (k : ℕ) (blocks : List ExtBlock) (block : ExtBlock) (made whole next : List Domain)
    → made ++ blocks_domains e o own_horizon (nat_eq k 0) (drop k blocks) ≡ whole → slice_get blocks k ≡ Some block
    → next ≡ made ++ block_domains e o (nat_eq k 0) block.horizon block
    → next ++ blocks_domains e o own_horizon (nat_eq (k + 1) 0) (drop (k + 1) blocks) ≡ whole
blocks_domains_more e o k blocks block made whole next h p g =
    let s = ap (blocks_domains e o own_horizon (nat_eq k 0)) (drop_at blocks k block p) in
    rw (g, past_entry k) (append_assoc made (block_domains e o (nat_eq k 0) block.horizon block)
    (blocks_domains e o own_horizon false (drop (k + 1) blocks)) ∙ ap (λ ds. made ++ ds) (sym s) ∙ h)

pub block_longer : (e : Ext) (o : Options) (is_entry : Bool) (block : ExtBlock) (made next : List Domain)
    → next ≡ made ++ block_domains e o is_entry block.horizon block → length next ≡ length made + block_count block
block_longer e o is_entry block made next g = let l = longer made next _ g in let x = length-block_domains e o is_entry block.horizon
    block in omega (arith, l, x)

pub blocks_vars_more : (k a a2 : ℕ) (blocks : List ExtBlock) (block : ExtBlock) (made whole next : List BlockVars) (v : BlockVars)
    → made ++ blocks_vars a (drop k blocks) ≡ whole → slice_get blocks k ≡ Some block → v ≡ block_vars a block → next ≡ made ++ v ∷ []
    → a2 ≡ a + block_count block → next ++ blocks_vars a2 (drop (k + 1) blocks) ≡ whole
blocks_vars_more k a a2 blocks block made whole next v h p f g l =
    let s = ap (blocks_vars a) (drop_at blocks k block p) in
    rw (g, l) (append_assoc made (v ∷ []) (blocks_vars (a + block_count block) (drop (k + 1) blocks)) ∙ ap
    (λ w. made ++ w ∷ blocks_vars (a + block_count block) (drop (k + 1) blocks)) f ∙ ap (λ vs. made ++ vs) (sym s) ∙ h)

pub blocks_temps_more : (n n2 k a a2 : ℕ) (blocks : List ExtBlock) (block : ExtBlock) (made whole next : List TempVars)
    → made ++ blocks_temps n a (drop k blocks) ≡ whole → slice_get blocks k ≡ Some block → next ≡ made ++ ops_temps n a block.ops
    → n2 ≡ n + length block.ops → a2 ≡ a + block_count block → next ++ blocks_temps n2 a2 (drop (k + 1) blocks) ≡ whole
blocks_temps_more n n2 k a a2 blocks block made whole next h p g l m =
    let s = ap (blocks_temps n a) (drop_at blocks k block p) in
    rw (g, l, m) (append_assoc made (ops_temps n a block.ops)
    (blocks_temps (n + length block.ops) (a + block_count block) (drop (k + 1) blocks)) ∙ ap (λ vs. made ++ vs) (sym s) ∙ h)

pub end_at : (e : Ext) (o : Options) (is_entry : Bool) (block : ExtBlock) (d0 d1 : List Domain) (ops : List OpVars) (end : VarId)
    (v : BlockVars) → d1 ≡ d0 ++ ops_domains e o is_entry block block.horizon block.ops → ops ≡ ops_vars (length d0) block.ops
    → end ≡ var_at (length d1) → (let made : BlockVars = record { ops = ops; end = end } in v ≡ made) → v ≡ block_vars (length d0) block
end_at e o is_entry block d0 d1 ops end v g p q f =
    let l : length d1 ≡ length d0 + ops_count block.ops =
    (let a = longer d0 d1 _ g in let x = length-ops_domains e o is_entry block block.horizon block.ops in omega (arith, a, x)) in
    f ∙ rw (p, q, l) refl

pub model_made : (e ext : Ext) (o : Options) (ds all : List Domain) (temps : List TempVars) (blocks : List BlockVars) (flag : VarId)
    (arcs : List (List Arc))
    → ds ≡ blocks_domains e o own_horizon true e.blocks → all ≡ ds ++ Range 0 1 ∷ [] → temps ≡ blocks_temps 0 0 e.blocks
    → blocks ≡ blocks_vars 0 e.blocks → flag ≡ var_at (length ds) → arcs ≡ blocks_arcs e.table temps 0 e.blocks → ext ≡ e
    → (let m : Model = record
    { ext = ext; options = o; domains = all; temps = temps; blocks = blocks; flag = flag; arcs = arcs } in m ≡ model_of e o)
model_made e ext o ds all temps blocks flag arcs hd ha ht hb hf hr hx =
    let l : length ds ≡ blocks_count e.blocks = ap length hd ∙ length-blocks_domains e o true e.blocks in
    rw (hx, hb, ha, hf, l, hr, hd, ht) refl

pub is_model : (m : Model) (e : Ext) (o : Options) → m ≡ model_of e o → IsModel m
is_model m e o h = subst IsModel (sym h) refl

-- ---- numbers in a row

pub range_more : (numbers next whole : List ℕ) (a k : ℕ) → numbers ≡ whole ++ range_with_len a k → next ≡ numbers ++ (a + k) ∷ []
    → next ≡ whole ++ range_with_len a (k + 1)
range_more numbers next whole a k h g = rw (g, h, append_assoc) (ap (λ xs. whole ++ xs) (sym (last a k)))
  where
    last : (a k : ℕ) → range_with_len a (k + 1) ≡ range_with_len a k ++ (a + k) ∷ []
    last a k = sym (map_same (range_with_len a (k + 1))) ∙ map-range_with_len_more (λ n. n) a k (a + k) refl ∙ ap
        (λ xs. xs ++ (a + k) ∷ []) (map_same (range_with_len a k))
      where
        map_same : (xs : List ℕ) → map (λ n. n) xs ≡ xs
        map_same [] = refl
        map_same (x ∷ xs) = ap (λ ys. x ∷ ys) (map_same xs)
