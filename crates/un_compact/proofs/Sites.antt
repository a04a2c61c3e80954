-- Where the domains of cycles and ends stand among those of a model, and that a squeezed block fits into its horizon.
use Rattle.std.proofs.Common.{ℕ, suc, ◌≡◌, ◌+◌, ◌*◌, ◌≤◌, Bool, true, false, eqb, List, [], ◌∷◌, ◌++◌, length, map}
use Rattle.std.proofs.Common.{Option, Some, ◌⊎◌, inl, inr, refl, sym, ap, ◌∙◌, arith}
use Rattle.std.specs.Prelude.{◌||◌, ◌==◌, slice_get}
use Rattle.std.specs.List.{list_any}
use Rattle.std.specs.Option.{option_to_list}
use Rattle.std.proofs.lemmas.Bool.{eqb-true}
use Rattle.un_base.specs.declared.ids.VarId.{VarId}
use Rattle.un_ir.specs.Kinds.{is_optional}
use Rattle.un_ir.specs.declared.extended.ExtKind.{ExtKind}
use Rattle.un_ir.specs.declared.extended.ExtKind.TheVariants.{In, Out, Body, End, Copy, Enter, Leave}
use Rattle.un_ir.specs.declared.extended.ExtOp.{ExtOp}
use Rattle.un_ir.specs.declared.extended.ExtBlock.{ExtBlock}
use Rattle.un_ir.specs.declared.extended.Ext.{Ext}
use Rattle.un_domains.specs.declared.domain.Domain.{Domain}
use Rattle.un_domains.specs.declared.domain.Domain.TheVariants.{Range}
use Rattle.un_model.specs.declared.model.Options.{Options}
use Rattle.un_model.specs.declared.model.OpVars.{OpVars}
use Rattle.un_model.specs.declared.model.BlockVars.{BlockVars}
use Rattle.un_model.specs.Cost.{value_of}
use Rattle.un_model.specs.Pairs.{places_from}
use Rattle.un_model.specs.Schedules.{value_by}
use Rattle.un_model.specs.Variables.{count_if, cycle_place, var_count, ops_vars, ops_count, block_vars, block_count}
use Rattle.un_model.specs.Variables.{blocks_vars, cycle_domain, choice_domain, result_domain, chosen_operands, carries_truth, instr_domain}
use Rattle.un_model.specs.Variables.{op_domains, ops_domains, block_domains, blocks_domains, own_horizon}
use Rattle.un_lists.proofs.Lists.{Member, member_append_left, member_append_right}
use Rattle.un_model.proofs.Numbering.{length-op_domains, length-ops_domains, length-block_domains}
use Rattle.un_model.proofs.OpDomains.{get_left, get_right}
use Rattle.un_model.proofs.Placed.{Placed, placed, block_placed, blocks_placed, vars_of}
use Rattle.un_compact.specs.Squeezes.{times_of, is_used, squeezed}
use Rattle.un_compact.proofs.Squeezing.{Among, few_left}

-- ---- domains in a row

-- these domains stand among all from place k on
abbrev pub Stands : List Domain → ℕ → List Domain → Type 0
Stands all k ds = (i : ℕ) (d : Domain) → slice_get ds i ≡ Some d → slice_get all (k + i) ≡ Some d

pub stands_left : (all : List Domain) (k : ℕ) (xs ys : List Domain) → Stands all k (xs ++ ys) → Stands all k xs
stands_left all k xs ys h = λ i d e. h i d (get_left xs ys i d e)

pub stands_right : (all : List Domain) (k m : ℕ) (xs ys : List Domain) → m ≡ k + length xs → Stands all k (xs ++ ys) → Stands all m ys
stands_right all k m xs ys q h = λ i d e. let at : k + (length xs + i) ≡ m + i = omega (arith, q) in
    ap (slice_get all) (sym at) ∙ h (length xs + i) d (get_right xs ys i (length xs + i) refl ∙ e)

length_instr : (truth : Bool) (k : ExtKind) → length (option_to_list (instr_domain truth k)) ≡ count_if (is_optional k)
length_instr truth In = refl
length_instr truth Out = refl
length_instr truth (Body o) = refl
length_instr truth (End term) = refl
length_instr truth (Copy node) = refl
length_instr truth Enter = refl
length_instr truth Leave = refl

module _ (all : List Domain) (e : Ext) (o : Options) where
  -- the domain of a cycle
  pub cycle_stands : (ie : Bool) (owner : ExtBlock) (h first : ℕ) (op : ExtOp) (d : Domain)
      → Stands all first (op_domains e o ie owner h op)
      → cycle_domain h op.kind ≡ Some d → slice_get all (first + cycle_place op) ≡ Some d
  cycle_stands ie owner h first op d s q =
      let a = option_to_list (instr_domain (carries_truth e owner op op.results) op.kind) in
      let b = option_to_list (cycle_domain h op.kind) in
      let c = map choice_domain (chosen_operands op) in
      let r = places_from (result_domain e o ie owner op) 0 op.results in
      let la = length_instr (carries_truth e owner op op.results) op.kind in
      let s2 = stands_left all first (a ++ b) c (stands_left all first (a ++ b ++ c) r s) in
      let s3 = stands_right all first (first + cycle_place op) a b (omega (arith, la)) s2 in
      let z : first + cycle_place op + 0 ≡ first + cycle_place op = omega arith in
      ap (slice_get all) (sym z) ∙ s3 0 d (ap (λ (x : Option Domain). slice_get (option_to_list x) 0) q)

  -- an operation of a block, found by its variables
  pub record OpSite (ie : Bool) (owner : ExtBlock) (last : VarId) (ps : List Placed) (v : OpVars) : Type 0 where
    pub op : Placed
    pub member : Member op ps
    pub is : vars_of op ≡ v
    pub close : op.close ≡ last
    pub stands : Stands all op.first (op_domains e o ie owner (own_horizon owner) op.op)

  pub op_site : (ie : Bool) (b : ℕ) (owner : ExtBlock) (close : VarId) (n first : ℕ) (ops : List ExtOp)
      → Stands all first (ops_domains e o ie owner (own_horizon owner) ops) → (v : OpVars) → Member v (ops_vars first ops)
      → OpSite ie owner close (placed b owner close n first ops) v
  op_site ie b owner close n first [] s v m = elim m [ ]
  op_site ie b owner close n first (op ∷ ops) s v (inl q) = record {
    op = record { block = b; owner = owner; close = close; number = n; first = first; op = op };
    member = inl refl;
    is = q;
    close = refl;
    stands = stands_left all first (op_domains e o ie owner (own_horizon owner) op) (ops_domains e o ie owner (own_horizon owner) ops) s;
  }
  op_site ie b owner close n first (op ∷ ops) s v (inr m) =
      let l = length-op_domains e o ie owner (own_horizon owner) op in
      let r = op_site ie b owner close (n + 1) (first + var_count op) ops (stands_right all first (first + var_count op)
      (op_domains e o ie owner (own_horizon owner) op) (ops_domains e o ie owner (own_horizon owner) ops) (omega (arith, l)) s) v m in
      record { op = r.op; member = inr r.member; is = r.is; close = r.close; stands = r.stands }

  -- a block, found by its variables
  pub record BlockSite (blocks : List ExtBlock) (ps : List Placed) (vars : BlockVars) : Type 0 where
    pub ie : Bool
    pub b : ℕ
    pub n : ℕ
    pub first : ℕ
    pub block : ExtBlock
    pub member : Member block blocks
    pub is : block_vars first block ≡ vars
    pub inside : (p : Placed) → Member p (block_placed b n first block) → Member p ps
    pub stands : Stands all first (block_domains e o ie (own_horizon block) block)

  pub block_site : (ie : Bool) (b n first : ℕ) (blocks : List ExtBlock) → Stands all first (blocks_domains e o own_horizon ie blocks)
      → (vars : BlockVars) → Member vars (blocks_vars first blocks) → BlockSite blocks (blocks_placed b n first blocks) vars
  block_site ie b n first [] s vars m = elim m [ ]
  block_site ie b n first (block ∷ blocks) s vars (inl q) = record {
    ie = ie;
    b = b;
    n = n;
    first = first;
    block = block;
    member = inl refl;
    is = q;
    inside = λ p m. member_append_left (block_placed b n first block)
        (blocks_placed (b + 1) (n + length block.ops) (first + block_count block) blocks) p m;
    stands = stands_left all first (block_domains e o ie (own_horizon block) block) (blocks_domains e o own_horizon false blocks) s;
  }
  block_site ie b n first (block ∷ blocks) s vars (inr m) =
      let l = length-block_domains e o ie (own_horizon block) block in
      let r = block_site false (b + 1) (n + length block.ops) (first + block_count block) blocks (stands_right all first
      (first + block_count block) (block_domains e o ie (own_horizon block) block) (blocks_domains e o own_horizon false blocks)
      (omega (arith, l)) s) vars m in
      record {
        ie = r.ie;
        b = r.b;
        n = r.n;
        first = r.first;
        block = r.block;
        member = inr r.member;
        is = r.is;
        inside = λ p k. member_append_right (block_placed b n first block)
            (blocks_placed (b + 1) (n + length block.ops) (first + block_count block) blocks) p (r.inside p k);
        stands = r.stands;
      }

  -- the domain of an end
  pub end_stands : (ie : Bool) (first : ℕ) (block : ExtBlock) → Stands all first (block_domains e o ie (own_horizon block) block)
      → slice_get all (first + ops_count block.ops) ≡ Some (Range 1 block.horizon)
  end_stands ie first block s =
      let l = length-ops_domains e o ie block (own_horizon block) block.ops in
      let r = stands_right all first (first + ops_count block.ops) (ops_domains e o ie block (own_horizon block) block.ops)
      (Range 1 (own_horizon block) ∷ []) (omega (arith, l)) s in
      let z : first + ops_count block.ops + 0 ≡ first + ops_count block.ops = omega arith in
      ap (slice_get all) (sym z) ∙ r 0 (Range 1 (own_horizon block)) refl

-- ---- how long a squeezed block is

length-vars : (first : ℕ) (ops : List ExtOp) → length (ops_vars first ops) ≡ length ops
length-vars first [] = refl
length-vars first (op ∷ ops) = ap suc (length-vars (first + var_count op) ops)

length-mapped : {A B : Type 0} (f : A → B) (xs : List A) → length (map f xs) ≡ length xs
length-mapped f [] = refl
length-mapped f (x ∷ xs) = ap suc (length-mapped f xs)

in_of : (c : ℕ) (xs : List ℕ) → list_any (λ (t : ℕ). t == c) xs ≡ true → Among c xs
in_of c [] e = absurd (cc e)
in_of c (x ∷ xs) e = by (λ h. in_of c xs h) (eqb x c) refl e
  where
    by : (list_any (λ (t : ℕ). t == c) xs ≡ true → Among c xs) → (b : Bool) → eqb x c ≡ b
        → (eqb x c || list_any (λ (t : ℕ). t == c) xs) ≡ true → Among c (x ∷ xs)
    by later true q h = inl (eqb-true x c q)
    by later false q h = inr (later (sym (ap (λ (b : Bool). b || list_any (λ (t : ℕ). t == c) xs) q) ∙ h))

pub end_in_horizon : (old : List ℕ) (first : ℕ) (block : ExtBlock)
    → squeezed (is_used old (block_vars first block)) (value_of old (block_vars first block).end) ≤ 2 * length block.ops + 2
end_in_horizon old first block =
    let vars = block_vars first block in
    let cs = map (λ (v : OpVars). value_by old v.cycle) vars.ops in
    let few = few_left (is_used old vars) (value_of old vars.end) cs (λ c u. known c cs (in_of c (times_of old vars) u)) in
    let l = length-mapped (λ (v : OpVars). value_by old v.cycle) vars.ops in
    let k = length-vars first block.ops in
    omega (arith, few, l, k)
  where
    known : (c : ℕ) (cs : List ℕ) → Among c (0 ∷ value_of old (block_vars first block).end ∷ cs)
        → (c ≡ value_of old (block_vars first block).end) ⊎ (c ≡ 0) ⊎ Among c cs
    known c cs (inl q) = inr (inl (sym q))
    known c cs (inr (inl q)) = inl (sym q)
    known c cs (inr (inr m)) = inr (inr m)
