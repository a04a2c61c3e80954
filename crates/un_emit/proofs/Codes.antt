-- The blocks of the emitted code: under distinct labels, each with the packets of its block's jobs.
use Rattle.std.proofs.Common.{ℕ, zero, suc, ◌≡◌, ◌≢◌, ◌<◌, ◌+◌, ◌-◌, Bool, true, false, cond, not, ◌&&◌, List, [], ◌∷◌, map, ⊎_elim, refl}
use Rattle.std.proofs.Common.{sym, ap, ◌∙◌, subst, arith, AllPairs}
use Rattle.std.specs.Prelude.{Option, Some, None, slice_get, nat_eq}
use Rattle.std.specs.List.{range_with_len, zip}
use Rattle.std.specs.Cmp.Lexicographic.{pointwise}
use Rattle.std.proofs.lemmas.Bool.Decides.{nat_tests}
use Rattle.un_lists.specs.Exactness.{list_reflexive}
use Rattle.std.proofs.lemmas.Bool.{cases_eq}
use Rattle.un_ir.specs.declared.extended.ExtBlock.{ExtBlock}
use Rattle.un_ir.specs.declared.extended.Ext.{Ext}
use Rattle.un_model.specs.declared.model.BlockVars.{BlockVars}
use Rattle.un_model.specs.declared.model.Model.{Model}
use Rattle.un_model.specs.declared.model.Options.{Options}
use Rattle.un_model.specs.Cost.{value_of}
use Rattle.un_model.specs.Emission.{instrs_in, or_nop, block_packets}
use Rattle.un_model.specs.Variables.{model_of, block_vars, blocks_vars, block_count, var_at, ops_count}
use Rattle.un_packet.specs.declared.code.CodeBlock.{CodeBlock}
use Rattle.un_packet.specs.Run.{label_place}
use Rattle.un_emit.specs.Emitted.{packet_with, code_block, code_blocks}
use Rattle.un_lists.proofs.Lists.{Pairwise, each_member, member_at, pairwise_all, get_below, length_get}
use Rattle.un_emit.proofs.Cycles.{packet_of, packets_from}
use Rattle.un_model.proofs.Placed.{block_placed}
use Rattle.un_model.proofs.PlacedSchedules.{all}
use Rattle.un_emit.proofs.Jobs.{jobs_of, cycle_instrs}
use Rattle.un_emit.proofs.BlockJobs.{InRegion, region_of, vars_at}

-- ---- labels

same_list : (xs ys : List ℕ) → pointwise nat_eq xs ys ≡ true → xs ≡ ys
same_list [] [] q = refl
same_list [] (y ∷ ys) q = absurd (cc q)
same_list (x ∷ xs) [] q = absurd (cc q)
same_list (x ∷ xs) (y ∷ ys) q = ⊎_elim (λ (e : x ≡ y). ap (λ v. v ∷ xs) e ∙ ap (λ vs. y ∷ vs) (same_list xs ys (tail (nat_eq x y) q)))
    (λ (n : x ≢ y). absurd (n (head (nat_eq x y) refl q))) (cases_eq x y)
  where
    tail : (b : Bool) → (b && pointwise nat_eq xs ys) ≡ true → pointwise nat_eq xs ys ≡ true
    tail true q = q
    tail false q = absurd (cc q)

    head : (b : Bool) → nat_eq x y ≡ b → (b && pointwise nat_eq xs ys) ≡ true → x ≡ y
    head true s q = ⊎_elim (λ (e : x ≡ y). e) (λ (n : x ≢ y). absurd (grind (arith, s, nat_tests))) (cases_eq x y)
    head false s q = absurd (cc q)

-- a label leads to its block where no block before has it
label_first : (cs : List CodeBlock) (k : ℕ) (c : CodeBlock) → slice_get cs k ≡ Some c
    → ((i : ℕ) (b : CodeBlock) → i < k → slice_get cs i ≡ Some b → b.label ≢ c.label) → label_place cs c.label ≡ k
label_first [] k c q f = absurd (cc q)
label_first (b ∷ cs) zero c q f =
    let z : b ≡ c = cc q in
    let s : pointwise nat_eq b.label c.label ≡ true = ap (λ (d : CodeBlock). pointwise nat_eq d.label c.label) z
    ∙ list_reflexive nat_eq (λ n. grind (arith, nat_tests)) c.label in
    ap (λ (t : Bool). cond (not t) (1 + label_place cs c.label) 0) s
label_first (b ∷ cs) (suc k) c q f = go (label_first cs k c q (λ i d lt g. f (suc i) d (omega arith) g)) (pointwise nat_eq b.label c.label)
    refl
  where
    go : label_place cs c.label ≡ k → (t : Bool) → pointwise nat_eq b.label c.label ≡ t → label_place (b ∷ cs) c.label ≡ suc k
    go z true s = absurd (f 0 b (omega arith) refl (same_list b.label c.label s))
    go z false s =
        ap (λ (t : Bool). cond (not t) (1 + label_place cs c.label) 0) s ∙ omega (arith, z)

-- the code's blocks have the labels of the extended function's
pub labels_kept : (m : Model) (values : List ℕ) (first : ℕ) (blocks : List ExtBlock)
    → map (λ (c : CodeBlock). c.label)
    (map (λ (b : ExtBlock × BlockVars). code_block m values b.0 b.1) (zip blocks (blocks_vars first blocks)))
    ≡ map (λ (b : ExtBlock). b.label) blocks
labels_kept m values first [] = refl
labels_kept m values first (block ∷ blocks) =
    ap (λ xs. block.label ∷ xs) (labels_kept m values (first + block_count block) blocks)

-- ---- the block at a place

get_pair : {A B C : Type 0} (f : A × B → C) (xs : List A) (ys : List B) (k : ℕ) (x : A) (y : B) → slice_get xs k ≡ Some x
    → slice_get ys k ≡ Some y → slice_get (map f (zip xs ys)) k ≡ Some (f (x, y))
get_pair f [] ys k x y p q = absurd (cc p)
get_pair f (a ∷ xs) [] k x y p q = absurd (cc q)
get_pair f (a ∷ xs) (b ∷ ys) zero x y p q = let u : a ≡ x = cc p in let v : b ≡ y = cc q in ap (λ z. Some (f (z, b))) u
    ∙ ap (λ z. Some (f (x, z))) v
get_pair f (a ∷ xs) (b ∷ ys) (suc k) x y p q = get_pair f xs ys k x y p q

map_map : {A B C : Type 0} (f : B → C) (g : A → B) (xs : List A) → map f (map g xs) ≡ map (λ x. f (g x)) xs
map_map f g [] = refl
map_map f g (x ∷ xs) = ap (λ ys. f (g x) ∷ ys) (map_map f g xs)

same_maps : {A B : Type 0} (f g : A → B) (xs : List A) → ((x : A) → f x ≡ g x) → map f xs ≡ map g xs
same_maps f g [] h = refl
same_maps f g (x ∷ xs) h = ap (λ y. y ∷ map f xs) (h x) ∙ ap (λ ys. g x ∷ ys) (same_maps f g xs h)

-- the emitted packets of a block are those of its jobs
pub packets_same : (m : Model) (values : List ℕ) (b n first : ℕ) (block : ExtBlock)
    → map packet_with (block_packets m values block (block_vars first block)) ≡ packets_from
    (jobs_of m values (block_placed b n first block)) 1 (value_of values (var_at (first + ops_count block.ops)) - 1)
packets_same m values b n first block =
    let cs = range_with_len 1 (value_of values (var_at (first + ops_count block.ops)) - 1) in
    map_map packet_with (λ (c : ℕ). or_nop (instrs_in m values block (block_vars first block) c)) cs
    ∙ same_maps (λ (c : ℕ). packet_with (or_nop (instrs_in m values block (block_vars first block) c)))
    (packet_of (jobs_of m values (block_placed b n first block))) cs
    (λ c. ap packet_with (sym (cycle_instrs m values b n first c block)))

pairs_get : {X : Type 0} (R : X → X → Type 0) (xs : List X) → Pairwise R xs → (i k : ℕ) (a b : X) → i < k → slice_get xs i ≡ Some a
    → slice_get xs k ≡ Some b → R a b
pairs_get R [] h i k a b lt p q = absurd (cc p)
pairs_get R (x ∷ xs) h zero zero a b lt p q = absurd (omega arith)
pairs_get R (x ∷ xs) h zero (suc k) a b lt p q = let z : x ≡ a = cc p in
    subst (λ y. R y b) z (each_member (R x) xs b h.0 (member_at xs k b q))
pairs_get R (x ∷ xs) h (suc i) zero a b lt p q = absurd (omega arith)
pairs_get R (x ∷ xs) h (suc i) (suc k) a b lt p q = pairs_get R xs h.1 i k a b (omega arith) p q

module _ (e : Ext) (o : Options) (values : List ℕ) where
  -- the numbers of block k, and its variables
  pub region_vars : (k : ℕ) (block : ExtBlock) → slice_get e.blocks k ≡ Some block → (r : InRegion (all e o values) k block)
      × (slice_get (blocks_vars 0 e.blocks) k ≡ Some (let g = r.region in block_vars g.first block))
  region_vars k block at =
      let z : 0 + k ≡ k = omega arith in
      subst (λ n. (r : InRegion (all e o values) n block) × (slice_get (blocks_vars 0 e.blocks) n ≡ Some
      (let g = r.region in block_vars g.first block))) z (
        region_of 0 0 0 k e.blocks block at,
        subst (λ n. slice_get (blocks_vars 0 e.blocks) n ≡ Some
            (let r = region_of 0 0 0 k e.blocks block at in let g = r.region in block_vars g.first block)) (sym z)
            (vars_at 0 0 0 k e.blocks block at),
      )

  pub block_there : (k : ℕ) (block : ExtBlock) (at : slice_get e.blocks k ≡ Some block)
      → slice_get (code_blocks (model_of e o) values) k ≡ Some (let r = region_vars k block at in let g = (r.0).region in
      code_block (model_of e o) values block (block_vars g.first block))
  block_there k block at =
      let r = region_vars k block at in
      let g = (r.0).region in
      get_pair (λ (b : ExtBlock × BlockVars). code_block (model_of e o) values b.0 b.1) e.blocks (blocks_vars 0 e.blocks) k block
      (block_vars g.first block) at r.1

  -- distinct labels lead each to its block
  pub label_leads_to : AllPairs (λ (a b : ExtBlock). a.label ≢ b.label) e.blocks → (k : ℕ) (block : ExtBlock)
      → slice_get e.blocks k ≡ Some block → label_place (code_blocks (model_of e o) values) block.label ≡ k
  label_leads_to distinct k block at =
      let r = region_vars k block at in
      let g = (r.0).region in
      let c = code_block (model_of e o) values block (block_vars g.first block) in
      label_first (code_blocks (model_of e o) values) k c (block_there k block at) (λ i b lt q.
      let small = length_get e.blocks k block at in
      let other = get_below e.blocks i (omega (arith, small, lt)) in
      let same : Some (let r = region_vars i other.0 other.1 in let g = (r.0).region in
      code_block (model_of e o) values other.0 (block_vars g.first other.0)) ≡ Some b = sym (block_there i other.0 other.1) ∙ q in
      let label : (other.0).label ≡ b.label = ap (λ (z : Option CodeBlock). label_or z) same in
      λ y. apart i k lt other.0 block other.1 at (label ∙ y))
    where
      label_or : Option CodeBlock → List ℕ
      label_or None = []
      label_or (Some b) = b.label

      apart : (i k : ℕ) → i < k → (a b : ExtBlock) → slice_get e.blocks i ≡ Some a → slice_get e.blocks k ≡ Some b → a.label ≢ b.label
      apart i k lt a b p q = pairs_get (λ (a b : ExtBlock). a.label ≢ b.label) e.blocks
          (pairwise_all (λ (a b : ExtBlock). a.label ≢ b.label) e.blocks distinct) i k a b lt p q
