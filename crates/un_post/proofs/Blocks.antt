-- The blocks of a model one after another, each with its operations: what is posted block by block.
use Rattle.std.proofs.Common.{ℕ, ◌≡◌, ◌↔◌, ◌+◌, ◌<◌, ◌≤◌, List, [], ◌∷◌, ◌++◌, length, map, inl, inr, refl, sym, ap, ◌∙◌, subst, arith}
use Rattle.un_base.specs.declared.ids.VarId.{VarId}
use Rattle.un_ir.specs.declared.extended.ExtBlock.{ExtBlock}
use Rattle.un_ir.specs.declared.extended.ExtOp.{ExtOp}
use Rattle.un_ir.specs.declared.extended.Ext.{Ext}
use Rattle.un_model.specs.declared.model.BlockVars.{BlockVars}
use Rattle.un_model.specs.declared.model.Options.{Options}
use Rattle.un_model.specs.Pairs.{pairs_from, joined, over_blocks}
use Rattle.un_model.specs.Variables.{op_vars, ops_vars, var_count, var_at, ops_count, block_count, block_vars, blocks_vars}
use Rattle.un_lists.proofs.Lists.{Each, Pairwise, Member, each_of, each_member, member_map, pairwise_two, place_of as position_of}
use Rattle.un_model.proofs.Operations.{placed_is}
use Rattle.un_model.proofs.Placed.{Placed, placed, Region, region_placed}
use Rattle.un_model.proofs.PlacedSchedules.{all, member_joined, joined_member}
use Rattle.un_kinds.specs.Constraints.{Constraint, AllMet}
use Rattle.un_sites.specs.Places.{Place, place_at, block_places}
use Rattle.un_post.proofs.Meeting.{Met, met_all, all_met, each_joined, joined_each}
use Rattle.un_post.proofs.Placing.{place_of}
use Rattle.un_model.proofs.Regions.{regions, placed_regions, over_regions, of_region}

-- ---- lists

pub joined_append : {A : Type 0} (xss yss : List (List A)) → joined (xss ++ yss) ≡ joined xss ++ joined yss
joined_append [] yss = refl
joined_append (xs ∷ xss) yss = ap (λ zs. xs ++ zs) (joined_append xss yss) ∙ sym (assoc xs (joined xss) (joined yss))
  where
    assoc : {A : Type 0} (xs ys zs : List A) → (xs ++ ys) ++ zs ≡ xs ++ (ys ++ zs)
    assoc [] ys zs = refl
    assoc (x ∷ xs) ys zs = ap (λ ws. x ∷ ws) (assoc xs ys zs)

-- what is made of the items of joined lists is what is made of each list, joined
pub joined_parts : {A B : Type 0} (f : A → List B) (xss : List (List A))
    → joined (map f (joined xss)) ≡ joined (map (λ xs. joined (map f xs)) xss)
joined_parts f [] = refl
joined_parts f (xs ∷ xss) =
    ap joined (append f xs (joined xss)) ∙ joined_append (map f xs) (map f (joined xss))
    ∙ ap (λ ys. joined (map f xs) ++ ys) (joined_parts f xss)
  where
    append : {A B : Type 0} (f : A → B) (xs ys : List A) → map f (xs ++ ys) ≡ map f xs ++ map f ys
    append f [] ys = refl
    append f (x ∷ xs) ys = ap (λ zs. f x ∷ zs) (append f xs ys)

pub map_twice : {A B C : Type 0} (f : B → C) (g : A → B) (xs : List A) → map f (map g xs) ≡ map (λ x. f (g x)) xs
map_twice f g [] = refl
map_twice f g (x ∷ xs) = ap (λ ys. f (g x) ∷ ys) (map_twice f g xs)

-- ---- blocks

abbrev pub region_vars : Region → BlockVars
region_vars r = block_vars r.first r.owner

abbrev pub region_places : Region → List Place
region_places r = map place_of (region_placed r)

op_places : (b : ℕ) (owner : ExtBlock) (close : VarId) (n first : ℕ) (ops : List ExtOp)
    → pairs_from (place_at b close) n ops (ops_vars first ops) ≡ map place_of (placed b owner close n first ops)
op_places b owner close n first [] = refl
op_places b owner close n first (op ∷ ops) =
    ap (λ ps. place_at b close n op (op_vars first op) ∷ ps) (op_places b owner close (n + 1) (first + var_count op) ops)

-- the operations of a block as propagators name them
pub places_in : (r : Region) → block_places r.block r.number r.owner (region_vars r) ≡ region_places r
places_in r = let owner = r.owner in op_places r.block owner (var_at (r.first + ops_count owner.ops)) r.number r.first owner.ops

-- ---- numbers of blocks

pub past : (b n first : ℕ) (blocks : List ExtBlock) → Each (λ (r : Region). b ≤ r.block) (regions b n first blocks)
past b n first [] = tt
past b n first (block ∷ blocks) =
    let rest = regions (b + 1) (n + length block.ops) (first + block_count block) blocks in (
      omega arith,
      each_of (λ (r : Region). b ≤ r.block) rest (λ r m.
          let le = each_member (λ (r : Region). b + 1 ≤ r.block) rest r
          (past (b + 1) (n + length block.ops) (first + block_count block) blocks) m in omega arith),
    )

-- they rise
pub rising : (b n first : ℕ) (blocks : List ExtBlock) → Pairwise (λ (r s : Region). r.block < s.block) (regions b n first blocks)
rising b n first [] = tt
rising b n first (block ∷ blocks) =
    let rest = regions (b + 1) (n + length block.ops) (first + block_count block) blocks in (
      each_of (λ (r : Region). b < r.block) rest (λ r m.
          let le = each_member (λ (r : Region). b + 1 ≤ r.block) rest r
          (past (b + 1) (n + length block.ops) (first + block_count block) blocks) m in omega arith),
      rising (b + 1) (n + length block.ops) (first + block_count block) blocks,
    )

-- an operation of a block has it as its owner
pub region_owner : (r : Region) (q : Placed) → Member q (region_placed r) → q.owner ≡ r.owner
region_owner r q m =
    let owner = r.owner in
    let k = position_of (region_placed r) q m in
    let is = placed_is r.block owner (var_at (r.first + ops_count owner.ops)) r.number r.first k.0 owner.ops q k.2 in
    is.3

-- and its end
pub region_close : (r : Region) (q : Placed) → Member q (region_placed r)
    → (let owner = r.owner in var_at (r.first + ops_count owner.ops) ≡ q.close)
region_close r q m =
    let owner = r.owner in
    let k = position_of (region_placed r) q m in
    let is = placed_is r.block owner (var_at (r.first + ops_count owner.ops)) r.number r.first k.0 owner.ops q k.2 in
    sym is.4

module _ (e : Ext) (o : Options) (x : List ℕ) where
  abbrev pub blocks : List Region
  blocks = regions 0 0 0 e.blocks

  -- each operation is of a block
  pub region_of : (q : Placed) → Member q (all e o x) → (r : Region) × (Member r blocks) × (Member q (region_placed r))
  region_of q m = joined_member region_placed blocks q (subst (Member q) (placed_regions 0 0 0 e.blocks) m)

  pub in_all : (r : Region) (q : Placed) → Member r blocks → Member q (region_placed r) → Member q (all e o x)
  in_all r q m n = subst (Member q) (sym (placed_regions 0 0 0 e.blocks))
      (member_joined (map region_placed blocks) (region_placed r) q (member_map region_placed blocks r m) n)

  -- two blocks with one number are one
  pub one_region : (r s : Region) → Member r blocks → Member s blocks → r.block ≡ s.block → r ≡ s
  one_region r s m n same = elim (pairwise_two (λ (r s : Region). r.block < s.block) blocks r s (rising 0 0 0 e.blocks) m n) [
    | inl is ↦ is
    | inr two ↦ elim two [ inl lt ↦ absurd (omega arith) | inr lt ↦ absurd (omega arith) ]
  ]

  -- an operation with the number of a block is of that block
  pub stands_in : (r : Region) (q : Placed) → Member r blocks → Member q (all e o x) → q.block ≡ r.block → Member q (region_placed r)
  stands_in r q m n same =
      let s = region_of q n in
      subst (λ t. Member q (region_placed t)) (one_region s.0 r s.1 m (sym (of_region s.0 q s.2) ∙ same)) s.2

  -- what is posted block by block
  pub regions_met : (f : ℕ → ℕ → ExtBlock → BlockVars → List Constraint)
      → AllMet (over_blocks f 0 0 e.blocks (blocks_vars 0 e.blocks)) x ↔ Each
      (λ (r : Region). Met x (f r.block r.number r.owner (region_vars r))) blocks
  regions_met f = (
    λ h. each_joined _ (λ (r : Region). f r.block r.number r.owner (region_vars r)) blocks
        (subst (Met x) (over_regions f 0 0 0 e.blocks) (met_all x _ h)),
    λ h. all_met x _ (subst (Met x) (sym (over_regions f 0 0 0 e.blocks))
        (joined_each _ (λ (r : Region). f r.block r.number r.owner (region_vars r)) blocks h)),
  )
