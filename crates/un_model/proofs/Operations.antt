-- What an extended function keeps, operation by operation, with the results that an operand may choose.
use Rattle.std.proofs.Common.{ℕ, zero, suc, ◌≡◌, ◌<◌, ◌+◌, List, [], ◌∷◌, ◌++◌, length, map, take, ◌⊎◌, inl, inr, ⊎_elim, refl, sym, ap}
use Rattle.std.proofs.Common.{◌∙◌, subst, arith, Contains}
use Rattle.std.specs.Prelude.{Some, slice_get, slice_index_or}
use Rattle.un_base.specs.declared.ids.VarId.{VarId}
use Rattle.un_base.specs.declared.ids.TempId.{TempId}
use Rattle.un_ir.specs.declared.extended.ExtOp.{ExtOp}
use Rattle.un_ir.specs.declared.extended.ExtBlock.{ExtBlock}
use Rattle.un_ir.specs.declared.extended.Ext.{Ext}
use Rattle.un_ir.specs.Extended.{results_of, AreGoodBlocks, IsGoodExtBlock, IsGoodExtOp}
use Rattle.un_model.specs.Variables.{var_at, var_count, ops_count, block_count}
use Rattle.un_lists.proofs.Lists.{Each, Member, each_of, each_all, each_join, member_append_left, member_append_right, member_map}
use Rattle.un_lists.proofs.Lists.{member_at, place_of}
use Rattle.un_model.proofs.Placed.{Placed, placed, block_placed, blocks_placed, Spot, spot, spots_of, all_spots}
use Rattle.un_model.proofs.PlacedSchedules.{member_joined, member_places}

get_of_index : {X : Type 0} (xs : List X) (k : ℕ) (d x : X) → k < length xs → slice_index_or xs k d ≡ x → slice_get xs k ≡ Some x
get_of_index [] k d x lt e = absurd (omega arith)
get_of_index (y ∷ ys) zero d x lt e = ap Some e
get_of_index (y ∷ ys) (suc k) d x lt e = get_of_index ys k d x (omega arith) e

pub contains_member : {X : Type 0} (xs : List X) (x : X) → Contains xs x → Member x xs
contains_member xs x c = member_at xs c.0 x (get_of_index xs c.0 x x c.1 c.2)

-- ---- the operations of a block by their places

-- an operation with this block and these first numbers stands at place k of a block
pub placed_get : (b : ℕ) (owner : ExtBlock) (close : VarId) (n first k : ℕ) (ops : List ExtOp) (op : ExtOp) → slice_get ops k ≡ Some op
    → (p : Placed) × (slice_get (placed b owner close n first ops) k ≡ Some p) × (p.op ≡ op) × (p.number ≡ n + k) × (p.block ≡ b)
    × (p.owner ≡ owner)
placed_get b owner close n first k [] op e = absurd (cc e)
placed_get b owner close n first zero (o ∷ os) op e = (
  record {
    block = b;
    owner = owner;
    close = close;
    number = n;
    first = first;
    op =
        o;
  },
  refl,
  cc e,
  omega arith,
  refl,
  refl,
)
placed_get b owner close n first (suc k) (o ∷ os) op e =
    let r = placed_get b owner close (n + 1) (first + var_count o) k os op e in
    let num = r.3 in (r.0, r.1, r.2, omega arith, r.4, r.5)

taken_result : (ops : List ExtOp) (k : ℕ) (y : TempId) → Member y (results_of (take k ops)) → (i : ℕ) × (op : ExtOp) × (i < k)
    × (slice_get ops i ≡ Some op) × (Member y op.results)
taken_result ops zero y m = elim m [ ]
taken_result [] (suc k) y m = elim m [ ]
taken_result (o ∷ os) (suc k) y m = ⊎_elim
    (λ (h : Member y o.results). (0, o, omega arith, refl, h))
    (λ (h : Member y (results_of (take k os))). let r = taken_result os k y h in let lt = r.2 in (suc r.0, r.1, omega arith, r.3, r.4))
    (part o.results (results_of (take k os)) m)
  where
    part : (xs ys : List TempId) → Member y (xs ++ ys) → Member y xs ⊎ Member y ys
    part [] ys m = inr m
    part (z ∷ zs) ys (inl e) = inl (inl e)
    part (z ∷ zs) ys (inr m) = ⊎_elim (λ (k : Member y zs). inl (inr k)) (λ (k : Member y ys). inr k) (part zs ys m)

-- ---- all operations

pub placed_is : (b : ℕ) (owner : ExtBlock) (close : VarId) (n first k : ℕ) (ops : List ExtOp) (p : Placed)
    → slice_get (placed b owner close n first ops) k ≡ Some p
    → (slice_get ops k ≡ Some p.op) × (p.number ≡ n + k) × (p.block ≡ b) × (p.owner ≡ owner) × (p.close ≡ close)
placed_is b owner close n first k [] p e = absurd (cc e)
placed_is b owner close n first zero (o ∷ os) p e =
    let q : Placed = record { block = b; owner = owner; close = close; number = n; first = first; op = o } in
    let same : q ≡ p = cc e in
    subst (λ (r : Placed). (Some o ≡ Some r.op) × (r.number ≡ n + 0) × (r.block ≡ b) × (r.owner ≡ owner) × (r.close ≡ close)) same
    (refl, omega arith, refl, refl, refl)
placed_is b owner close n first (suc k) (o ∷ os) p e =
    let r = placed_is b owner close (n + 1) (first + var_count o) k os p e in
    let num = r.1 in (r.0, omega arith, r.2, r.3, r.4)

module _ (e : Ext) (limit : ℕ) (good : AreGoodBlocks e.table e.names e.blocks limit) where
  abbrev pub all_ops : List Placed
  all_ops = blocks_placed 0 0 0 e.blocks

  -- an operation is good where these temporaries are defined before it, which are results of earlier operations of its block
  pub record GoodPlaced (p : Placed) : Type 0 where
    pub before : List TempId
    pub keeps : IsGoodExtOp e.table e.names e.blocks p.owner before p.op
    pub local : (y : TempId) → Contains before y → (s : Spot) × (Member s (all_spots (blocks_placed 0 0 0 e.blocks))) × (s.temp ≡ y)
        × (s.definer.block ≡ p.block) × (s.definer.number < p.number)
    pub block : IsGoodExtBlock e.table e.names e.blocks p.owner
    pub here : slice_get e.blocks p.block ≡ Some p.owner
    pub inside : (k : ℕ) × (slice_get p.owner.ops k ≡ Some p.op)

  spot_of : (q : Placed) (y : TempId) → Member q (blocks_placed 0 0 0 e.blocks) → Member y q.op.results → (j : ℕ)
      × (Member (spot q j y) (all_spots (blocks_placed 0 0 0 e.blocks)))
  spot_of q y m n =
      let r = place_of q.op.results y n in (
        r.0,
        member_joined (map spots_of (blocks_placed 0 0 0 e.blocks)) (spots_of q) (spot q r.0 y)
            (member_map spots_of (blocks_placed 0 0 0 e.blocks) q m) (member_places (spot q) q.op.results 0 r.0 r.0 y (omega arith) r.2),
      )

  one_good : (b n first : ℕ) (block : ExtBlock) → IsGoodExtBlock e.table e.names e.blocks block → slice_get e.blocks b ≡ Some block
      → ((q : Placed) → Member q (block_placed b n first block) → Member q (blocks_placed 0 0 0 e.blocks))
      → Each GoodPlaced (block_placed b n first block)
  one_good b n first block g at into = each_of GoodPlaced (block_placed b n first block) (λ p m.
      let close = var_at (first + ops_count block.ops) in
      let r = place_of (block_placed b n first block) p m in
      let k = r.0 in
      let is = placed_is b block close n first k block.ops p r.2 in
      let own : block ≡ p.owner = sym is.3 in
      let num = is.1 in
      record {
        before = results_of (take k block.ops);
        keeps = subst (λ (o : ExtBlock). IsGoodExtOp e.table e.names e.blocks o (results_of (take k block.ops)) p.op) own
            (g.ops k p.op is.0);
        local = λ y c.
            let t = taken_result block.ops k y (contains_member (results_of (take k block.ops)) y c) in
            let q = placed_get b block close n first t.0 block.ops t.1 t.3 in
            let mq = into q.0 (member_at (block_placed b n first block) t.0 q.0 q.1) in
            let my : Member y q.0.op.results = subst (λ (o : ExtOp). Member y o.results) (sym q.2) t.4 in
            let s = spot_of q.0 y mq my in
            let lt = t.2 in let nq = q.3 in
            (spot q.0 s.0 y, s.1, refl, q.4 ∙ sym is.2, omega arith);
        block = subst (IsGoodExtBlock e.table e.names e.blocks) own g;
        here = ap (slice_get e.blocks) is.2 ∙ at ∙ ap Some own;
        inside = (k, subst (λ (o : ExtBlock). slice_get o.ops k ≡ Some p.op) own is.0);
      })

  each_good : (b n first : ℕ) (blocks : List ExtBlock) → Each (IsGoodExtBlock e.table e.names e.blocks) blocks
      → ((k : ℕ) (block : ExtBlock) → slice_get blocks k ≡ Some block → slice_get e.blocks (b + k) ≡ Some block)
      → ((q : Placed) → Member q (blocks_placed b n first blocks) → Member q (blocks_placed 0 0 0 e.blocks))
      → Each GoodPlaced (blocks_placed b n first blocks)
  each_good b n first [] g at into = tt
  each_good b n first (block ∷ blocks) g at into =
      let rest = blocks_placed (b + 1) (n + length block.ops) (first + block_count block) blocks in
      each_join GoodPlaced (block_placed b n first block) rest
      (one_good b n first block g.0 (ap (slice_get e.blocks) (omega arith) ∙ at 0 block refl)
      (λ q m. into q (member_append_left (block_placed b n first block) rest q m)))
      (each_good (b + 1) (n + length block.ops) (first + block_count block) blocks g.1
      (λ k c h. ap (slice_get e.blocks) (omega arith) ∙ at (suc k) c h)
      (λ q m. into q (member_append_right (block_placed b n first block) rest q m)))

  pub all_good : Each GoodPlaced (blocks_placed 0 0 0 e.blocks)
  all_good = each_good 0 0 0 e.blocks (each_all (IsGoodExtBlock e.table e.names e.blocks) e.blocks good.each)
      (λ k block h. ap (slice_get e.blocks) (omega arith) ∙ h) (λ q m. m)
