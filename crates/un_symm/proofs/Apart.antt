-- Which numbers the register variables of a model have: those behind the other variables of an operation, and no others.
use Rattle.std.proofs.Common.{ℕ, ◌≡◌, ◌+◌, ◌<◌, ◌≤◌, true, false, eqb, List, [], ◌∷◌, ◌++◌, length, ◌⊎◌, inl, inr}
use Rattle.std.proofs.Common.{refl, sym, ap, ◌∙◌, subst, arith}
use Rattle.std.proofs.lemmas.Bool.{eqb-true}
use Rattle.un_base.specs.declared.ids.VarId.{VarId}
use Rattle.un_ir.specs.declared.extended.ExtOp.{ExtOp}
use Rattle.un_ir.specs.declared.extended.ExtBlock.{ExtBlock}
use Rattle.un_model.specs.declared.model.TempVars.{TempVars}
use Rattle.un_model.specs.declared.model.BlockVars.{BlockVars}
use Rattle.un_model.specs.Variables.{register_place, var_count, var_at, ops_count, block_vars, block_count, blocks_vars, blocks_count}
use Rattle.un_model.specs.Variables.{blocks_temps}
use Rattle.un_lists.proofs.Lists.{Each, Pairwise, Member, each_member, each_of, each_join, member_map_of, length_get, any_of, pairwise_two}
use Rattle.un_model.proofs.Placed.{Placed, placed, block_placed, blocks_placed, Spot, spot, spots_of, all_spots, temp_vars, temps_are}
use Rattle.un_model.proofs.PlacedSchedules.{joined_member, places_member}
use Rattle.un_symm.specs.Exchanges.{is_register_of}
use Rattle.un_symm.proofs.Tests.{false_by}

-- ---- the variables of operations stand one behind another

-- the variables of p are before those of q
abbrev Before : Placed → Placed → Type 0
Before p q = p.first + var_count p.op ≤ q.first

-- those of p are from one number on and below another
abbrev Within : ℕ → ℕ → Placed → Type 0
Within low high p = (low ≤ p.first) × (p.first + var_count p.op ≤ high)

within_ops : (b : ℕ) (owner : ExtBlock) (close : VarId) (n first : ℕ) (ops : List ExtOp) (p : Placed)
    → Member p (placed b owner close n first ops) → Within first (first + ops_count ops) p
within_ops b owner close n first [] p m = elim m [ ]
within_ops b owner close n first (op ∷ ops) p (inl e) =
    subst (Within first (first + ops_count (op ∷ ops))) e (omega arith, omega arith)
within_ops b owner close n first (op ∷ ops) p (inr m) =
    let r = within_ops b owner close (n + 1) (first + var_count op) ops p m in let lo = r.0 in let hi = r.1 in
    (omega (arith, lo), omega (arith, hi))

within_blocks : (b n first : ℕ) (blocks : List ExtBlock)
    → Each (Within first (first + blocks_count blocks)) (blocks_placed b n first blocks)
within_blocks b n first [] = tt
within_blocks b n first (block ∷ blocks) =
    let close = var_at (first + ops_count block.ops) in
    let next = first + block_count block in
    let rest = blocks_placed (b + 1) (n + length block.ops) next blocks in
    let high = first + blocks_count (block ∷ blocks) in
    each_join (Within first high) (block_placed b n first block) rest
    (each_of (Within first high) (block_placed b n first block) (λ p m.
    let r = within_ops b block close n first block.ops p m in let lo = r.0 in let hi = r.1 in (lo, omega (arith, hi))))
    (each_of (Within first high) rest (λ p m.
    let r = each_member (Within next (next + blocks_count blocks)) rest p (within_blocks (b + 1) (n + length block.ops) next blocks) m in
    let lo = r.0 in let hi = r.1 in (omega (arith, lo), omega (arith, hi))))

pairwise_join : {X : Type 0} (R : X → X → Type 0) (xs ys : List X) → Pairwise R xs → Pairwise R ys
    → ((x y : X) → Member x xs → Member y ys → R x y) → Pairwise R (xs ++ ys)
pairwise_join R [] ys h k cross = k
pairwise_join R (x ∷ xs) ys h k cross = (
  each_join (R x) xs ys h.0 (each_of (R x) ys (λ y m. cross x y (inl refl) m)),
  pairwise_join R xs ys h.1 k (λ z y m n. cross z y (inr m) n),
)

apart_ops : (b : ℕ) (owner : ExtBlock) (close : VarId) (n first : ℕ) (ops : List ExtOp) → Pairwise Before (placed b owner close n first ops)
apart_ops b owner close n first [] = tt
apart_ops b owner close n first (op ∷ ops) =
    let p : Placed = record { block = b; owner = owner; close = close; number = n; first = first; op = op } in
    let rest = placed b owner close (n + 1) (first + var_count op) ops in (
      each_of (Before p) rest (λ q m. let r = within_ops b owner close (n + 1) (first + var_count op) ops q m in r.0),
      apart_ops b owner close (n + 1) (first + var_count op) ops,
    )

apart_blocks : (b n first : ℕ) (blocks : List ExtBlock) → Pairwise Before (blocks_placed b n first blocks)
apart_blocks b n first [] = tt
apart_blocks b n first (block ∷ blocks) =
    let close = var_at (first + ops_count block.ops) in
    let next = first + block_count block in
    let rest = blocks_placed (b + 1) (n + length block.ops) next blocks in
    pairwise_join Before (block_placed b n first block) rest
    (apart_ops b block close n first block.ops) (apart_blocks (b + 1) (n + length block.ops) next blocks)
    (λ p q m k.
    let r = within_ops b block close n first block.ops p m in let hi = r.1 in
    let s = each_member (Within next (next + blocks_count blocks)) rest q (within_blocks (b + 1) (n + length block.ops) next blocks) k in
    let lo = s.0 in omega (arith, hi, lo))

-- ---- ends are variables of no operation

-- number v is no variable of p
abbrev Outside : ℕ → Placed → Type 0
Outside v p = (p.first + var_count p.op ≤ v) ⊎ (v < p.first)

end_outside : (b n first : ℕ) (blocks : List ExtBlock) (vars : BlockVars) → Member vars (blocks_vars first blocks)
    → (first ≤ vars.end.0) × Each (Outside vars.end.0) (blocks_placed b n first blocks)
end_outside b n first [] vars m = elim m [ ]
end_outside b n first (block ∷ blocks) vars (inl e) =
    let close = var_at (first + ops_count block.ops) in
    let next = first + block_count block in
    let rest = blocks_placed (b + 1) (n + length block.ops) next blocks in
    subst (λ (v : BlockVars). (first ≤ v.end.0) × Each (Outside v.end.0) (blocks_placed b n first (block ∷ blocks))) e (
      omega arith,
      each_join (Outside (first + ops_count block.ops)) (block_placed b n first block) rest
          (each_of (Outside (first + ops_count block.ops)) (block_placed b n first block) (λ p k.
          let r = within_ops b block close n first block.ops p k in inl r.1))
          (each_of (Outside (first + ops_count block.ops)) rest (λ p k.
          let r = each_member (Within next (next + blocks_count blocks)) rest p
          (within_blocks (b + 1) (n + length block.ops) next blocks) k in
          let lo = r.0 in let less : first + ops_count block.ops < p.first = omega (arith, lo) in inr less)),
    )
end_outside b n first (block ∷ blocks) vars (inr m) =
    let close = var_at (first + ops_count block.ops) in
    let next = first + block_count block in
    let rest = blocks_placed (b + 1) (n + length block.ops) next blocks in
    let later = end_outside (b + 1) (n + length block.ops) next blocks vars m in
    let past = later.0 in (
      omega (arith, past),
      each_join (Outside vars.end.0) (block_placed b n first block) rest
          (each_of (Outside vars.end.0) (block_placed b n first block) (λ p k.
          let r = within_ops b block close n first block.ops p k in let hi = r.1 in
          let le : p.first + var_count p.op ≤ vars.end.0 = omega (arith, hi, past) in inl le))
          later.1,
    )

-- the end of an operation's block is one of the ends
close_in : (b : ℕ) (owner : ExtBlock) (close : VarId) (n first : ℕ) (ops : List ExtOp) (p : Placed)
    → Member p (placed b owner close n first ops) → p.close ≡ close
close_in b owner close n first [] p m = elim m [ ]
close_in b owner close n first (op ∷ ops) p (inl e) = sym (ap (λ (q : Placed). q.close) e)
close_in b owner close n first (op ∷ ops) p (inr m) = close_in b owner close (n + 1) (first + var_count op) ops p m

abbrev IsEnd : List BlockVars → Placed → Type 0
IsEnd vs p = (vars : BlockVars) × (Member vars vs) × (vars.end ≡ p.close)

close_is_end : (b n first : ℕ) (blocks : List ExtBlock) → Each (IsEnd (blocks_vars first blocks)) (blocks_placed b n first blocks)
close_is_end b n first [] = tt
close_is_end b n first (block ∷ blocks) =
    let close = var_at (first + ops_count block.ops) in
    let next = first + block_count block in
    let rest = blocks_placed (b + 1) (n + length block.ops) next blocks in
    let vs = blocks_vars first (block ∷ blocks) in
    each_join (IsEnd vs) (block_placed b n first block) rest
    (each_of (IsEnd vs) (block_placed b n first block) (λ p m.
    (block_vars first block, inl refl, sym (close_in b block close n first block.ops p m))))
    (each_of (IsEnd vs) rest (λ p m.
    let r = each_member (IsEnd (blocks_vars next blocks)) rest p (close_is_end (b + 1) (n + length block.ops) next blocks) m in
    (r.0, inr r.1, r.2)))

-- ---- register variables

-- variable v is the register of a result of this operation
record OwnerOf (ps : List Placed) (v : ℕ) : Type 0 where
  op : Placed
  member : Member op ps
  low : op.first + register_place op.op ≤ v
  high : v < op.first + var_count op.op

owner_of : (blocks : List ExtBlock) (v : ℕ) → is_register_of (blocks_temps 0 0 blocks) v ≡ true
    → OwnerOf (blocks_placed 0 0 0 blocks) v
owner_of blocks v e =
    let ps = blocks_placed 0 0 0 blocks in
    let r = any_of (λ (t : TempVars). eqb t.reg.0 v) (blocks_temps 0 0 blocks) e in
    let is = eqb-true r.0.reg.0 v r.2 in
    let s = member_map_of temp_vars (all_spots ps) r.0 (subst (Member r.0) (temps_are 0 0 0 blocks) r.1) in
    let d = joined_member spots_of ps s.0 s.1 in
    let p = d.0 in
    let k = places_member (spot p) 0 p.op.results s.0 d.2 in
    let lt = length_get p.op.results k.0 k.1 k.2 in
    let reg : p.first + register_place p.op + (0 + k.0) ≡ v =
    ap (λ (s : Spot). (temp_vars s).reg.0) k.3 ∙ ap (λ (t : TempVars). t.reg.0) s.2 ∙ is in
    record {
      op = p;
      member = d.1;
      low = omega (arith, reg);
      high = omega (arith, reg, lt);
    }

module _ (blocks : List ExtBlock) where
  abbrev temps : List TempVars
  temps = blocks_temps 0 0 blocks

  abbrev ps : List Placed
  ps = blocks_placed 0 0 0 blocks

  -- no variable of an operation before those of its registers
  pub no_register : (p : Placed) → Member p ps → (v : ℕ) → p.first ≤ v → v < p.first + register_place p.op → is_register_of temps v ≡ false
  no_register p m v lo hi = false_by (is_register_of temps v) (λ e. by (owner_of blocks v e))
    where
      by : OwnerOf ps v → ⊥
      by o = go o.op o.low o.high (pairwise_two Before ps p o.op (apart_blocks 0 0 0 blocks) m o.member)
        where
          go : (q : Placed) → q.first + register_place q.op ≤ v → v < q.first + var_count q.op → (p ≡ q) ⊎ (Before p q) ⊎ (Before q p) → ⊥
          go q low high (inl e) =
              let f = ap (λ (p : Placed). p.first + register_place p.op) e in omega (arith, f, low, hi)
          go q low high (inr (inl before)) = omega (arith, before, low, hi)
          go q low high (inr (inr before)) = omega (arith, before, high, lo)

  outside_all : (v : ℕ) → Each (Outside v) ps → is_register_of temps v ≡ false
  outside_all v h = false_by (is_register_of temps v) (λ e. let o = owner_of blocks v e in
      go o.op o.low o.high (each_member (Outside v) ps o.op h o.member))
    where
      go : (q : Placed) → q.first + register_place q.op ≤ v → v < q.first + var_count q.op → Outside v q → ⊥
      go q low high (inl le) = omega (arith, high, le)
      go q low high (inr lt) = omega (arith, low, lt)

  -- no end of a block
  pub no_end : (vars : BlockVars) → Member vars (blocks_vars 0 blocks) → is_register_of temps vars.end.0 ≡ false
  no_end vars m = let r = end_outside 0 0 0 blocks vars m in outside_all vars.end.0 r.1

  pub no_close : (p : Placed) → Member p ps → is_register_of temps p.close.0 ≡ false
  no_close p m =
      let r = each_member (IsEnd (blocks_vars 0 blocks)) ps p (close_is_end 0 0 0 blocks) m in
      subst (λ (v : VarId). is_register_of temps v.0 ≡ false) r.2 (no_end r.0 r.1)

  -- not the frame flag
  pub no_flag : is_register_of temps (blocks_count blocks) ≡ false
  no_flag = outside_all (blocks_count blocks) (each_of (Outside (blocks_count blocks)) ps (λ p m.
      let r = each_member (Within 0 (0 + blocks_count blocks)) ps p (within_blocks 0 0 0 blocks) m in
      let hi = r.1 in let le : p.first + var_count p.op ≤ blocks_count blocks = omega (arith, hi) in inl le))
