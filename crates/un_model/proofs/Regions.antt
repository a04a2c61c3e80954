-- The blocks of a model with the first numbers of their operations and variables, and the operation at the end of each.
use Rattle.std.proofs.Common.{ℕ, zero, suc, ◌≡◌, ◌+◌, Bool, true, false, List, [], ◌∷◌, ◌++◌, length, map, refl, sym, ap, ◌∙◌, subst, arith}
use Rattle.std.proofs.Common.{append_assoc}
use Rattle.std.specs.Prelude.{Some, slice_get}
use Rattle.std.specs.Option.{option_to_list}
use Rattle.un_base.specs.declared.ids.VarId.{VarId}
use Rattle.un_isa.specs.declared.table.Table.{Table}
use Rattle.un_ir.specs.declared.function.Kind.{Kind}
use Rattle.un_ir.specs.declared.extended.ExtKind.{ExtKind}
use Rattle.un_ir.specs.declared.extended.ExtKind.TheVariants.{In, Out, Body, End, Copy, Enter, Leave}
use Rattle.un_ir.specs.declared.extended.ExtOp.{ExtOp}
use Rattle.un_ir.specs.declared.extended.ExtBlock.{ExtBlock}
use Rattle.un_ir.specs.Linear.{is_in, is_out}
use Rattle.un_ir.specs.Extended.{is_copy, is_end, is_inner, AllAre, IsGoodExtBlock}
use Rattle.un_model.specs.declared.model.BlockVars.{BlockVars}
use Rattle.un_model.specs.Pairs.{joined, over_blocks}
use Rattle.un_model.specs.Variables.{var_at, var_count, ops_count, block_count, block_vars, blocks_vars}
use Rattle.un_lists.proofs.Lists.{Each, Member, each_all, each_join, each_more, place_of as position_of}
use Rattle.un_model.proofs.Operations.{placed_is}
use Rattle.un_model.proofs.Placed.{Placed, placed, blocks_placed, Region, region_placed}

abbrev pub regions : ℕ → ℕ → ℕ → List ExtBlock → List Region
regions b n first [] = []
regions b n first (block ∷ blocks) =
    record { block = b; number = n; first = first; owner = block } ∷
    regions (b + 1) (n + length block.ops) (first + block_count block) blocks

-- all operations are those of the regions
pub placed_regions : (b n first : ℕ) (blocks : List ExtBlock) → blocks_placed b n first blocks ≡ joined
    (map region_placed (regions b n first blocks))
placed_regions b n first [] = refl
placed_regions b n first (block ∷ blocks) =
    let r : Region = record { block = b; number = n; first = first; owner = block } in
    ap (λ ps. region_placed r ++ ps) (placed_regions (b + 1) (n + length block.ops) (first + block_count block) blocks)

-- what is listed block by block
pub over_regions : {A : Type 0} (f : ℕ → ℕ → ExtBlock → BlockVars → List A) (b n first : ℕ) (blocks : List ExtBlock)
    → over_blocks f b n blocks (blocks_vars first blocks) ≡ joined
    (map (λ (r : Region). f r.block r.number r.owner (block_vars r.first r.owner)) (regions b n first blocks))
over_regions f b n first [] = refl
over_regions f b n first (block ∷ blocks) = ap (λ xs. f b n block (block_vars first block) ++ xs)
    (over_regions f (b + 1) (n + length block.ops) (first + block_count block) blocks)

pub region_is : (b n first : ℕ) (blocks : List ExtBlock) (k : ℕ) (r : Region) → slice_get (regions b n first blocks) k ≡ Some r
    → (slice_get blocks k ≡ Some r.owner) × (r.block ≡ b + k)
region_is b n first [] k r e = absurd (cc e)
region_is b n first (block ∷ blocks) zero r e =
    let same : (let s : Region = record { block = b; number = n; first = first; owner = block } in s ≡ r) = cc e in
    subst (λ (s : Region). (Some block ≡ Some s.owner) × (s.block ≡ b + 0)) same (refl, omega arith)
region_is b n first (block ∷ blocks) (suc k) r e =
    let h = region_is (b + 1) (n + length block.ops) (first + block_count block) blocks k r e in
    let at = h.1 in (h.0, omega arith)

pub region_of : (b n first : ℕ) (blocks : List ExtBlock) (k : ℕ) (block : ExtBlock) → slice_get blocks k ≡ Some block
    → (r : Region) × (slice_get (regions b n first blocks) k ≡ Some r)
region_of b n first [] k block e = absurd (cc e)
region_of b n first (c ∷ blocks) zero block e = (record { block = b; number = n; first = first; owner = c }, refl)
region_of b n first (c ∷ blocks) (suc k) block e = region_of (b + 1) (n + length c.ops) (first + block_count c) blocks k block e

-- an operation of a region is of its block
pub of_region : (r : Region) (q : Placed) → Member q (region_placed r) → q.block ≡ r.block
of_region r q m =
    let own : ExtBlock = r.owner in
    let i = position_of (region_placed r) q m in
    let is = placed_is r.block own (var_at (r.first + ops_count own.ops)) r.number r.first i.0 own.ops q i.2 in
    is.2

-- ---- the operation at a block's end

pub placed_append : (b : ℕ) (owner : ExtBlock) (close : VarId) (n first : ℕ) (xs ys : List ExtOp)
    → placed b owner close n first (xs ++ ys) ≡ placed b owner close n first xs ++
    placed b owner close (n + length xs) (first + ops_count xs) ys
placed_append b owner close n first [] ys =
    ap (λ m. placed b owner close m first ys) (omega arith) ∙ ap (λ m. placed b owner close (n + 0) m ys) (omega arith)
placed_append b owner close n first (x ∷ xs) ys =
    let p : Placed = record { block = b; owner = owner; close = close; number = n; first = first; op = x } in
    let here = placed b owner close (n + 1) (first + var_count x) xs in
    ap (λ ps. p ∷ ps) (placed_append b owner close (n + 1) (first + var_count x) xs ys)
    ∙ ap (λ m. p ∷ (here ++ placed b owner close m (first + var_count x + ops_count xs) ys)) (omega arith)
    ∙ ap (λ m. p ∷ (here ++ placed b owner close (n + length (x ∷ xs)) m ys)) (omega arith)

-- the operations of a region but its last, which is `out`
pub record Ended (r : Region) : Type 0 where
  pub front : List ExtOp
  pub out : ExtOp
  pub whole : (let own = r.owner in own.ops ≡ front ++ out ∷ [])
  pub inner : Each (λ (op : ExtOp). is_out op.kind ≡ false) front
  pub is_end : out.kind ≡ Out

in_stays : (k : ExtKind) → is_in k ≡ true → is_out k ≡ false
in_stays In h = refl
in_stays Out h = absurd (cc h)
in_stays (Body so) h = refl
in_stays (End term) h = refl
in_stays (Copy node) h = refl
in_stays Enter h = refl
in_stays Leave h = refl

inner_stays : (k : ExtKind) → is_inner k ≡ true → is_out k ≡ false
inner_stays In h = refl
inner_stays Out h = absurd (cc h)
inner_stays (Body so) h = refl
inner_stays (End term) h = refl
inner_stays (Copy node) h = refl
inner_stays Enter h = refl
inner_stays Leave h = refl

end_stays : (k : ExtKind) → is_end k ≡ true → is_out k ≡ false
end_stays In h = refl
end_stays Out h = absurd (cc h)
end_stays (Body so) h = refl
end_stays (End term) h = refl
end_stays (Copy node) h = refl
end_stays Enter h = refl
end_stays Leave h = refl

copy_stays : (k : ExtKind) → is_copy k ≡ true → is_out k ≡ false
copy_stays In h = refl
copy_stays Out h = absurd (cc h)
copy_stays (Body so) h = refl
copy_stays (End term) h = refl
copy_stays (Copy node) h = refl
copy_stays Enter h = refl
copy_stays Leave h = refl

pub out_is : (k : ExtKind) → is_out k ≡ true → k ≡ Out
out_is Out h = refl
out_is In h = absurd (cc h)
out_is (Body so) h = absurd (cc h)
out_is (End term) h = absurd (cc h)
out_is (Copy node) h = absurd (cc h)
out_is Enter h = absurd (cc h)
out_is Leave h = absurd (cc h)

abbrev Stays : ExtOp → Type 0
Stays op = is_out op.kind ≡ false

all_stay : (test : ExtKind → Bool) → ((k : ExtKind) → test k ≡ true → is_out k ≡ false) → (ops : List ExtOp) → AllAre test ops
    → Each Stays ops
all_stay test stays ops h = each_more (λ (op : ExtOp). test op.kind ≡ true) Stays ops (λ op t. stays op.kind t)
    (each_all (λ (op : ExtOp). test op.kind ≡ true) ops h)

pub ended : (t : Table) (names : List Kind) (blocks : List ExtBlock) (r : Region) → IsGoodExtBlock t names blocks r.owner → Ended r
ended t names blocks r good =
    let parts = good.parts in
    let p = parts.0 in
    let h = parts.1 in
    let ending = option_to_list p.ending in
    let start = p.start in
    let last = p.out in
    record {
      front = p.start ∷ (p.inner ++ (ending ++ p.late));
      out = p.out;
      whole = h.whole ∙ ap (λ ops. p.start ∷ ops) (ap (λ ops. p.inner ++ ops) (sym (append_assoc ending p.late (p.out ∷ [])))
          ∙ sym (append_assoc p.inner (ending ++ p.late) (p.out ∷ [])));
      inner = (
        in_stays start.kind h.start,
        each_join Stays p.inner (ending ++ p.late) (all_stay is_inner inner_stays p.inner h.inner)
            (each_join Stays ending p.late (all_stay is_end end_stays ending h.ending) (all_stay is_copy copy_stays p.late h.late)),
      );
      is_end = out_is last.kind h.out;
    }

-- that operation with its numbers
abbrev pub last_of : (r : Region) → Ended r → Placed
last_of r en = let own : ExtBlock = r.owner in record {
  block = r.block;
  owner = r.owner;
  close = var_at (r.first + ops_count own.ops);
  number = r.number + length en.front;
  first = r.first + ops_count en.front;
  op = en.out;
}

abbrev pub front_of : (r : Region) → Ended r → List Placed
front_of r en = let own : ExtBlock = r.owner in placed r.block r.owner (var_at (r.first + ops_count own.ops)) r.number r.first en.front

pub region_parts : (r : Region) (en : Ended r) → region_placed r ≡ front_of r en ++ last_of r en ∷ []
region_parts r en =
    let own : ExtBlock = r.owner in
    ap (placed r.block r.owner (var_at (r.first + ops_count own.ops)) r.number r.first) en.whole
    ∙ placed_append r.block r.owner (var_at (r.first + ops_count own.ops)) r.number r.first en.front (en.out ∷ [])

pub front_stays : (b : ℕ) (owner : ExtBlock) (close : VarId) (n first : ℕ) (ops : List ExtOp) → Each Stays ops
    → Each (λ q. is_out q.op.kind ≡ false) (placed b owner close n first ops)
front_stays b owner close n first [] h = tt
front_stays b owner close n first (op ∷ ops) h = (h.0, front_stays b owner close (n + 1) (first + var_count op) ops h.1)
