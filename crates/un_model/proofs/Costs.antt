-- The sum of the costs of blocks, and that it fits a word of 64 bits.
use Rattle.std.proofs.Common.{◌≡◌, ℕ, suc, zero, ◌+◌, ◌*◌, ◌-◌, ◌^◌, ◌<◌, ◌≤◌, ◌⊎◌, inl, inr, List, [], ◌∷◌, length, drop, min, Some}
use Rattle.std.proofs.Common.{slice_get, All, refl, arith}
use Rattle.std.specs.Prelude.{slice_index}
use Rattle.std.proofs.lemmas.Nat.{mul-le}
use Rattle.un_ir.specs.declared.function.TheConstants.{BLOCKS, FREQUENCY}
use Rattle.un_ir.specs.declared.extended.ExtBlock.{ExtBlock}
use Rattle.un_ir.specs.declared.extended.Ext.{Ext}
use Rattle.un_model.specs.declared.model.BlockVars.{BlockVars}
use Rattle.un_model.specs.Cost.{block_cost, blocks_cost, value_of}
use Rattle.un_model.specs.Extended.{IsRarelyRun, HasSmallCounts}
use Rattle.un_model.proofs.Steps.{drop_at, drop_past, within_min}

cost_step : (values : List ℕ) (i : ℕ) (blocks : List ExtBlock) (vars : List BlockVars) (block : ExtBlock) (v : BlockVars)
    → slice_get blocks i ≡ Some block → slice_get vars i ≡ Some v
    → blocks_cost values (drop i blocks) (drop i vars) ≡ block_cost values block v + blocks_cost values (drop (i + 1) blocks)
    (drop (i + 1) vars)
cost_step values i blocks vars block v p q = rw (drop_at blocks i block p, drop_at vars i v q) refl

pub cost_more : (values : List ℕ) (i : ℕ) (blocks : List ExtBlock) (vars : List BlockVars) (block : ExtBlock) (v : BlockVars)
    (sum whole cost : ℕ) → sum + blocks_cost values (drop i blocks) (drop i vars) ≡ whole → slice_get blocks i ≡ Some block
    → slice_get vars i ≡ Some v → cost ≡ block_cost values block v
    → (sum + cost) + blocks_cost values (drop (i + 1) blocks) (drop (i + 1) vars) ≡ whole
cost_more values i blocks vars block v sum whole cost h p q e = let s = cost_step values i blocks vars block v p q in omega (arith, s, h, e)

cost-nil : (values : List ℕ) (blocks : List ExtBlock) → blocks_cost values blocks [] ≡ 0
cost-nil values [] = refl
cost-nil values (block ∷ blocks) = refl

pub cost_all : (values : List ℕ) (i : ℕ) (blocks : List ExtBlock) (vars : List BlockVars) (sum whole : ℕ)
    → sum + blocks_cost values (drop i blocks) (drop i vars) ≡ whole → min (length blocks) (length vars) ≤ i → sum ≡ whole
cost_all values i blocks vars sum whole h g = by (within_min i blocks vars g)
  where
    by : (length blocks ≤ i) ⊎ (length vars ≤ i) → sum ≡ whole
    by (inl a) = let e : blocks_cost values (drop i blocks) (drop i vars) ≡ 0 = rw (drop_past i blocks a) refl in omega (arith, e, h)
    by (inr a) = let e : blocks_cost values (drop i blocks) (drop i vars) ≡ 0 = rw (drop_past i vars a) (cost-nil values (drop i blocks))
        in omega (arith, e, h)

one_bound : (f v : ℕ) → f ≤ FREQUENCY → v < 2 ^ 32 → f * (v - 1) ≤ FREQUENCY * 4294967296
one_bound f v h g = mul-le f (v - 1) FREQUENCY 4294967296 h (omega (arith, g))

bound : (values : List ℕ) (blocks : List ExtBlock) (vars : List BlockVars) → ((k : ℕ) → slice_index values k < 2 ^ 32)
    → All IsRarelyRun blocks → blocks_cost values blocks vars ≤ length blocks * (FREQUENCY * 4294967296)
bound values [] vars fit rare = omega arith
bound values (block ∷ blocks) [] fit rare = omega arith
bound values (block ∷ blocks) (v ∷ vars) fit rare =
    let rest = bound values blocks vars fit (λ k d lt. rare (suc k) d (omega (arith, lt))) in
    let here : block_cost values block v ≤ FREQUENCY * 4294967296 = one_bound block.freq (value_of values v.end)
    (rare zero block (omega arith)) (fit v.end.0) in
    omega (arith, rest, here)

pub fits : (e : Ext) (values : List ℕ) (vars : List BlockVars) (sum cost i : ℕ) (block : ExtBlock) (v : BlockVars) → HasSmallCounts e
    → ((k : ℕ) → slice_index values k < 2 ^ 32)
    → sum + blocks_cost values (drop i e.blocks) (drop i vars) ≡ blocks_cost values e.blocks vars → slice_get e.blocks i ≡ Some block
    → slice_get vars i ≡ Some v → cost ≡ block_cost values block v → sum + cost < 2 ^ 64
fits e values vars sum cost i block v small fit h p q g =
    let all = bound values e.blocks vars fit small.frequencies in
    let s = cost_step values i e.blocks vars block v p q in
    let few : length e.blocks * (FREQUENCY * 4294967296) ≤ BLOCKS * (FREQUENCY * 4294967296) =
    mul-le (length e.blocks) (FREQUENCY * 4294967296) BLOCKS (FREQUENCY * 4294967296) small.blocks (omega arith) in
    omega (arith, all, s, few, h, g)
