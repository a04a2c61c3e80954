-- The least cost of a member, block by block.
use Rattle.std.proofs.Common.{◌≡◌, ℕ, ◌+◌, ◌-◌, ◌*◌, ◌≤◌, ◌<◌, ◌⊎◌, inl, inr, List, [], ◌∷◌, length, drop, min, Some, refl, sym, subst}
use Rattle.std.proofs.Common.{arith}
use Rattle.std.specs.Prelude.{slice_get}
use Rattle.std.proofs.Math.Nat.{mul-le-mul_left}
use Rattle.std.proofs.lemmas.Nat.{mul-le}
use Rattle.std.proofs.lemmas.Bool.{cases_lt}
use Rattle.un_ir.specs.declared.extended.ExtBlock.{ExtBlock}
use Rattle.un_domains.specs.Sets.{Sets}
use Rattle.un_model.specs.declared.model.Arc.{Arc}
use Rattle.un_model.specs.declared.model.BlockVars.{BlockVars}
use Rattle.un_model.proofs.Steps.{drop_at, drop_past}
use Rattle.un_bound.specs.Relaxations.{Times, IsRelaxed, AreRelaxed, times_cost}
use Rattle.un_bound.specs.Choices.{IsLeastStop, IsLeastSum, AreKnown, AllKnown}

-- ---- the sum of the least ends is the least cost

pub record IsLeastCost (s : Sets) (n : ℕ) (blocks : List ExtBlock) (vars : List BlockVars) (arcs : List (List Arc)) (sum : ℕ)
    : Type 0 where
  pub reached : (times : List Times) × AreRelaxed s n blocks vars arcs times × (times_cost blocks times ≡ sum)
  pub least : (times : List Times) → AreRelaxed s n blocks vars arcs times → sum ≤ times_cost blocks times

no_cost : (blocks : List ExtBlock) → times_cost blocks [] ≡ 0
no_cost [] = refl
no_cost (block ∷ blocks) = refl

module _ (s : Sets) (n : ℕ) (block : ExtBlock) (blocks : List ExtBlock) (v : BlockVars) (vars : List BlockVars) (here : List Arc)
    (arcs : List (List Arc)) (stop rest : ℕ) (h : IsLeastStop s n v.end block.ops v.ops here (Some stop))
    (later : IsLeastCost s (n + length block.ops) blocks vars arcs rest) where
  both_cost : (u : Times) (us : List Times) → u.end ≡ stop → times_cost blocks us ≡ rest
      → block.freq * (u.end - 1) + times_cost blocks us ≡ block.freq * (stop - 1) + rest
  both_cost u us a b = rw (a, b) refl

  both_least : (times : List Times) → AreRelaxed s n (block ∷ blocks) (v ∷ vars) (here ∷ arcs) times
      → block.freq * (stop - 1) + rest ≤ times_cost (block ∷ blocks) times
  both_least [] r = absurd r
  both_least (u ∷ us) r =
      let a : stop - 1 ≤ u.end - 1 = omega (arith, h.1 u r.0) in
      let b : block.freq * (stop - 1) ≤ block.freq * (u.end - 1) = mul-le-mul_left block.freq a in
      omega (arith, b, later.least us r.1)

  both : IsLeastCost s n (block ∷ blocks) (v ∷ vars) (here ∷ arcs) (block.freq * (stop - 1) + rest)
  both = record {
    reached = (h.0.0 ∷ later.reached.0, (h.0.1, later.reached.1), both_cost h.0.0 later.reached.0 h.0.2 later.reached.2);
    least = both_least;
  }

pub least_cost : (s : Sets) (n : ℕ) (blocks : List ExtBlock) (vars : List BlockVars) (arcs : List (List Arc)) (sum : ℕ)
    → IsLeastSum s n blocks vars arcs sum → IsLeastCost s n blocks vars arcs sum
least_cost s n [] vars arcs sum e = record { reached = ([], refl, sym e); least = λ times r. omega (arith, e) }
least_cost s n (block ∷ blocks) [] arcs sum e = record { reached = ([], refl, sym e); least = λ times r. omega (arith, e) }
least_cost s n (block ∷ blocks) (v ∷ vars) [] sum e = record { reached = ([], refl, sym e); least = λ times r. omega (arith, e) }
least_cost s n (block ∷ blocks) (v ∷ vars) (here ∷ arcs) sum (stop, rest, h, more, e) =
    subst (IsLeastCost s n (block ∷ blocks) (v ∷ vars) (here ∷ arcs)) (sym e)
    (both s n block blocks v vars here arcs stop rest h (least_cost s (n + length block.ops) blocks vars arcs rest more))

-- ---- one block more

module _ (s : Sets) (n k : ℕ) (blocks : List ExtBlock) (vars : List BlockVars) (arcs : List (List Arc)) (block : ExtBlock)
    (v : BlockVars) (here : List Arc) (p : slice_get blocks k ≡ Some block) (q : slice_get vars k ≡ Some v)
    (r : slice_get arcs k ≡ Some here) where
  pub least_more : (Whole : ℕ → Type 0) (sum stop : ℕ) → IsLeastStop s n v.end block.ops v.ops here (Some stop)
      → ((rest : ℕ) → IsLeastSum s n (drop k blocks) (drop k vars) (drop k arcs) rest → Whole (sum + rest))
      → (rest : ℕ) → IsLeastSum s (n + length block.ops) (drop (k + 1) blocks) (drop (k + 1) vars) (drop (k + 1) arcs) rest
      → Whole ((sum + block.freq * (stop - 1)) + rest)
  least_more Whole sum stop h sofar rest more =
      let now : IsLeastSum s n (drop k blocks) (drop k vars) (drop k arcs) (block.freq * (stop - 1) + rest) =
      rw (drop_at blocks k block p, drop_at vars k v q, drop_at arcs k here r) (stop, rest, h, more, refl) in
      let e : sum + (block.freq * (stop - 1) + rest) ≡ (sum + block.freq * (stop - 1)) + rest = omega arith in
      subst Whole e (sofar (block.freq * (stop - 1) + rest) now)

  -- a member has a member of this block, and of what is left
  pub split : (times : List Times) → AreRelaxed s n (drop k blocks) (drop k vars) (drop k arcs) times
      → ((t : Times) × IsRelaxed s n v.end block.ops v.ops here t)
      × ((left : List Times) × AreRelaxed s (n + length block.ops) (drop (k + 1) blocks) (drop (k + 1) vars) (drop (k + 1) arcs) left)
  split times h = by times (rw (drop_at blocks k block p, drop_at vars k v q, drop_at arcs k here r) at h)
    where
      by : (us : List Times) → AreRelaxed s n (block ∷ drop (k + 1) blocks) (v ∷ drop (k + 1) vars) (here ∷ drop (k + 1) arcs) us
          → ((t : Times) × IsRelaxed s n v.end block.ops v.ops here t)
          × ((left : List Times) × AreRelaxed s (n + length block.ops) (drop (k + 1) blocks) (drop (k + 1) vars) (drop (k + 1) arcs) left)
      by [] g = absurd g
      by (u ∷ us) g = ((u, g.0), (us, g.1))

  pub known_here : (count : ℕ) → AllKnown count (drop k blocks) (drop k vars)
      → AreKnown count v.end block.ops v.ops × AllKnown count (drop (k + 1) blocks) (drop (k + 1) vars)
  known_here count h = rw (drop_at blocks k block p, drop_at vars k v q) at h

-- ---- no block more

nothing : (s : Sets) (n : ℕ) (blocks : List ExtBlock) (vars : List BlockVars) → IsLeastSum s n blocks vars [] 0
nothing s n [] vars = refl
nothing s n (block ∷ blocks) [] = refl
nothing s n (block ∷ blocks) (v ∷ vars) = refl

no_vars : (s : Sets) (n : ℕ) (blocks : List ExtBlock) (arcs : List (List Arc)) → IsLeastSum s n blocks [] arcs 0
no_vars s n [] arcs = refl
no_vars s n (block ∷ blocks) arcs = refl

pub least_all : (s : Sets) (n k : ℕ) (blocks : List ExtBlock) (vars : List BlockVars) (arcs : List (List Arc)) (Whole : ℕ → Type 0)
    (sum : ℕ) → ((rest : ℕ) → IsLeastSum s n (drop k blocks) (drop k vars) (drop k arcs) rest → Whole (sum + rest))
    → min (min (length blocks) (length vars)) (length arcs) ≤ k → Whole sum
least_all s n k blocks vars arcs Whole sum h le = subst Whole e (h 0 (by (cases_lt k (length blocks)) (cases_lt k (length vars))))
  where
    e : sum + 0 ≡ sum
    e = omega arith

    by : (k < length blocks) ⊎ (length blocks ≤ k) → (k < length vars) ⊎ (length vars ≤ k)
        → IsLeastSum s n (drop k blocks) (drop k vars) (drop k arcs) 0
    by (inr a) side = rw (drop_past k blocks a) refl
    by (inl a) (inr b) = rw (drop_past k vars b) (no_vars s n (drop k blocks) (drop k arcs))
    by (inl a) (inl b) = let c : length arcs ≤ k = omega (arith, a, b, le) in
        rw (drop_past k arcs c) (nothing s n (drop k blocks) (drop k vars))

pub few_cycles : (freq wait : ℕ) → freq ≤ 1000000 → wait < 4294967296 → freq * wait ≤ 4294967296000000
few_cycles freq wait f p = omega (arith, mul-le freq wait 1000000 4294967296 f (omega (arith, p)))
