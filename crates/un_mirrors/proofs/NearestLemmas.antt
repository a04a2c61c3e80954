-- The nearest decision of a path for a right side.
use Rattle.std.proofs.Common.{ℕ, zero, suc, ◌≡◌, ◌-◌, ◌<◌, ◌≤◌, List, [], ◌∷◌, ◌++◌, length, take, drop, get_or, Some, All}
use Rattle.std.proofs.Common.{refl, sym, ap, subst, ◌∙◌, arith, inl, inr}
use Rattle.std.specs.Prelude.{slice_get}
use Rattle.std.specs.List.{AllByRecursion}
use Rattle.std.proofs.lemmas.Bool.{cases_lt}
use Rattle.std.proofs.Math.Seq.{drop-cons}
use Rattle.std.proofs.lemmas.List.{get_or_default}
use Rattle.std.proofs.lemmas.List.Elements.{All-cons, All-same, recursion_from_All}
use Rattle.std.proofs.lemmas.Option.{slice_get_read}
use Rattle.un_domains.specs.declared.side.Side.TheVariants.{AtMost, Above}
use Rattle.un_tree.specs.declared.node.Decision.{Decision}
use Rattle.un_mirrors.specs.Shortened.{IsNearestRight}

-- ---- the decision at a place

pub get_here : (xs ys : List Decision) (d : Decision) → slice_get (xs ++ d ∷ ys) (length xs) ≡ Some d
get_here [] ys d = refl
get_here (x ∷ xs) ys d = get_here xs ys d

-- a path is what is above a decision, that decision, and what is below it
pub record IsPartedAt (path : List Decision) (depth : ℕ) (at : Decision) : Type 0 where
  pub split : path ≡ take depth path ++ at ∷ drop (suc depth) path
  pub deep : length (take depth path) ≡ depth

pub parted : (path : List Decision) (depth : ℕ) (at : Decision) → slice_get path depth ≡ Some at → IsPartedAt path depth at
parted [] depth at e = absurd (cc e)
parted (d ∷ ds) zero at e = let same : d ≡ at = cc e in record {
  split = ap (λ (x : Decision). x ∷ ds) same;
  deep = refl;
}
parted (d ∷ ds) (suc k) at e = let rest = parted ds k at e in record {
  split = ap (λ (xs : List Decision). d ∷ xs) rest.split;
  deep = ap suc rest.deep;
}

-- ---- sides

abbrev pub IsLeft : Decision → Type 0
IsLeft d = d.side ≡ AtMost

left_at : (ds : List Decision) (k : ℕ) (d : Decision) → AllByRecursion IsLeft ds → slice_get ds k ≡ Some d → d.side ≡ AtMost
left_at [] k d all e = absurd (cc e)
left_at (x ∷ xs) zero d all e = let same : x ≡ d = cc e in subst IsLeft same all.0
left_at (x ∷ xs) (suc k) d all e = left_at xs k d all.1 e

left_below : (above below : List Decision) (at d : Decision) (k : ℕ) → AllByRecursion IsLeft below → length above < k
    → slice_get (above ++ at ∷ below) k ≡ Some d → d.side ≡ AtMost
left_below [] below at d zero all lt e = absurd (omega (arith, lt))
left_below [] below at d (suc k) all lt e = left_at below k d all e
left_below (x ∷ xs) below at d zero all lt e = absurd (omega (arith, lt))
left_below (x ∷ xs) below at d (suc k) all lt e = left_below xs below at d k all (omega (arith, lt)) e

module _ (path : List Decision) where
  nearest_here : (k : ℕ) (h : IsNearestRight path k) → slice_get path k ≡ Some h.at
  nearest_here k h = ap (λ (ds : List Decision). slice_get ds k) h.split
      ∙ (ap (slice_get (h.above ++ h.at ∷ h.below)) (sym h.deep) ∙ get_here h.above h.below h.at)

  -- behind it all are for left sides
  never_below : (k n : ℕ) → IsNearestRight path k → IsNearestRight path n → k < n → ⊥
  never_below k n h g lt =
      let left : g.at.side ≡ AtMost = left_below h.above h.below h.at g.at n (recursion_from_All IsLeft h.below h.nearest)
      (let e = h.deep in omega (arith, e, lt)) (ap (λ (ds : List Decision). slice_get ds n) (sym h.split) ∙ nearest_here n g) in
      let right = g.right in cc (left, right)

  -- there is one at most
  pub nearest_once : (k n : ℕ) → IsNearestRight path k → IsNearestRight path n → k ≡ n
  nearest_once k n h g = elim (cases_lt k n) [
    | inl lt ↦ absurd (never_below k n h g lt)
    | inr ge ↦ elim (cases_lt n k) [
      | inl gt ↦ absurd (never_below n k g h gt)
      | inr le ↦ omega (arith, ge, le)
    ]
  ]

  -- there is none where all are for left sides
  pub none_nearest : (k : ℕ) → All IsLeft path → IsNearestRight path k → ⊥
  none_nearest k all h =
      let left : h.at.side ≡ AtMost = left_at path k h.at (recursion_from_All IsLeft path all) (nearest_here k h) in
      let right = h.right in cc (left, right)

  -- the decision at a place
  pub nearest_by : (k : ℕ) (at : Decision) → slice_get path k ≡ Some at → at.side ≡ Above → All IsLeft (drop (suc k) path)
      → IsNearestRight path k
  nearest_by k at e right all = let parts = parted path k at e in record {
    above = take k path;
    at = at;
    below = drop (suc k) path;
    split = parts.split;
    deep = parts.deep;
    right = right;
    nearest = all;
  }

  pub nearest_at : (k : ℕ) (h : IsNearestRight path k) (at : Decision) → slice_get path k ≡ Some at → at ≡ h.at
  nearest_at k h at e = let here = nearest_here k h in cc (e, here)

-- ---- as the code looks for it, from the end

module _ (path : List Decision) (k : ℕ) (d : Decision) (some : 0 < k) (inside : k ≤ length path)
    (left : All (λ (e : Decision). e.side ≡ AtMost) (drop k path)) where
  abbrev here : Decision
  here = get_or path (k - 1) d

  next_is : suc (k - 1) ≡ k
  next_is = omega (arith, some)

  rest_left : All IsLeft (drop (suc (k - 1)) path)
  rest_left = subst (λ (n : ℕ). All IsLeft (drop n path)) (sym next_is) left

  pub found_nearest : here.side ≡ Above → IsNearestRight path (k - 1)
  found_nearest right = nearest_by path (k - 1) here
      (slice_get_read path (length path) (k - 1) here refl (omega (arith, some, inside))
      (get_or_default path (k - 1) d here (omega (arith, some, inside)))) right rest_left

  pub left_more : here.side ≡ AtMost → All (λ (e : Decision). e.side ≡ AtMost) (drop (k - 1) path)
  left_more is = All-same IsLeft (drop (k - 1) path) (here ∷ drop (suc (k - 1)) path) (drop-cons path (k - 1) d (omega (arith, some, inside)))
      (All-cons IsLeft here (drop (suc (k - 1)) path) is rest_left)
