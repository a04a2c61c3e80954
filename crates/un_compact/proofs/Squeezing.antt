-- Where cycles come when those go that are neither in use nor right before one in use: order, distances and how many are left.
use Rattle.std.proofs.Common.{ℕ, zero, suc, ◌≡◌, ◌+◌, ◌-◌, ◌*◌, ◌<◌, ◌≤◌, Bool, true, false, ltb, List, [], ◌∷◌, length, ◌⊎◌, inl, inr}
use Rattle.std.proofs.Common.{⊎_elim, refl, sym, ap, ◌∙◌, subst, arith, min}
use Rattle.std.specs.Prelude.{◌||◌}
use Rattle.std.proofs.lemmas.Bool.{cases_lt, ltb-true, ltb-false, lt-ltb, le-ltb}
use Rattle.un_model.specs.Variables.{count_if}
use Rattle.un_compact.specs.Squeezes.{squeezed}

count_le : (b : Bool) → count_if b ≤ 1
count_le true = omega arith
count_le false = omega arith

left_stays : (a b : Bool) → a ≡ true → count_if (a || b) ≡ 1
left_stays true b e = refl
left_stays false b e = absurd (cc e)

right_stays : (a b : Bool) → b ≡ true → count_if (a || b) ≡ 1
right_stays true true e = refl
right_stays false true e = refl
right_stays a false e = absurd (cc e)

none_stays : (a b : Bool) → a ≡ false → b ≡ false → count_if (a || b) ≡ 0
none_stays false false e f = refl
none_stays true b e f = absurd (cc e)
none_stays false true e f = absurd (cc f)

module _ (used : ℕ → Bool) where
  abbrev S : ℕ → ℕ
  S c = squeezed used c

  pub rises : (c d : ℕ) → c ≤ d → S c ≤ S d
  rises c zero le = let q : c ≡ 0 = omega (arith, le) in subst (λ x. S x ≤ 0) (sym q) (omega arith)
  rises c (suc d) le = ⊎_elim
      (λ (h : c < suc d). let r = rises c d (omega (arith, h)) in
      let s : S c ≤ S d + count_if (used d || used (suc d)) = omega (arith, r) in s)
      (λ (h : suc d ≤ c). let q : suc d ≡ c = omega (arith, h, le) in subst (λ x. S x ≤ S (suc d)) q (omega arith))
      (cases_lt c (suc d))

  pub no_more : (c d : ℕ) → c ≤ d → S d ≤ S c + (d - c)
  no_more c zero le = omega arith
  no_more c (suc d) le = ⊎_elim
      (λ (h : c < suc d). let r = no_more c d (omega (arith, h)) in let k = count_le (used d || used (suc d)) in
      let s : S d + count_if (used d || used (suc d)) ≤ S c + (suc d - c) = omega (arith, r, k, h) in s)
      (λ (h : suc d ≤ c). let q : suc d ≡ c = omega (arith, h, le) in subst (λ x. S (suc d) ≤ S x + (suc d - x)) q (omega arith))
      (cases_lt c (suc d))

  pub first_step : (c : ℕ) → used c ≡ true → S (suc c) ≡ S c + 1
  first_step c u = ap (λ (n : ℕ). S c + n) (left_stays (used c) (used (suc c)) u)

  pub last_step : (d : ℕ) → used (suc d) ≡ true → S (suc d) ≡ S d + 1
  last_step d u = ap (λ (n : ℕ). S d + n) (right_stays (used d) (used (suc d)) u)

  pub before_later : (c d : ℕ) → used c ≡ true → c < d → S c < S d
  before_later c d u lt = let r = rises (suc c) d (omega (arith, lt)) in let e = first_step c u in omega (arith, r, e)

  pub later_after : (c d : ℕ) → used d ≡ true → c < d → S c < S d
  later_after c zero u lt = absurd (omega (arith, lt))
  later_after c (suc d) u lt = let r = rises c d (omega (arith, lt)) in let e = last_step d u in omega (arith, r, e)

  two : (c d : ℕ) → used c ≡ true → used d ≡ true → c + 2 ≤ d → S c + 2 ≤ S d
  two c zero u v le = absurd (omega (arith, le))
  two c (suc d) u v le =
      let r = rises (suc c) d (omega (arith, le)) in let e = first_step c u in let f = last_step d v in omega (arith, r, e, f)

  -- a distance of one or two cycles stays, and a longer one stays two at least
  pub enough : (c d n : ℕ) → used c ≡ true → used d ≡ true → n ≤ 2 → c + n ≤ d → S c + n ≤ S d
  enough c d zero u v few le = let r = rises c d (omega (arith, le)) in omega (arith, r)
  enough c d (suc zero) u v few le = let r = before_later c d u (omega (arith, le)) in omega (arith, r)
  enough c d (suc (suc zero)) u v few le = two c d u v le
  enough c d (suc (suc (suc n))) u v few le = absurd (omega (arith, few))

  flat : (p u : ℕ) → ((c : ℕ) → p < c → c < u → used c ≡ false) → (d : ℕ) → p < d → d < u → S d ≤ S (suc p)
  flat p u none zero lo hi = omega arith
  flat p u none (suc d) lo hi = ⊎_elim
      (λ (h : p < d). let r = flat p u none d h (omega (arith, hi)) in
      let z = none_stays (used d) (used (suc d)) (none d h (omega (arith, hi))) (none (suc d) (omega (arith, lo)) hi) in
      let s : S d + count_if (used d || used (suc d)) ≤ S (suc p) = omega (arith, r, z) in s)
      (λ (h : d ≤ p). let q : d ≡ p = omega (arith, h, lo) in subst (λ (x : ℕ). S (suc x) ≤ S (suc p)) (sym q) (omega arith))
      (cases_lt p d)

  -- the distance of neighbours becomes the lesser of itself and two
  pub neighbours : (p u : ℕ) → used p ≡ true → used u ≡ true → p < u → ((c : ℕ) → p < c → c < u → used c ≡ false)
      → S u ≡ S p + min (u - p) 2
  neighbours p zero a b lt none = absurd (omega (arith, lt))
  neighbours p (suc d) a b lt none = ⊎_elim
      (λ (h : p < d). let r = flat p (suc d) none d h (omega arith) in let e = first_step p a in let f = last_step d b in
      let t = two p (suc d) a b (omega (arith, h)) in omega (arith, r, e, f, t, h))
      (λ (h : d ≤ p). let q : d ≡ p = omega (arith, h, lt) in let e = first_step p a in
      let g : S (suc p) ≡ S p + min (suc p - p) 2 = omega (arith, e) in subst (λ (x : ℕ). S (suc x) ≡ S p + min (suc x - p) 2) (sym q) g)
      (cases_lt p d)

-- ---- how many are left

abbrev pub Among : ℕ → List ℕ → Type 0
Among c [] = ⊥
Among c (x ∷ xs) = (x ≡ c) ⊎ Among c xs

abbrev below : ℕ → List ℕ → ℕ
below d [] = 0
below d (x ∷ xs) = count_if (ltb x d) + below d xs

below_all : (d : ℕ) (xs : List ℕ) → below d xs ≤ length xs
below_all d [] = omega arith
below_all d (x ∷ xs) = let r = below_all d xs in let k = count_le (ltb x d) in omega (arith, r, k)

count_more : (x d : ℕ) (a b : Bool) → ltb x d ≡ a → ltb x (suc d) ≡ b → count_if a ≤ count_if b
count_more x d true true e f = omega arith
count_more x d false b e f = omega arith
count_more x d true false e f = let l = ltb-true x d e in let m = ltb-false x (suc d) f in absurd (omega (arith, l, m))

below_more : (d : ℕ) (xs : List ℕ) → below d xs ≤ below (suc d) xs
below_more d [] = omega arith
below_more d (x ∷ xs) = let r = below_more d xs in let k = count_more x d (ltb x d) (ltb x (suc d)) refl refl in omega (arith, r, k)

below_in : (d : ℕ) (xs : List ℕ) → Among d xs → below d xs + 1 ≤ below (suc d) xs
below_in d [] m = absurd m
below_in d (x ∷ xs) (inl e) =
    let a : ltb x d ≡ false = le-ltb x d (omega (arith, e)) in
    let b : ltb x (suc d) ≡ true = lt-ltb x (suc d) (omega (arith, e)) in
    let s = ap count_if a in let t = ap count_if b in
    let r = below_more d xs in omega (arith, r, s, t)
below_in d (x ∷ xs) (inr m) = let r = below_in d xs m in let k = count_more x d (ltb x d) (ltb x (suc d)) refl refl in omega (arith, r, k)

module _ (used : ℕ → Bool) (xs : List ℕ) (known : (c : ℕ) → used c ≡ true → Among c xs) (start : 1 ≤ below 1 xs) where
  counts : (d : ℕ) → squeezed used d + 1 ≤ below d xs + below (suc d) xs
  counts zero = omega (arith, start)
  counts (suc d) = by (counts d) (used d) (used (suc d)) refl refl
    where
      by : squeezed used d + 1 ≤ below d xs + below (suc d) xs → (a b : Bool) → used d ≡ a → used (suc d) ≡ b
          → squeezed used (suc d) + 1 ≤ below (suc d) xs + below (suc (suc d)) xs
      by r true b e f =
          let i = below_in d xs (known d e) in let m = below_more (suc d) xs in
          let k = count_le (used d || used (suc d)) in omega (arith, r, i, m, k)
      by r false true e f =
          let i = below_in (suc d) xs (known (suc d) f) in let m = below_more d xs in
          let k = count_le (used d || used (suc d)) in omega (arith, r, i, m, k)
      by r false false e f =
          let m = below_more (suc d) xs in let n = below_more d xs in
          let k = none_stays (used d) (used (suc d)) e f in omega (arith, r, n, m, k)

-- where n numbers besides 0 and e are in use, e comes to 2n + 2 at most
pub few_left : (used : ℕ → Bool) (e : ℕ) (cs : List ℕ) → ((c : ℕ) → used c ≡ true → (c ≡ e) ⊎ (c ≡ 0) ⊎ Among c cs)
    → squeezed used e ≤ 2 * length cs + 2
few_left used e cs known =
    let xs = e ∷ 0 ∷ cs in
    let all = counts used xs (λ c u. place c (known c u)) (omega arith) e in
    let a : ltb e e ≡ false = le-ltb e e (omega arith) in
    let z = ap count_if a in
    let b = below_all e (0 ∷ cs) in
    let c = below_all (suc e) xs in
    omega (arith, all, z, b, c)
  where
    place : (c : ℕ) → (c ≡ e) ⊎ (c ≡ 0) ⊎ Among c cs → Among c (e ∷ 0 ∷ cs)
    place c (inl q) = inl (sym q)
    place c (inr (inl q)) = inr (inl (sym q))
    place c (inr (inr m)) = inr (inr m)

-- the same where the same cycles are in use
pub squeezed_same : (u v : ℕ → Bool) → ((c : ℕ) → u c ≡ v c) → (c : ℕ) → squeezed u c ≡ squeezed v c
squeezed_same u v h zero = refl
squeezed_same u v h (suc c) = ap (λ (n : ℕ). n + count_if (u c || u (suc c))) (squeezed_same u v h c)
    ∙ ap (λ (b : Bool). squeezed v c + count_if (b || u (suc c))) (h c) ∙ ap (λ (b : Bool). squeezed v c + count_if (v c || b)) (h (suc c))
