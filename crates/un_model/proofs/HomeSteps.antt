-- The loops that gather homes: what is gathered so far, and what is in the rest, are the whole.
use Rattle.std.proofs.Common.{◌≡◌, ℕ, zero, suc, ◌+◌, ◌<◌, ◌≤◌, Bool, true, false, List, [], ◌∷◌, refl, ap, ◌∙◌, arith}
use Rattle.std.specs.Prelude.{◌||◌, ◌&&◌, if◌then◌else◌, filter}
use Rattle.std.specs.List.{AllByRecursion, list_any, range_with_len}

pub and_false : (a : Bool) → (a && false) ≡ false
and_false true = refl
and_false false = refl

-- a test that does not turn on the item stands outside
pub any_and : {A : Type 0} (p : A → Bool) (b : Bool) (xs : List A) → list_any (λ (x : A). p x && b) xs ≡ (list_any p xs && b)
any_and p b [] = refl
any_and p b (x ∷ xs) = ap (λ (c : Bool). (p x && b) || c) (any_and p b xs) ∙ out (p x) (list_any p xs) b
  where
    out : (a c b : Bool) → ((a && b) || (c && b)) ≡ ((a || c) && b)
    out true true true = refl
    out true true false = refl
    out true false true = refl
    out true false false = refl
    out false c b = refl

-- tests that agree below a bound keep the same numbers below it
pub filter_below : (p q : ℕ → Bool) (n : ℕ) (xs : List ℕ) → ((x : ℕ) → x < n → p x ≡ q x) → AllByRecursion (λ (x : ℕ). x < n) xs
    → filter p xs ≡ filter q xs
filter_below p q n [] h below = refl
filter_below p q n (x ∷ xs) h below =
    ap (λ (b : Bool). if b then x ∷ filter p xs else filter p xs) (h x below.0) ∙ ap (λ (ys : List ℕ). if q x then x ∷ ys else ys)
    (filter_below p q n xs h below.1)

pub below_range : (a n m : ℕ) → a + n ≤ m → AllByRecursion (λ (r : ℕ). r < m) (range_with_len a n)
below_range a zero m le = tt
below_range a (suc n) m le = (omega arith, below_range (a + 1) n m (omega arith))
