-- A loop that looks for an entry of a list that passes.
use Rattle.std.proofs.Common.{ℕ, zero, suc, ◌≡◌, ◌<◌, ◌+◌, Bool, true, false, ◌||◌, List, [], ◌∷◌, length, get_or, drop, refl, sym, ap, ◌∙◌}
use Rattle.std.proofs.Common.{subst, arith}
use Rattle.std.specs.List.{list_any}

-- the entry at a place passes
pub any_drop : {A : Type 0} (p : A → Bool) (xs : List A) (k : ℕ) (d : A) → k < length xs → p (get_or xs k d) ≡ true
    → list_any p (drop k xs) ≡ true
any_drop p [] k d lt here = absurd (omega (arith, lt))
any_drop p (x ∷ xs) zero d lt here = ap (λ (b : Bool). b || list_any p xs) here
any_drop p (x ∷ xs) (suc k) d lt here = any_drop p xs k d (omega (arith, lt)) here

any_past : {A : Type 0} (p : A → Bool) (xs : List A) (k : ℕ) (d : A) → k < length xs → p (get_or xs k d) ≡ false
    → list_any p (drop k xs) ≡ list_any p (drop (suc k) xs)
any_past p [] k d lt here = absurd (omega (arith, lt))
any_past p (x ∷ xs) zero d lt here = ap (λ (b : Bool). b || list_any p xs) here
any_past p (x ∷ xs) (suc k) d lt here = any_past p xs k d (omega (arith, lt)) here

-- it does not
pub any_on : {A : Type 0} (p : A → Bool) (xs : List A) (k : ℕ) (d : A) → k < length xs → p (get_or xs k d) ≡ false
    → list_any p (drop k xs) ≡ list_any p xs → list_any p (drop (k + 1) xs) ≡ list_any p xs
any_on p xs k d lt here so_far =
    let e : suc k ≡ k + 1 = omega arith in
    subst (λ (n : ℕ). list_any p (drop n xs) ≡ list_any p xs) e (sym (any_past p xs k d lt here) ∙ so_far)

-- an entry passes one of two tests
pub any_either : {A : Type 0} (p q : A → Bool) (xs : List A) → list_any (λ x. p x || q x) xs ≡ (list_any p xs || list_any q xs)
any_either p q [] = refl
any_either p q (x ∷ xs) = ap (λ (b : Bool). (p x || q x) || b) (any_either p q xs) ∙ mix (p x) (q x) (list_any p xs) (list_any q xs)
  where
    mix : (a b c d : Bool) → ((a || b) || (c || d)) ≡ ((a || c) || (b || d))
    mix true b c d = refl
    mix false true true d = refl
    mix false true false d = refl
    mix false false c d = refl
