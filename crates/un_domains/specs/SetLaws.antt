-- Laws of sets.
use Rattle.std.proofs.Common.{ℕ, ◌≡◌, ◌≢◌, ◌<◌, ◌≤◌, Bool, true, false, ◌&&◌, ◌||◌, List, [], ◌∷◌, length, get_or, filter, fold, nat_eq}
use Rattle.std.proofs.Common.{min, max, refl, sym, ap, ◌∙◌, subst, arith, ◌⊎◌, inl, inr}
use Rattle.std.proofs.lemmas.Bool.Decides.{nat_tests}
use Rattle.std.proofs.lemmas.Map.Views.{any-filter_same}
use Rattle.std.proofs.lemmas.List.{get_or-set_same, get_or-set_other, length-set}
use Rattle.un_domains.specs.Sets.{Sets, set_at, has, kept, IsIn, least}

-- what is left passed, and what passed is left
pub has-filter : (p : ℕ → Bool) (x : ℕ) (xs : List ℕ) → has (filter p xs) x ≡ (p x && has xs x)
has-filter p x xs = any-filter_same (nat_eq x) p (p x) (λ k h. let e : x ≡ k = grind (arith, nat_tests) in ap p (sym e)) xs

or_cases : (b c : Bool) → (b || c) ≡ true → (b ≡ true) ⊎ (c ≡ true)
or_cases true c h = inl refl
or_cases false c h = inr h

pub has-cons : (y x : ℕ) (ys : List ℕ) → has (y ∷ ys) x ≡ true → (x ≡ y) ⊎ (has ys x ≡ true)
has-cons y x ys h = elim (or_cases (nat_eq x y) (has ys x) h) [ inl e ↦ inl (grind (arith, nat_tests)) | inr t ↦ inr t ]

pub fold_min-le : (a : ℕ) (xs : List ℕ) → fold min a xs ≤ a
fold_min-le a [] = omega arith
fold_min-le a (x ∷ xs) = omega (arith, fold_min-le (min a x) xs)

pub fold_min-has : (a : ℕ) (xs : List ℕ) (x : ℕ) → has xs x ≡ true → fold min a xs ≤ x
fold_min-has a [] x h = absurd (cc h)
fold_min-has a (y ∷ ys) x h =
    elim (has-cons y x ys h) [ inl e ↦ omega (arith, fold_min-le (min a y) ys) | inr t ↦ fold_min-has (min a y) ys x t ]

-- a value is at least the least
pub least-le : (xs : List ℕ) (x : ℕ) → has xs x ≡ true → least xs ≤ x
least-le [] x h = absurd (cc h)
least-le (y ∷ ys) x h = elim (has-cons y x ys h) [ inl e ↦ omega (arith, fold_min-le y ys) | inr t ↦ fold_min-has y ys x t ]

pub le-fold_max : (a : ℕ) (xs : List ℕ) → a ≤ fold max a xs
le-fold_max a [] = omega arith
le-fold_max a (x ∷ xs) = omega (arith, le-fold_max (max a x) xs)

pub has-fold_max : (a : ℕ) (xs : List ℕ) (x : ℕ) → has xs x ≡ true → x ≤ fold max a xs
has-fold_max a [] x h = absurd (cc h)
has-fold_max a (y ∷ ys) x h =
    elim (has-cons y x ys h) [ inl e ↦ omega (arith, le-fold_max (max a y) ys) | inr t ↦ has-fold_max (max a y) ys x t ]

pub same_or_not : (a b : ℕ) → (a ≡ b) ⊎ (a ≢ b)
same_or_not a b = by (nat_eq a b) refl
  where
    by : (t : Bool) → nat_eq a b ≡ t → (a ≡ b) ⊎ (a ≢ b)
    by true e = inl (grind (arith, nat_tests))
    by false e = inr (λ same. grind (arith, nat_tests))

-- a value is in its set after a cut that it passes
pub IsIn-kept : (p : ℕ → Bool) (x : List ℕ) (s : Sets) (v : ℕ) → v < length s → IsIn x s → p (get_or x v 0) ≡ true → IsIn x (kept p s v)
IsIn-kept p x s v within h hp = record {
  long = h.long ∙ sym (length-set s v _);
  each = λ w below. elim (same_or_not w v)
      [ inl e ↦ at_same w e | inr ne ↦ at_other w ne (omega (arith, below, length-set s v (filter p (set_at s v)))) ];
}
  where
    at_same : (w : ℕ) → w ≡ v → has (set_at (kept p s v) w) (get_or x w 0) ≡ true
    at_same w e =
        let at : set_at (kept p s v) v ≡ filter p (set_at s v) = get_or-set_same s v _ [] within in
        let there : has (set_at (kept p s v) v) (get_or x v 0) ≡ true =
        rw at (has-filter p (get_or x v 0) (set_at s v) ∙ ap (λ (b : Bool). b && has (set_at s v) (get_or x v 0)) hp
        ∙ h.each v within) in
        subst (λ (u : ℕ). has (set_at (kept p s v) u) (get_or x u 0) ≡ true) (sym e) there

    at_other : (w : ℕ) → w ≢ v → w < length s → has (set_at (kept p s v) w) (get_or x w 0) ≡ true
    at_other w ne below = subst (λ (xs : List ℕ). has xs (get_or x w 0) ≡ true) (sym (get_or-set_other s v w _ [] ne)) (h.each w below)
