-- Laws of cuts, and of chains of them.
use Rattle.std.proofs.Common.{ℕ, ◌≡◌, ◌<◌, ◌≤◌, Bool, true, false, ◌&&◌, cond, List, [], ◌∷◌, length, get_or, filter, nat_eq}
use Rattle.std.proofs.Common.{None, Some, refl, sym, ap, ◌∙◌, subst, arith, inl, inr}
use Rattle.std.proofs.lemmas.Bool.Decides.{nat_tests}
use Rattle.std.proofs.lemmas.List.{get_or-set_same, get_or-set_other, length-set}
use Rattle.std.proofs.lemmas.List.Sums.{length-filter, count_by-le-length}
use Rattle.un_domains.specs.Sets.{Sets, set_at, has, kept, cut_by, IsIn, NoneEmpty, Kept}
use Rattle.un_domains.specs.SetLaws.{has-filter, same_or_not, IsIn-kept}

pub filter-le : (p : ℕ → Bool) (xs : List ℕ) → length (filter p xs) ≤ length xs
filter-le p xs = omega (arith, length-filter p xs, count_by-le-length p xs)

-- what keeps its length keeps its values
pub filter_whole : (p : ℕ → Bool) (xs : List ℕ) → length (filter p xs) ≡ length xs → filter p xs ≡ xs
filter_whole p [] h = refl
filter_whole p (x ∷ xs) h = by (p x) refl h (filter_whole p xs)
  where
    by : (b : Bool) → p x ≡ b → length (cond (p x) (x ∷ filter p xs) (filter p xs)) ≡ length (x ∷ xs)
        → (length (filter p xs) ≡ length xs → filter p xs ≡ xs) → cond (p x) (x ∷ filter p xs) (filter p xs) ≡ x ∷ xs
    by true e h rest =
        rw e (ap (λ (ys : List ℕ). x ∷ ys) (rest (let h' : length (x ∷ filter p xs) ≡ length (x ∷ xs) = rw e at h in omega (arith, h'))))
    by false e h rest = absurd (let h' : length (filter p xs) ≡ length (x ∷ xs) = rw e at h in omega (arith, h', filter-le p xs))

pub kept_full : (p : ℕ → Bool) (s : Sets) (v : ℕ) → v < length s → NoneEmpty s → 0 < length (filter p (set_at s v)) → NoneEmpty (kept p s v)
kept_full p s v within full some w below = elim (same_or_not w v) [
  | inl e ↦ subst (λ (u : ℕ). 0 < length (set_at (kept p s v) u)) (sym e) (rw (get_or-set_same s v (filter p (set_at s v)) [] within) some)
  | inr ne ↦ rw (get_or-set_other s v w (filter p (set_at s v)) [] ne)
      (full w (omega (arith, below, length-set s v (filter p (set_at s v)))))
]

nonempty_has : (xs : List ℕ) (x : ℕ) → has xs x ≡ true → 0 < length xs
nonempty_has [] x h = absurd (cc h)
nonempty_has (y ∷ ys) x h = omega arith

pub cut_by_kept : (p : ℕ → Bool) (v : ℕ) (s : Sets) (x : List ℕ) → v < length s → IsIn x s → p (get_or x v 0) ≡ true → Kept x (cut_by p v s)
cut_by_kept p v s x within h hp = by (nat_eq (length (filter p (set_at s v))) 0) refl
  where
    some : 0 < length (filter p (set_at s v))
    some = nonempty_has _ (get_or x v 0)
        (has-filter p (get_or x v 0) (set_at s v) ∙ ap (λ (b : Bool). b && has (set_at s v) (get_or x v 0)) hp ∙ h.each v within)

    by : (b : Bool) → nat_eq (length (filter p (set_at s v))) 0 ≡ b → Kept x (cond b None (Some (kept p s v)))
    by true e = absurd (let none : length (filter p (set_at s v)) ≡ 0 = grind (arith, nat_tests) in omega (arith, some, none))
    by false e = IsIn-kept p x s v within h hp
