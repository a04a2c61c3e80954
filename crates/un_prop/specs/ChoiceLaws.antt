-- Laws of entries at a chosen place.
use Rattle.std.proofs.Common.{ℕ, zero, suc, ◌≡◌, ◌<◌, None, Some, Bool, true, false, ◌≤◌, List, [], ◌∷◌, length, get_or, refl, ap}
use Rattle.std.proofs.Common.{arith}
use Rattle.std.specs.List.{AllByRecursion, slice_get}
use Rattle.un_prop.specs.Choices.{passes_at}

-- the entry at a place within the list
pub passes_within : {A : Type 0} (p : A → Bool) (xs : List A) (i : ℕ) (d : A) → i < length xs → passes_at p xs i ≡ p (get_or xs i d)
passes_within p [] i d lt = absurd (omega (arith, lt))
passes_within p (x ∷ xs) zero d lt = refl
passes_within p (x ∷ xs) (suc i) d lt = passes_within p xs i d (omega (arith, lt))

pub passes_past : {A : Type 0} (p : A → Bool) (xs : List A) (i : ℕ) → length xs ≤ i → passes_at p xs i ≡ false
passes_past p [] i le = refl
passes_past p (x ∷ xs) zero le = absurd (omega (arith, le))
passes_past p (x ∷ xs) (suc i) le = passes_past p xs i (omega (arith, le))

-- tests that agree at each entry agree at a place
pub passes_agree : {A : Type 0} (p q : A → Bool) (xs : List A) (i : ℕ) → AllByRecursion (λ a. p a ≡ q a) xs → passes_at p xs i ≡
    passes_at q xs i
passes_agree p q [] i all = refl
passes_agree p q (x ∷ xs) zero all = all.0
passes_agree p q (x ∷ xs) (suc i) all = passes_agree p q xs i all.1

pub passes_get : {A : Type 0} (p : A → Bool) (xs : List A) (i : ℕ) (a : A) → slice_get xs i ≡ Some a → passes_at p xs i ≡ p a
passes_get p [] i a e = absurd (cc e)
passes_get p (x ∷ xs) zero a e = let same : x ≡ a = cc e in ap p same
passes_get p (x ∷ xs) (suc i) a e = passes_get p xs i a e

pub passes_none : {A : Type 0} (p : A → Bool) (xs : List A) (i : ℕ) → slice_get xs i ≡ None → passes_at p xs i ≡ false
passes_none p [] i e = refl
passes_none p (x ∷ xs) zero e = absurd (cc e)
passes_none p (x ∷ xs) (suc i) e = passes_none p xs i e

-- what passes is an entry
pub passes_find : {A : Type 0} (p : A → Bool) (xs : List A) (i : ℕ) → passes_at p xs i ≡ true → (a : A) × (slice_get xs i ≡ Some a) ×
    (p a ≡ true)
passes_find p [] i e = absurd (cc e)
passes_find p (x ∷ xs) zero e = (x, refl, e)
passes_find p (x ∷ xs) (suc i) e = passes_find p xs i e

-- a weaker test passes too
pub passes_more : {A : Type 0} (P : A → Type 0) (p q : A → Bool) (xs : List A) (i : ℕ) → AllByRecursion P xs →
    ((a : A) → P a → p a ≡ true → q a ≡ true) → passes_at p xs i ≡ true
    → passes_at q xs i ≡ true
passes_more P p q [] i all h e = absurd (cc e)
passes_more P p q (x ∷ xs) zero all h e = h x all.0 e
passes_more P p q (x ∷ xs) (suc i) all h e = passes_more P p q xs i all.1 h e

pub get_within : {A : Type 0} (xs : List A) (i : ℕ) (a : A) → slice_get xs i ≡ Some a → i < length xs
get_within [] i a e = absurd (cc e)
get_within (x ∷ xs) zero a e = omega arith
get_within (x ∷ xs) (suc i) a e = (let lt = get_within xs i a e in omega (arith, lt))

pub map_all : {A : Type 0} (P Q : A → Type 0) → ((a : A) → P a → Q a) → (xs : List A) → AllByRecursion P xs → AllByRecursion Q xs
map_all P Q h [] all = tt
map_all P Q h (x ∷ xs) all = (h x all.0, map_all P Q h xs all.1)

pub always : {A : Type 0} (xs : List A) → AllByRecursion (λ (a : A). Unit {0}) xs
always [] = tt
always (x ∷ xs) = (tt, always xs)
