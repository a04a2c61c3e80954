-- Lists of different items are no longer than lists that have them all.
use Rattle.std.proofs.Common.{ℕ, zero, suc, ◌≡◌, ◌≤◌, ◌+◌, Bool, true, false, cond, List, [], ◌∷◌, ◌++◌, length, map, filter, inl, inr}
use Rattle.std.proofs.Common.{refl, sym}
use Rattle.std.proofs.Common.{ap, ◌∙◌, subst, arith}
use Rattle.std.specs.Prelude.{Some, slice_get, not, count_by, sum_by}
use Rattle.std.proofs.lemmas.List.{length-append}
use Rattle.std.proofs.lemmas.List.Sums.{sum_by-cons, sum_by-append}
use Rattle.un_lists.proofs.Lists.{Each, Pairwise, Member, each_member, each_of, split_at, member_filter}

-- no item stands twice
abbrev pub Differ : {X : Type 0} → List X → Type 0
Differ xs = Pairwise (λ x y. x ≡ y → ⊥) xs

still_there : {X : Type 0} (before after : List X) (x y : X) → (x ≡ y → ⊥) → Member y (before ++ x ∷ after) → Member y (before ++ after)
still_there [] after x y ne (inl e) = absurd (ne e)
still_there [] after x y ne (inr m) = m
still_there (z ∷ zs) after x y ne (inl e) = inl e
still_there (z ∷ zs) after x y ne (inr m) = inr (still_there zs after x y ne m)

pub pigeons : {X : Type 0} (xs ys : List X) → Differ xs → Each (λ x. Member x ys) xs → length xs ≤ length ys
pigeons [] ys d m = omega arith
pigeons (x ∷ xs) ys d m =
    let s = split_at ys x m.0 in
    let rest = pigeons xs (s.before ++ s.after) d.1 (each_of (λ y. Member y (s.before ++ s.after)) xs (λ y my.
    still_there s.before s.after x y (each_member (λ z. x ≡ z → ⊥) xs y d.0 my)
    (subst (λ zs. Member y zs) s.is (each_member (λ z. Member z ys) xs y m.1 my)))) in
    let whole : length ys ≡ length (s.before ++ x ∷ s.after) = ap length s.is in
    let a = length-append s.before (x ∷ s.after) in
    let b = length-append s.before s.after in
    omega (arith, rest, whole, a, b)

pub length_mapped : {A B : Type 0} (f : A → B) (xs : List A) → length (map f xs) ≡ length xs
length_mapped f [] = refl
length_mapped f (x ∷ xs) = ap suc (length_mapped f xs)

-- what passes a test and what does not
pub length_parts : {X : Type 0} (p : X → Bool) (xs : List X) → length (filter p xs) + length (filter (λ x. not (p x)) xs) ≡ length xs
length_parts p [] = refl
length_parts p (x ∷ xs) =
    let rest = length_parts p xs in
    elim (p x) as (λ b. length (cond b (x ∷ filter p xs) (filter p xs)) +
    length (cond (not b) (x ∷ filter (λ y. not (p y)) xs) (filter (λ y. not (p y)) xs)) ≡ suc (length xs)) [
      | true ↦ omega (arith, rest)
      | false ↦ omega (arith, rest)
    ]

-- ---- items by their places

-- the places, counted from k, of what passes
abbrev places : {X : Type 0} → (X → Bool) → ℕ → List X → List ℕ
places p k [] = []
places p k (x ∷ xs) = cond (p x) (k ∷ places p (k + 1) xs) (places p (k + 1) xs)

place_in : {X : Type 0} (p : X → Bool) (k i n : ℕ) (xs : List X) (x : X) → slice_get xs i ≡ Some x → p x ≡ true → k + i ≡ n
    → Member n (places p k xs)
place_in p k i n [] x e t at = absurd (cc e)
place_in p k zero n (y ∷ ys) x e t at =
    let same : y ≡ x = cc e in
    let here : p y ≡ true = ap p same ∙ t in
    let is : k ≡ n = omega (arith, at) in
    subst (λ b. Member n (cond b (k ∷ places p (k + 1) ys) (places p (k + 1) ys))) (sym here) (inl is)
place_in p k (suc i) n (y ∷ ys) x e t at =
    let rest = place_in p (k + 1) i n ys x e t (omega (arith, at)) in
    elim (p y) as (λ b. Member n (cond b (k ∷ places p (k + 1) ys) (places p (k + 1) ys))) [ true ↦ inr rest | false ↦ rest ]

places_count : {X : Type 0} (p : X → Bool) (k : ℕ) (xs : List X) → length (places p k xs) ≡ count_by p xs
places_count p k [] = refl
places_count p k (x ∷ xs) =
    let rest = places_count p (k + 1) xs in
    let cons = sum_by-cons (λ y. cond (p y) 1 0) x xs in
    let here : length (places p k (x ∷ xs)) ≡ cond (p x) 1 0 + length (places p (k + 1) xs) =
    elim (p x) as (λ b. length (cond b (k ∷ places p (k + 1) xs) (places p (k + 1) xs)) ≡ cond b 1 0 + length (places p (k + 1) xs)) [
      | true ↦ omega arith
      | false ↦ omega arith
    ] in
    omega (arith, rest, cons, here)

-- some item stands at place n, and passes
abbrev pub PassesAt : {X : Type 0} → (X → Bool) → List X → ℕ → Type 0
PassesAt {X} p xs n = (x : X) × (slice_get xs n ≡ Some x) × (p x ≡ true)

-- at least as many pass as there are different places at which one does
pub many_pass : {X : Type 0} (p : X → Bool) (xs : List X) (ns : List ℕ) → Differ ns → Each (PassesAt p xs) ns → length ns ≤ count_by p xs
many_pass p xs ns d each =
    let le = pigeons ns (places p 0 xs) d (each_of (λ n. Member n (places p 0 xs)) ns (λ n m.
    let at = each_member (PassesAt p xs) ns n each m in
    place_in p 0 n n xs at.0 at.1 at.2 (omega arith))) in
    let e = places_count p 0 xs in
    omega (arith, le, e)

-- ---- sums

-- what different items of a list have together is no more than what the list has
pub sum_within : {X : Type 0} (f : X → ℕ) (xs ys : List X) → Differ xs → Each (λ x. Member x ys) xs → sum_by f xs ≤ sum_by f ys
sum_within f [] ys d m = omega arith
sum_within f (x ∷ xs) ys d m =
    let s = split_at ys x m.0 in
    let rest = sum_within f xs (s.before ++ s.after) d.1 (each_of (λ y. Member y (s.before ++ s.after)) xs (λ y my.
    still_there s.before s.after x y (each_member (λ z. x ≡ z → ⊥) xs y d.0 my)
    (subst (λ zs. Member y zs) s.is (each_member (λ z. Member z ys) xs y m.1 my)))) in
    let whole : sum_by f ys ≡ sum_by f (s.before ++ x ∷ s.after) = ap (sum_by f) s.is in
    let a = sum_by-append f s.before (x ∷ s.after) in
    let b = sum_by-append f s.before s.after in
    let c = sum_by-cons f x s.after in
    let g = sum_by-cons f x xs in
    omega (arith, rest, whole, a, b, c, g)

-- what passes a test and what does not have the whole together
pub sum_parts : {X : Type 0} (f : X → ℕ) (p : X → Bool) (xs : List X)
    → sum_by f (filter p xs) + sum_by f (filter (λ x. not (p x)) xs) ≡ sum_by f xs
sum_parts f p [] = refl
sum_parts f p (x ∷ xs) =
    let rest = sum_parts f p xs in
    let whole = sum_by-cons f x xs in
    let a = sum_by-cons f x (filter p xs) in
    let b = sum_by-cons f x (filter (λ y. not (p y)) xs) in
    elim (p x) as (λ c. sum_by f (cond c (x ∷ filter p xs) (filter p xs)) +
    sum_by f (cond (not c) (x ∷ filter (λ y. not (p y)) xs) (filter (λ y. not (p y)) xs)) ≡ sum_by f (x ∷ xs)) [
      | true ↦ omega (arith, rest, whole, a)
      | false ↦ omega (arith, rest, whole, b)
    ]

-- what passes, and different items that do not pass, have no more than the whole
pub sum_beside : {X : Type 0} (f : X → ℕ) (p : X → Bool) (xs ys : List X) → Differ ys → Each (λ y. Member y xs × (p y ≡ false)) ys
    → sum_by f (filter p xs) + sum_by f ys ≤ sum_by f xs
sum_beside f p xs ys d each =
    let others = filter (λ x. not (p x)) xs in
    let le = sum_within f ys others d (each_of (λ y. Member y others) ys (λ y m.
    let at = each_member (λ y. Member y xs × (p y ≡ false)) ys y each m in
    member_filter (λ x. not (p x)) xs y at.0 (ap not at.1))) in
    let parts = sum_parts f p xs in
    omega (arith, le, parts)
