-- What holds of each element of a list, by recursion on the list: more on std's word for it.
use Rattle.std.proofs.Common.{◌≡◌, ℕ, zero, suc, ◌++◌, Bool, false, List, [], ◌∷◌, Some, map, slice_get, Contains}
use Rattle.std.proofs.Common.{arith, refl, subst}
use Rattle.std.proofs.lemmas.Bool.{or_parts}
use Rattle.std.specs.List.{AllByRecursion as Each, AllPairs, flat_map, list_any}
use Rattle.std.proofs.lemmas.List.Elements.{All-from_recursion as Each-All, recursion_from_All as Each-from}
use Rattle.std.proofs.lemmas.List.Kept.{AllPairs-cons}

pub Each-weaken : {X : Type 0} (P Q : X → Type 0) → ((x : X) → P x → Q x) → (xs : List X) → Each P xs → Each Q xs
Each-weaken P Q f [] e = tt
Each-weaken P Q f (x ∷ xs) (here, later) = (f x here, Each-weaken P Q f xs later)

pub Each-both : {X : Type 0} (P Q : X → Type 0) (xs : List X) → Each P xs → Each Q xs → Each (λ (x : X). P x × Q x) xs
Each-both P Q [] p q = tt
Each-both P Q (x ∷ xs) (p, ps) (q, qs) = ((p, q), Each-both P Q xs ps qs)

pub Each-append : {X : Type 0} (P : X → Type 0) (xs ys : List X) → Each P xs → Each P ys → Each P (xs ++ ys)
Each-append P [] ys e f = f
Each-append P (x ∷ xs) ys (here, later) f = (here, Each-append P xs ys later f)

pub Each-left : {X : Type 0} (P : X → Type 0) (xs ys : List X) → Each P (xs ++ ys) → Each P xs
Each-left P [] ys e = tt
Each-left P (x ∷ xs) ys (here, later) = (here, Each-left P xs ys later)

pub Each-right : {X : Type 0} (P : X → Type 0) (xs ys : List X) → Each P (xs ++ ys) → Each P ys
Each-right P [] ys e = e
Each-right P (x ∷ xs) ys (here, later) = Each-right P xs ys later

pub Each-map : {X Y : Type 0} (P : Y → Type 0) (f : X → Y) (xs : List X) → Each (λ (x : X). P (f x)) xs → Each P (map f xs)
Each-map P f [] e = tt
Each-map P f (x ∷ xs) (here, later) = (here, Each-map P f xs later)

pub Each-unmap : {X Y : Type 0} (P : Y → Type 0) (f : X → Y) (xs : List X) → Each P (map f xs) → Each (λ (x : X). P (f x)) xs
Each-unmap P f [] e = tt
Each-unmap P f (x ∷ xs) (here, later) = (here, Each-unmap P f xs later)

pub Each-unflat : {X Y : Type 0} (P : Y → Type 0) (f : X → List Y) (xs : List X) → Each P (flat_map f xs)
    → Each (λ (x : X). Each P (f x)) xs
Each-unflat P f [] e = tt
Each-unflat P f (x ∷ xs) e = (Each-left P (f x) (flat_map f xs) e, Each-unflat P f xs (Each-right P (f x) (flat_map f xs) e))

pub Each-at : {X : Type 0} (P : X → Type 0) (xs : List X) (k : ℕ) (x : X) → Each P xs → slice_get xs k ≡ Some x → P x
Each-at P [] k x e got = absurd (cc got)
Each-at P (y ∷ ys) zero x (here, later) got = let same : y ≡ x = cc got in subst P same here
Each-at P (y ∷ ys) (suc k) x (here, later) got = Each-at P ys k x later got

pub Each-in : {X : Type 0} (P : X → Type 0) (xs : List X) (x : X) → Each P xs → Contains xs x → P x
Each-in P [] x e (k, below, is) = absurd (omega arith)
Each-in P (y ∷ ys) x (here, later) (zero, below, is) = subst P is here
Each-in P (y ∷ ys) x (here, later) (suc k, below, is) = Each-in P ys x later (k, omega arith, is)

-- a relation of each element and each later one
abbrev pub EachPair : {X : Type 0} → (X → X → Type 0) → List X → Type 0
EachPair R [] = Unit {0}
EachPair R (x ∷ xs) = Each (R x) xs × EachPair R xs

pub EachPair-AllPairs : {X : Type 0} (R : X → X → Type 0) (xs : List X) → EachPair R xs → AllPairs R xs
EachPair-AllPairs R [] e = λ i j d before below. absurd (omega arith)
EachPair-AllPairs R (x ∷ xs) (here, later) = AllPairs-cons R x xs (Each-All (R x) xs here) (EachPair-AllPairs R xs later)

pub EachPair-from : {X : Type 0} (R : X → X → Type 0) (xs : List X) → AllPairs R xs → EachPair R xs
EachPair-from R [] h = tt
EachPair-from R (x ∷ xs) h = (
  Each-from (R x) xs (λ k d below. h 0 (suc k) d (omega arith) (omega arith)),
  EachPair-from R xs (λ i j d low high. h (suc i) (suc j) d (omega arith) (omega arith)),
)

pub EachPair-push : {X : Type 0} (R : X → X → Type 0) (xs : List X) (y : X) → EachPair R xs → Each (λ (x : X). R x y) xs
    → EachPair R (xs ++ y ∷ [])
EachPair-push R [] y e f = (tt, tt)
EachPair-push R (x ∷ xs) y (here, later) (last, rest) = (Each-append (R x) xs (y ∷ []) here (last, tt), EachPair-push R xs y later rest)

pub EachPair-left : {X : Type 0} (R : X → X → Type 0) (xs ys : List X) → EachPair R (xs ++ ys) → EachPair R xs
EachPair-left R [] ys e = tt
EachPair-left R (x ∷ xs) ys (here, later) = (Each-left (R x) xs ys here, EachPair-left R xs ys later)

pub EachPair-alike : {X : Type 0} (P : X → Type 0) (R : X → X → Type 0) → ((a b : X) → P a → P b → R a b) → (xs : List X) → Each P xs
    → EachPair R xs
EachPair-alike P R f [] e = tt
EachPair-alike P R f (x ∷ xs) (here, later) = (Each-weaken P (R x) (λ b p. f x b here p) xs later, EachPair-alike P R f xs later)

pub EachPair-map : {X Y : Type 0} (R : Y → Y → Type 0) (f : X → Y) (xs : List X) → EachPair (λ (a b : X). R (f a) (f b)) xs
    → EachPair R (map f xs)
EachPair-map R f [] e = tt
EachPair-map R f (x ∷ xs) (here, later) = (Each-map (R (f x)) f xs here, EachPair-map R f xs later)

pub EachPair-unmap : {X Y : Type 0} (R : Y → Y → Type 0) (f : X → Y) (xs : List X) → EachPair R (map f xs)
    → EachPair (λ (a b : X). R (f a) (f b)) xs
EachPair-unmap R f [] e = tt
EachPair-unmap R f (x ∷ xs) (here, later) = (Each-unmap (R (f x)) f xs here, EachPair-unmap R f xs later)

-- ---- tests

pub Each-none : {X : Type 0} (p : X → Bool) (xs : List X) → list_any p xs ≡ false → Each (λ (x : X). p x ≡ false) xs
Each-none p [] h = tt
Each-none p (x ∷ xs) h = let b = or_parts (p x) (list_any p xs) h in (b.0, Each-none p xs b.1)

pub any_none : {X : Type 0} (p : X → Bool) (xs : List X) → Each (λ (x : X). p x ≡ false) xs → list_any p xs ≡ false
any_none p [] e = refl
any_none p (x ∷ xs) e = rw (e.0, any_none p xs e.1) refl
