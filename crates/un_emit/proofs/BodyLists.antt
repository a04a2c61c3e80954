-- Lists that the body of the emission makes: what it has so far, and what is left.
use Rattle.std.proofs.Common.{ℕ, zero, suc, ◌≡◌, ◌<◌, ◌≤◌, ◌+◌, ◌-◌, Bool, true, false, ◌⊎◌, inl, inr, refl, sym, ap, ◌∙◌, arith}
use Rattle.std.proofs.Common.{List, [], ◌∷◌, ◌++◌, length, map, take, min, set, get_or, replicate, append_assoc}
use Rattle.std.specs.Prelude.{◌==◌, if◌then◌else◌, Some, slice_get}
use Rattle.std.specs.List.{range_with_len, zip}
use Rattle.std.proofs.lemmas.Bool.Decides.{nat_tests}
use Rattle.std.proofs.lemmas.List.FromFn.{length-map-range_with_len, get_or-map-range_with_len}
use Rattle.un_model.specs.Pairs.{pairs_from, joined}
use Rattle.un_model.proofs.Steps.{append-nil}

-- ---- one list

pub map_alike : {A B : Type 0} (f g : A → B) (xs : List A) → ((x : A) → f x ≡ g x) → map f xs ≡ map g xs
map_alike f g [] h = refl
map_alike f g (x ∷ xs) h = ap (λ y. y ∷ map f xs) (h x) ∙ ap (λ ys. g x ∷ ys) (map_alike f g xs h)

pub map_empty : {A : Type 0} (a n : ℕ) → replicate n [] ≡ map (λ (k : ℕ). let none : List A = [] in none) (range_with_len a n)
map_empty a zero = refl
map_empty a (suc n) = ap (λ ys. [] ∷ ys) (map_empty (a + 1) n)

-- what is made of the first k, and of one more
pub map_more : {A B : Type 0} (g : A → B) (xs : List A) (k : ℕ) (x : A) → slice_get xs k ≡ Some x
    → map g (take (k + 1) xs) ≡ map g (take k xs) ++ g x ∷ []
map_more g [] k x h = absurd (cc h)
map_more g (y ∷ xs) zero x h = let e : y ≡ x = cc h in ap (λ z. g z ∷ []) e
map_more g (y ∷ xs) (suc k) x h =
    let next : suc k + 1 ≡ suc (k + 1) = omega arith in
    ap (λ n. map g (take n (y ∷ xs))) next ∙ ap (λ ys. g y ∷ ys) (map_more g xs k x h)

joined-last : {A : Type 0} (xss : List (List A)) (xs : List A) → joined (xss ++ xs ∷ []) ≡ joined xss ++ xs
joined-last [] xs = append-nil xs
joined-last (ys ∷ xss) xs = ap (λ zs. ys ++ zs) (joined-last xss xs) ∙ sym (append_assoc ys (joined xss) xs)

pub joined_more : {A B : Type 0} (g : A → List B) (xs : List A) (k : ℕ) (x : A) → slice_get xs k ≡ Some x
    → joined (map g (take (k + 1) xs)) ≡ joined (map g (take k xs)) ++ g x
joined_more g xs k x h = ap joined (map_more g xs k x h) ∙ joined-last (map g (take k xs)) (g x)

-- ---- two lists

pub zip_get : {A B : Type 0} (xs : List A) (ys : List B) (k : ℕ) (x : A) (y : B) → slice_get xs k ≡ Some x → slice_get ys k ≡ Some y
    → slice_get (zip xs ys) k ≡ Some (x, y)
zip_get [] ys k x y p q = absurd (cc p)
zip_get (a ∷ xs) [] k x y p q = absurd (cc q)
zip_get (a ∷ xs) (b ∷ ys) zero x y p q = cc (p, q)
zip_get (a ∷ xs) (b ∷ ys) (suc k) x y p q = zip_get xs ys k x y p q

pub pairs_get : {A B C : Type 0} (f : ℕ → A → B → C) (n k : ℕ) (xs : List A) (ys : List B) (x : A) (y : B) → slice_get xs k ≡ Some x
    → slice_get ys k ≡ Some y → slice_get (pairs_from f n xs ys) k ≡ Some (f (n + k) x y)
pairs_get f n k [] ys x y p q = absurd (cc p)
pairs_get f n k (a ∷ xs) [] x y p q = absurd (cc q)
pairs_get f n zero (a ∷ xs) (b ∷ ys) x y p q = let m : n ≡ n + 0 = omega arith in cc (p, q, m)
pairs_get f n (suc k) (a ∷ xs) (b ∷ ys) x y p q = pairs_get f (n + 1) k xs ys x y p q ∙ ap (λ m. Some (f m x y)) (omega arith)

pub length-pairs : {A B C : Type 0} (f : ℕ → A → B → C) (n : ℕ) (xs : List A) (ys : List B)
    → length (pairs_from f n xs ys) ≡ min (length xs) (length ys)
length-pairs f n [] ys = omega arith
length-pairs f n (x ∷ xs) [] = omega arith
length-pairs f n (x ∷ xs) (y ∷ ys) = let h = length-pairs f (n + 1) xs ys in omega arith

-- ---- what each cycle has

module _ {X : Type 0} (f : ℕ → List X) (c : ℕ) (more : List X) where
  -- with more in cycle c
  abbrev pub with_more : ℕ → List X
  with_more k = f k ++ (if c == k then more else [])

  elsewhere : (k : ℕ) → (c ≡ k → ⊥) → f k ≡ with_more k
  elsewhere k h =
      let e : (c == k) ≡ false = grind (arith, nat_tests) in
      sym (append-nil (f k)) ∙ ap (λ (b : Bool). f k ++ (if b then more else [])) (sym e)

  here : f c ++ more ≡ with_more c
  here = let e : (c == c) ≡ true = grind (arith, nat_tests) in ap (λ (b : Bool). f c ++ (if b then more else [])) (sym e)

  -- a cycle that is not among them
  same_outside : (a n : ℕ) → (c < a) ⊎ (a + n ≤ c) → map f (range_with_len a n) ≡ map with_more (range_with_len a n)
  same_outside a zero h = refl
  same_outside a (suc n) h =
      let other : c ≡ a → ⊥ = elim h [ inl p ↦ λ e. omega arith | inr p ↦ λ e. omega arith ] in
      let later : (c < a + 1) ⊎ (a + 1 + n ≤ c) = elim h [ inl p ↦ inl (omega arith) | inr p ↦ inr (omega arith) ] in
      ap (λ y. y ∷ map f (range_with_len (a + 1) n)) (elsewhere a other) ∙ ap (λ ys. with_more a ∷ ys) (same_outside (a + 1) n later)

  -- a cycle among them
  more_at : (a n k : ℕ) → c ≡ a + k → k < n → set (map f (range_with_len a n)) k (f c ++ more) ≡ map with_more (range_with_len a n)
  more_at a zero k e h = absurd (omega arith)
  more_at a (suc n) zero e h =
      let first : c ≡ a = omega arith in
      ap (λ y. y ∷ map f (range_with_len (a + 1) n)) (here ∙ ap with_more first) ∙ ap (λ ys. with_more a ∷ ys)
      (same_outside (a + 1) n (inl (omega arith)))
  more_at a (suc n) (suc k) e h =
      let other : c ≡ a → ⊥ = λ g. omega arith in
      ap (λ y. y ∷ set (map f (range_with_len (a + 1) n)) k (f c ++ more)) (elsewhere a other) ∙ ap (λ ys. with_more a ∷ ys)
      (more_at (a + 1) n k (omega arith) (omega arith))

  -- the cycles count from 1
  module _ (n : ℕ) (cycles : List (List X)) (are : cycles ≡ map f (range_with_len 1 n)) where
    long : length cycles ≡ n
    long = ap length are ∙ length-map-range_with_len f 1 n

    pub pushed : (old new : List X) → 1 ≤ c → c ≤ length cycles → old ≡ get_or cycles (c - 1) old → new ≡ old ++ more
        → set cycles (c - 1) new ≡ map with_more (range_with_len 1 n)
    pushed old new low high e g =
        let lt : c - 1 < n = omega (arith, long) in
        let there : old ≡ f c = e ∙ ap (λ xs. get_or xs (c - 1) old) are ∙ get_or-map-range_with_len f 1 n (c - 1) c old lt (omega arith) in
        ap (λ xs. set xs (c - 1) new) are ∙ ap (set (map f (range_with_len 1 n)) (c - 1)) (g ∙ ap (λ xs. xs ++ more) there) ∙ more_at 1 n
        (c - 1) (omega arith) lt

    pub unpushed : (c < 1) ⊎ (length cycles < c) → cycles ≡ map with_more (range_with_len 1 n)
    unpushed h = are ∙ same_outside 1 n (elim h [ inl p ↦ inl p | inr p ↦ inr (omega (arith, long)) ])
