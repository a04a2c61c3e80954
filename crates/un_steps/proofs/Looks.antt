-- What looks at a set tell of it.
use Rattle.std.proofs.Common.{ℕ, zero, suc, ◌≡◌, ◌↔◌, ◌+◌, ◌<◌, ◌≤◌, Bool, true, false, ◌&&◌, ◌||◌, List, [], ◌∷◌, length, filter, fold, min, nat_eq}
use Rattle.std.proofs.Common.{refl, sym, ap, ◌∙◌, subst, arith, ◌⊎◌, inl, inr}
use Rattle.std.specs.Prelude.{Option, Some, None, IsTrue, IsSomeAnd, is_some, slice_get, nat_lt, if◌then◌else◌, ◌==◌}
use Rattle.std.specs.Option.{option_map}
use Rattle.std.proofs.lemmas.Bool.Decides.{nat_tests}
use Rattle.un_domains.specs.Sets.{has, least, greatest}
use Rattle.un_domains.specs.SetLaws.{has-filter, has-cons, has-fold_max}
use Rattle.un_lists.proofs.Lists.{get_below, length_get}
use Rattle.un_steps.specs.Words.{least_of, is_positive}
use Rattle.un_steps.proofs.Boxes.{has_positive}

-- ---- sets without values

pub none_in : (xs : List ℕ) (y : ℕ) → length xs ≡ 0 → has xs y ≡ true → ⊥
none_in [] y e h = cc h
none_in (x ∷ xs) y e h = omega arith

pub below_end : (xs : List ℕ) (y : ℕ) → has xs y ≡ true → y < greatest xs + 1
below_end xs y h = let le = has-fold_max 0 xs y h in omega (arith, le)

pub least_none : (xs : List ℕ) → ((y : ℕ) → has xs y ≡ true → ⊥) → least_of xs ≡ None
least_none [] h = refl
least_none (x ∷ xs) h = absurd (h x (let t : nat_eq x x ≡ true = grind (arith, nat_tests) in rw t refl))

-- ---- the least

pub has_first : (x : ℕ) (xs : List ℕ) → has (x ∷ xs) x ≡ true
has_first x xs = let t : nat_eq x x ≡ true = grind (arith, nat_tests) in rw t refl

pub has_later : (x y : ℕ) (xs : List ℕ) → has xs y ≡ true → has (x ∷ xs) y ≡ true
has_later x y xs h = by (nat_eq y x)
  where
    by : (b : Bool) → (b || has xs y) ≡ true
    by true = refl
    by false = h

fold_known : (a : ℕ) (xs : List ℕ) (y : ℕ) → (a ≡ y) ⊎ (has xs y ≡ true) → y ≤ a → ((k : ℕ) → has xs k ≡ true → y ≤ k) → fold min a xs ≡ y
fold_known a [] y (inl e) le least = e
fold_known a [] y (inr t) le least = absurd (cc t)
fold_known a (x ∷ xs) y there le least =
    let lx = least x (has_first x xs) in
    fold_known (min a x) xs y (step there lx) (omega (arith, le, lx)) (λ k t. least k (has_later x k xs t))
  where
    step : (a ≡ y) ⊎ (has (x ∷ xs) y ≡ true) → y ≤ x → (min a x ≡ y) ⊎ (has xs y ≡ true)
    step (inl e) lx = inl (omega (arith, e, lx))
    step (inr t) lx = elim (has-cons x y xs t) [ inl e ↦ inl (omega (arith, e, le)) | inr u ↦ inr u ]

-- a value that no other is below is the least
pub least_known : (xs : List ℕ) (y : ℕ) → has xs y ≡ true → ((k : ℕ) → has xs k ≡ true → y ≤ k) → least_of xs ≡ Some y
least_known [] y h least = absurd (cc h)
least_known (x ∷ xs) y h least =
    let lx = least x (has_first x xs) in
    let full : (length (x ∷ xs) == 0) ≡ false = grind (arith, nat_tests) in
    ap (λ (b : Bool). if b then None else Some (fold min x xs)) full ∙ ap (λ (n : ℕ). Some n)
    (fold_known x xs y (elim (has-cons x y xs h) [ inl e ↦ inl (sym e) | inr t ↦ inr t ]) lx (λ k t. least k (has_later x k xs t)))

pub both : (a b : Bool) → (a && b) ≡ true → (a ≡ true) × (b ≡ true)
both true b h = (refl, h)
both false b h = absurd (cc h)

pub parts : (xs : List ℕ) (y : ℕ) → has (filter is_positive xs) y ≡ true → (0 < y) × (has xs y ≡ true)
parts xs y h =
    let t = both (is_positive y) (has xs y) (sym (has-filter is_positive y xs) ∙ h) in
    let p = t.0 in
    (grind (arith, nat_tests, p), t.1)

pub less_or : (a b : ℕ) → (a < b) ⊎ (b ≤ a)
less_or zero zero = inr (omega arith)
less_or zero (suc b) = inl (omega arith)
less_or (suc a) zero = inr (omega arith)
less_or (suc a) (suc b) = elim (less_or a b) [ inl lt ↦ inl (omega (arith, lt)) | inr le ↦ inr (omega (arith, le)) ]

-- the first number from 1 on that a set has
pub first_positive : (xs : List ℕ) (y : ℕ) → 1 ≤ y → ((k : ℕ) → 1 ≤ k → k < y → has xs k ≡ false) → has xs y ≡ true
    → least_of (filter is_positive xs) ≡ Some y
first_positive xs y lo below h = least_known (filter is_positive xs) y (has_positive xs y h lo) (λ k t.
    let p = parts xs k t in later k p.0 p.1)
  where
    later : (k : ℕ) → 0 < k → has xs k ≡ true → y ≤ k
    later k lt t = by (less_or k y)
      where
        by : (k < y) ⊎ (y ≤ k) → y ≤ k
        by (inl less) = absurd (cc (sym (below k lt less) ∙ t))
        by (inr le) = le

-- none from 1 on
pub none_positive : (xs : List ℕ) (end : ℕ) → ((y : ℕ) → has xs y ≡ true → y < end) → ((k : ℕ) → 1 ≤ k → k < end → has xs k ≡ false)
    → least_of (filter is_positive xs) ≡ None
none_positive xs end above below = least_none (filter is_positive xs) (λ y t.
    let p = parts xs y t in cc (sym (below y p.0 (above y p.1)) ∙ p.1))

-- ---- one value

pub one_value : (xs : List ℕ) (y : ℕ) → length xs ≡ 1 → (b : Bool) → b ≡ has xs y → IsTrue b ↔ (xs ≡ y ∷ [])
one_value [] y e b f = absurd (cc e)
one_value (x ∷ []) y e b f = (
  λ t. elim (has-cons x y [] (sym f ∙ t)) [ inl g ↦ ap (λ (n : ℕ). n ∷ []) (sym g) | inr u ↦ absurd (cc u) ],
  λ g. f ∙ ap (λ (ys : List ℕ). has ys y) g ∙ has_first y [],
)
one_value (x ∷ z ∷ zs) y e b f = absurd (omega (arith, e))

pub not_one : (xs : List ℕ) (y : ℕ) → (length xs ≡ 1 → ⊥) → IsTrue false ↔ (xs ≡ y ∷ [])
not_one xs y n = (λ t. absurd (cc t), λ g. absurd (n (ap length g)))

-- ---- values other than 0

pub positive_there : (xs : List ℕ) (n : ℕ) (b : Bool) → 0 < n → b ≡ has xs n → b ≡ has (filter is_positive xs) n
positive_there xs n b lt e =
    let t : is_positive n ≡ true = grind (arith, nat_tests, lt) in
    e ∙ sym (has-filter is_positive n xs ∙ ap (λ (c : Bool). c && has xs n) t)

pub positive_not : (xs : List ℕ) (n : ℕ) → n ≤ 0 → nat_lt 0 n ≡ has (filter is_positive xs) n
positive_not xs n le =
    let t : is_positive n ≡ false = grind (arith, nat_tests, le) in
    t ∙ sym (has-filter is_positive n xs ∙ ap (λ (c : Bool). c && has xs n) t)

-- ---- what there is of an option

pub nothing : {A B : Type 0} (f : A → B) (r : Option A) (o : Option B) (P : B → Type 0) → option_map f r ≡ o → r ≡ None
    → IsTrue false ↔ IsSomeAnd o P
nothing f r o P e n = subst (λ (z : Option _). IsTrue false ↔ IsSomeAnd z P) (sym (ap (option_map f) n) ∙ e) (λ t. cc t, λ h. absurd h)

pub something : {A B : Type 0} (f : A → B) (r : Option A) (o : Option B) (P : B → Type 0) (a : A) (b : Bool) → option_map f r ≡ o → r ≡ Some a
    → IsTrue b ↔ P (f a) → IsTrue b ↔ IsSomeAnd o P
something f r o P a b e s iff = subst (λ (z : Option _). IsTrue b ↔ IsSomeAnd z P) (sym (ap (option_map f) s) ∙ e) iff

-- whether a set has a least value tells whether it has values
pub some_least : (xs : List ℕ) (r : Option ℕ) → r ≡ least_of xs → IsTrue (is_some r) ↔ (0 < length xs)
some_least xs r e = by (length xs == 0) refl
  where
    by : (b : Bool) → (length xs == 0) ≡ b → IsTrue (is_some r) ↔ (0 < length xs)
    by true f =
        let none : r ≡ None = e ∙ ap (λ (b : Bool). if b then None else Some (least xs)) f in
        (λ t. absurd (cc (sym (ap is_some none) ∙ t)), λ lt. absurd (grind (arith, nat_tests, f, lt)))
    by false f =
        let there : r ≡ Some (least xs) = e ∙ ap (λ (b : Bool). if b then None else Some (least xs)) f in
        (λ t. grind (arith, nat_tests, f), λ lt. ap is_some there)

-- what is found in a list is at a place of it
pub some_get : {A B : Type 0} (f : A → B) (r : Option A) (xs : List B) (n : ℕ) → option_map f r ≡ slice_get xs n → IsTrue (is_some r) ↔ (n < length xs)
some_get f None xs n e = (λ t. absurd (cc t), λ lt. let g = get_below xs n lt in absurd (cc (e ∙ g.1)))
some_get f (Some a) xs n e = (λ t. length_get xs n (f a) (sym e), λ lt. refl)

pub some_at : {A : Type 0} (r : Option A) (xs : List A) (n : ℕ) → r ≡ slice_get xs n → IsTrue (is_some r) ↔ (n < length xs)
some_at None xs n e = (λ t. absurd (cc t), λ lt. let g = get_below xs n lt in absurd (cc (e ∙ g.1)))
some_at (Some a) xs n e = (λ t. length_get xs n a (sym e), λ lt. refl)

pub only_at : {A : Type 0} (o : Option A) (P : A → Type 0) (a : A) (b : Bool) → o ≡ Some a → IsTrue b ↔ P a → IsTrue b ↔ ((z : A) → o ≡ Some z → P z)
only_at o P a b e iff = (
  λ t z at. let both : Some a ≡ Some z = sym e ∙ at in let same : a ≡ z = cc both in subst P same (iff.0 t),
  λ all. iff.1 (all a e),
)

pub none_at : {A : Type 0} (o : Option A) (P : A → Type 0) → o ≡ None → IsTrue true ↔ ((z : A) → o ≡ Some z → P z)
none_at o P e = (λ t z at. absurd (cc (sym e ∙ at)), λ all. refl)
