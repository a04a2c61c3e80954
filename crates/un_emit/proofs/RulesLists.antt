-- What holds of all elements of a list, of its pairs and of its sums, for the rules of code.
use Rattle.std.proofs.Common.{ℕ, zero, suc, ◌≡◌, ◌≢◌, ◌<◌, ◌≤◌, ◌+◌, Bool, true, ◌&&◌, List, [], ◌∷◌, ◌++◌, length, map, inl, inr, ⊎_elim}
use Rattle.std.proofs.Common.{refl, sym, ap, ◌∙◌, subst, arith, All, AllPairs, Contains, slice_index_or}
use Rattle.std.specs.Prelude.{Option, Some, slice_get, sum_by, nat_lt, IsSomeAnd}
use Rattle.std.specs.List.{flat_map, range_with_len, list_all, AllZip}
use Rattle.std.proofs.lemmas.Bool.{and_parts, ltb-true}
use Rattle.std.proofs.lemmas.List.Sums.{sum_by-cons}
use Rattle.un_lists.proofs.Lists.{Each, Pairwise, Member, each_member, each_of, each_more, each_join, index_get, get_below, length_get}
use Rattle.un_model.proofs.PlacedSchedules.{split_member}

-- ---- all, and all pairs

each_at : {X : Type 0} (P : X → Type 0) (xs : List X) → Each P xs → (k : ℕ) (d : X) → k < length xs → P (slice_index_or xs k d)
each_at P [] h k d lt = absurd (omega arith)
each_at P (x ∷ xs) h zero d lt = h.0
each_at P (x ∷ xs) h (suc k) d lt = each_at P xs h.1 k d (omega arith)

pub all_each : {X : Type 0} (P : X → Type 0) (xs : List X) → Each P xs → All P xs
all_each P xs h = each_at P xs h

pair_at : {X : Type 0} (R : X → X → Type 0) (xs : List X) → Pairwise R xs → (i j : ℕ) (d : X) → i < j → j < length xs
    → R (slice_index_or xs i d) (slice_index_or xs j d)
pair_at R [] h i j d lt l = absurd (omega arith)
pair_at R (x ∷ xs) h zero zero d lt l = absurd (omega arith)
pair_at R (x ∷ xs) h zero (suc j) d lt l = each_at (R x) xs h.0 j d (omega arith)
pair_at R (x ∷ xs) h (suc i) zero d lt l = absurd (omega arith)
pair_at R (x ∷ xs) h (suc i) (suc j) d lt l = pair_at R xs h.1 i j d (omega arith) (omega arith)

pub all_pairwise : {X : Type 0} (R : X → X → Type 0) (xs : List X) → Pairwise R xs → AllPairs R xs
all_pairwise R xs h = pair_at R xs h

pub all_places : {X : Type 0} (P : X → Type 0) (xs : List X) → ((k : ℕ) (x : X) → slice_get xs k ≡ Some x → P x) → All P xs
all_places P xs f = λ k d lt. let r = get_below xs k lt in subst P (sym (index_get xs k d r.0 r.1)) (f k r.0 r.1)

pub contains_at : {X : Type 0} (xs : List X) (k : ℕ) (x : X) → slice_get xs k ≡ Some x → Contains xs x
contains_at xs k x q = (k, length_get xs k x q, index_get xs k x x q)

pub some_and : {X : Type 0} (P : X → Type 0) (o : Option X) (x : X) → o ≡ Some x → P x → IsSomeAnd o P
some_and P o x q p = subst (λ y. IsSomeAnd y P) (sym q) p

pub each_pass : {X : Type 0} (t : X → Bool) (xs : List X) → list_all t xs ≡ true → Each (λ x. t x ≡ true) xs
each_pass t [] h = tt
each_pass t (x ∷ xs) h = let r = and_parts (t x) (list_all t xs) h in (r.0, each_pass t xs r.1)

pub zip_length : {A B : Type 0} (R : A → B → Type 0) (xs : List A) (ys : List B) → AllZip R xs ys → length xs ≡ length ys
zip_length R [] [] h = refl
zip_length R [] (y ∷ ys) h = absurd h
zip_length R (x ∷ xs) [] h = absurd h
zip_length R (x ∷ xs) (y ∷ ys) h = ap suc (zip_length R xs ys h.1)

-- two relations at once
pub pairwise_both : {X : Type 0} (R S : X → X → Type 0) (xs : List X) → Pairwise R xs → Pairwise S xs
    → Pairwise (λ x y. R x y × S x y) xs
pairwise_both R S [] p q = tt
pairwise_both R S (x ∷ xs) p q = (
  each_of (λ y. R x y × S x y) xs (λ y m. (each_member (R x) xs y p.0 m, each_member (S x) xs y q.0 m)),
  pairwise_both R S xs p.1 q.1,
)

-- ---- joined lists

flat_member : {X Y : Type 0} (f : X → List Y) (xs : List X) (y : Y) → Member y (flat_map f xs)
    → (x : X) × (Member x xs) × (Member y (f x))
flat_member f [] y m = elim m [ ]
flat_member f (x ∷ xs) y m = ⊎_elim
    (λ (k : Member y (f x)). (x, inl refl, k))
    (λ (k : Member y (flat_map f xs)). let r = flat_member f xs y k in (r.0, inr r.1, r.2))
    (split_member (f x) (flat_map f xs) y m)

pairwise_join : {X : Type 0} (R : X → X → Type 0) (xs ys : List X) → Pairwise R xs → Pairwise R ys
    → ((a b : X) → Member a xs → Member b ys → R a b) → Pairwise R (xs ++ ys)
pairwise_join R [] ys p q f = q
pairwise_join R (x ∷ xs) ys p q f = (
  each_join (R x) xs ys p.0 (each_of (R x) ys (λ b n. f x b (inl refl) n)),
  pairwise_join R xs ys p.1 q (λ a b m n. f a b (inr m) n),
)

-- the elements of all lists that f gives, where those of one list and those of each two are related
pub pairwise_flat : {X Y : Type 0} (R : Y → Y → Type 0) (f : X → List Y) (xs : List X) → Each (λ x. Pairwise R (f x)) xs
    → Pairwise (λ x y. (a b : Y) → Member a (f x) → Member b (f y) → R a b) xs → Pairwise R (flat_map f xs)
pairwise_flat R f [] own apart = tt
pairwise_flat R f (x ∷ xs) own apart =
    pairwise_join R (f x) (flat_map f xs) own.0 (pairwise_flat R f xs own.1 apart.1) (λ a b m n.
    let r = flat_member f xs b n in
    each_member (λ y. (a b : _) → Member a (f x) → Member b (f y) → R a b) xs r.0 apart.0 r.1 a b m r.2)

-- ---- numbers

pub range_below : (a n r : ℕ) → Member r (range_with_len a n) → (a ≤ r) × (r < a + n)
range_below a zero r m = elim m [ ]
range_below a (suc n) r (inl e) = (omega arith, omega arith)
range_below a (suc n) r (inr m) = let z = range_below (a + 1) n r m in let lo = z.0 in let hi = z.1 in (omega arith, omega arith)

-- each number is below the next ones
abbrev pub is_rising : List ℕ → Bool
is_rising [] = true
is_rising (x ∷ xs) = list_all (nat_lt x) xs && is_rising xs

pub rising_apart : (xs : List ℕ) → is_rising xs ≡ true → Pairwise (λ (a b : ℕ). a ≢ b) xs
rising_apart [] h = tt
rising_apart (x ∷ xs) h =
    let r = and_parts (list_all (nat_lt x) xs) (is_rising xs) h in
    let below : (y : ℕ) → nat_lt x y ≡ true → x ≢ y = λ y q e. let z = ltb-true x y q in absurd (omega arith) in
    (each_more (λ y. nat_lt x y ≡ true) (λ y. x ≢ y) xs below (each_pass (nat_lt x) xs r.0), rising_apart xs r.1)

-- ---- sums

abbrev pub total : {X : Type 0} → (X → ℕ) → List X → ℕ
total f [] = 0
total f (x ∷ xs) = f x + total f xs

pub sum_total : {X : Type 0} (f : X → ℕ) (xs : List X) → sum_by f xs ≡ total f xs
sum_total f [] = refl
sum_total f (x ∷ xs) = sum_by-cons f x xs ∙ ap (λ n. f x + n) (sum_total f xs)

pub total_map : {X Y : Type 0} (f : Y → ℕ) (g : X → Y) (xs : List X) → total f (map g xs) ≡ total (λ x. f (g x)) xs
total_map f g [] = refl
total_map f g (x ∷ xs) = ap (λ n. f (g x) + n) (total_map f g xs)

pub total_append : {X : Type 0} (f : X → ℕ) (xs ys : List X) → total f (xs ++ ys) ≡ total f xs + total f ys
total_append f [] ys = omega arith
total_append f (x ∷ xs) ys = let z = total_append f xs ys in omega (arith, z)
