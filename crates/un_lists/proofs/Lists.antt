-- What holds of each element of a list, of each two of them, and which elements it has, by recursion over the list.
use Rattle.std.proofs.Common.{ℕ, zero, suc, ◌≡◌, ◌<◌, Bool, true, false, cond, List, [], ◌∷◌, ◌++◌, length, map, filter, ◌⊎◌, inl, inr}
use Rattle.std.proofs.Common.{refl, sym, ap, ◌∙◌, subst, arith, All, AllPairs, slice_index_or}
use Rattle.std.specs.List.{list_any, find}
use Rattle.std.specs.Prelude.{Some, None, slice_get}
use Rattle.std.specs.Option.{option_map}

-- each element
abbrev pub Each : {X : Type 0} → (X → Type 0) → List X → Type 0
Each P [] = Unit {0}
Each P (x ∷ xs) = P x × Each P xs

-- each two elements, the earlier one first
abbrev pub Pairwise : {X : Type 0} → (X → X → Type 0) → List X → Type 0
Pairwise R [] = Unit {0}
Pairwise R (x ∷ xs) = Each (R x) xs × Pairwise R xs

-- the list has the element
abbrev pub Member : {X : Type 0} → X → List X → Type 0
Member x [] = ⊥
Member x (y ∷ ys) = (y ≡ x) ⊎ Member x ys

pub each_member : {X : Type 0} (P : X → Type 0) (xs : List X) (x : X) → Each P xs → Member x xs → P x
each_member P [] x h m = elim m [ ]
each_member P (y ∷ ys) x h (inl e) = subst P e h.0
each_member P (y ∷ ys) x h (inr m) = each_member P ys x h.1 m

pub each_of : {X : Type 0} (P : X → Type 0) (xs : List X) → ((x : X) → Member x xs → P x) → Each P xs
each_of P [] h = tt
each_of P (y ∷ ys) h = (h y (inl refl), each_of P ys (λ x m. h x (inr m)))

pub each_more : {X : Type 0} (P Q : X → Type 0) (xs : List X) → ((x : X) → P x → Q x) → Each P xs → Each Q xs
each_more P Q [] f h = tt
each_more P Q (y ∷ ys) f h = (f y h.0, each_more P Q ys f h.1)

pub each_map : {X Y : Type 0} (P : Y → Type 0) (f : X → Y) (xs : List X) → Each (λ x. P (f x)) xs → Each P (map f xs)
each_map P f [] h = tt
each_map P f (y ∷ ys) h = (h.0, each_map P f ys h.1)

pub pairwise_map : {X Y : Type 0} (R : Y → Y → Type 0) (f : X → Y) (xs : List X) → Pairwise (λ x y. R (f x) (f y)) xs
    → Pairwise R (map f xs)
pairwise_map R f [] h = tt
pairwise_map R f (y ∷ ys) h = (each_map (R (f y)) f ys h.0, pairwise_map R f ys h.1)

pub pairwise_more : {X : Type 0} (R S : X → X → Type 0) (xs : List X) → ((x y : X) → Member x xs → Member y xs → R x y → S x y)
    → Pairwise R xs → Pairwise S xs
pairwise_more R S [] f h = tt
pairwise_more R S (x ∷ xs) f h = (
  each_of (S x) xs (λ y m. f x y (inl refl) (inr m) (each_member (R x) xs y h.0 m)),
  pairwise_more R S xs (λ y z m n r. f y z (inr m) (inr n) r) h.1,
)

pub member_map : {X Y : Type 0} (f : X → Y) (xs : List X) (x : X) → Member x xs → Member (f x) (map f xs)
member_map f [] x m = elim m [ ]
member_map f (y ∷ ys) x (inl e) = inl (ap f e)
member_map f (y ∷ ys) x (inr m) = inr (member_map f ys x m)

-- an element of a mapped list is that of an element
pub member_map_of : {X Y : Type 0} (f : X → Y) (xs : List X) (y : Y) → Member y (map f xs) → (x : X) × (Member x xs) × (f x ≡ y)
member_map_of f [] y m = elim m [ ]
member_map_of f (x ∷ xs) y (inl e) = (x, inl refl, e)
member_map_of f (x ∷ xs) y (inr m) = let r = member_map_of f xs y m in (r.0, inr r.1, r.2)

pub member_append_left : {X : Type 0} (xs ys : List X) (x : X) → Member x xs → Member x (xs ++ ys)
member_append_left [] ys x m = elim m [ ]
member_append_left (z ∷ zs) ys x (inl e) = inl e
member_append_left (z ∷ zs) ys x (inr m) = inr (member_append_left zs ys x m)

pub member_append_right : {X : Type 0} (xs ys : List X) (x : X) → Member x ys → Member x (xs ++ ys)
member_append_right [] ys x m = m
member_append_right (z ∷ zs) ys x m = inr (member_append_right zs ys x m)

pub each_append : {X : Type 0} (P : X → Type 0) (xs ys : List X) → Each P (xs ++ ys) → Each P xs × Each P ys
each_append P [] ys h = (tt, h)
each_append P (x ∷ xs) ys h = let r = each_append P xs ys h.1 in ((h.0, r.0), r.1)

pub each_join : {X : Type 0} (P : X → Type 0) (xs ys : List X) → Each P xs → Each P ys → Each P (xs ++ ys)
each_join P [] ys h k = k
each_join P (x ∷ xs) ys h k = (h.0, each_join P xs ys h.1 k)

-- what passes a test, and what is kept of it
pub each_filter : {X : Type 0} (P : X → Type 0) (t : X → Bool) (xs : List X) → Each P xs → Each P (filter t xs)
each_filter P t [] h = tt
each_filter P t (x ∷ xs) h =
    let rest = each_filter P t xs h.1 in
    elim (t x) as (λ b. Each P (cond b (x ∷ filter t xs) (filter t xs))) [ true ↦ (h.0, rest) | false ↦ rest ]

pub each_passes : {X : Type 0} (t : X → Bool) (xs : List X) → Each (λ x. t x ≡ true) (filter t xs)
each_passes t [] = tt
each_passes t (x ∷ xs) =
    let rest = each_passes t xs in
    let go : (b : Bool) → t x ≡ b → Each (λ y. t y ≡ true) (cond b (x ∷ filter t xs) (filter t xs)) =
    elim [ true ↦ λ e. (e, rest) | false ↦ λ e. rest ] in
    go (t x) refl

pub pairwise_filter : {X : Type 0} (R : X → X → Type 0) (t : X → Bool) (xs : List X) → Pairwise R xs → Pairwise R (filter t xs)
pairwise_filter R t [] h = tt
pairwise_filter R t (x ∷ xs) h =
    let rest = pairwise_filter R t xs h.1 in
    let first = each_filter (R x) t xs h.0 in
    elim (t x) as (λ b. Pairwise R (cond b (x ∷ filter t xs) (filter t xs))) [ true ↦ (first, rest) | false ↦ rest ]

pub member_filter : {X : Type 0} (t : X → Bool) (xs : List X) (x : X) → Member x xs → t x ≡ true → Member x (filter t xs)
member_filter t [] x m e = elim m [ ]
member_filter t (y ∷ ys) x (inl s) e =
    let here : t y ≡ true = ap t s ∙ e in
    subst (λ b. Member x (cond b (y ∷ filter t ys) (filter t ys))) (sym here) (inl s)
member_filter t (y ∷ ys) x (inr m) e =
    let rest = member_filter t ys x m e in
    elim (t y) as (λ b. Member x (cond b (y ∷ filter t ys) (filter t ys))) [ true ↦ inr rest | false ↦ rest ]

pub member_of_filter : {X : Type 0} (t : X → Bool) (xs : List X) (x : X) → Member x (filter t xs) → Member x xs × (t x ≡ true)
member_of_filter t [] x m = elim m [ ]
member_of_filter t (y ∷ ys) x m =
    let go : (b : Bool) → t y ≡ b → Member x (cond b (y ∷ filter t ys) (filter t ys)) → Member x (y ∷ ys) × (t x ≡ true) =
    elim [
      | true ↦ λ e. λ n. elim n [ inl s ↦ (inl s, ap t (sym s) ∙ e) | inr k ↦ let r = member_of_filter t ys x k in (inr r.0, r.1) ]
      | false ↦ λ e. λ n. let r = member_of_filter t ys x n in (inr r.0, r.1)
    ] in
    go (t y) refl m

-- the elements before and after one
pub record Split {X : Type 0} (x : X) (xs : List X) : Type 0 where
  pub before : List X
  pub after : List X
  pub is : xs ≡ before ++ x ∷ after

pub split_at : {X : Type 0} (xs : List X) (x : X) → Member x xs → Split x xs
split_at [] x m = elim m [ ]
split_at (y ∷ ys) x (inl e) = record { before = []; after = ys; is = ap (λ z. z ∷ ys) e }
split_at (y ∷ ys) x (inr m) = let r = split_at ys x m in record { before = y ∷ r.before; after = r.after; is = ap (λ zs. y ∷ zs) r.is }

pub pairwise_before : {X : Type 0} (R : X → X → Type 0) (before after : List X) (x : X) → Pairwise R (before ++ x ∷ after)
    → Each (λ y. R y x) before
pairwise_before R [] after x h = tt
pairwise_before R (y ∷ ys) after x h = (((each_append (R y) ys (x ∷ after) h.0).1).0, pairwise_before R ys after x h.1)

pub pairwise_after : {X : Type 0} (R : X → X → Type 0) (before after : List X) (x : X) → Pairwise R (before ++ x ∷ after) → Each (R x) after
pairwise_after R [] after x h = h.0
pairwise_after R (y ∷ ys) after x h = pairwise_after R ys after x h.1

-- two elements stand in one order or the other, or are one place
pub pairwise_two : {X : Type 0} (R : X → X → Type 0) (xs : List X) (x y : X) → Pairwise R xs → Member x xs → Member y xs → (x ≡ y) ⊎ (R x y)
    ⊎ (R y x)
pairwise_two R [] x y h m n = elim m [ ]
pairwise_two R (z ∷ zs) x y h (inl e) (inl f) = inl (sym e ∙ f)
pairwise_two R (z ∷ zs) x y h (inl e) (inr n) = inr (inl (subst (λ w. R w y) e (each_member (R z) zs y h.0 n)))
pairwise_two R (z ∷ zs) x y h (inr m) (inl f) = inr (inr (subst (λ w. R w x) f (each_member (R z) zs x h.0 m)))
pairwise_two R (z ∷ zs) x y h (inr m) (inr n) = pairwise_two R zs x y h.1 m n

-- a test that no element passes, and one that an element does
pub any_none : {X : Type 0} (t : X → Bool) (xs : List X) → Each (λ x. t x ≡ false) xs → list_any t xs ≡ false
any_none t [] h = refl
any_none t (x ∷ xs) h = rw h.0 (any_none t xs h.1)

pub any_of : {X : Type 0} (t : X → Bool) (xs : List X) → list_any t xs ≡ true → (x : X) × (Member x xs) × (t x ≡ true)
any_of t [] h = absurd (cc h)
any_of t (x ∷ xs) h =
    let go : (b : Bool) → t x ≡ b → (x' : _) × (Member x' (x ∷ xs)) × (t x' ≡ true) =
    elim [
      | true ↦ λ e. (x, inl refl, e)
      | false ↦ λ e. let k : list_any t xs ≡ true = rw e at h in let r = any_of t xs k in (r.0, inr r.1, r.2)
    ] in
    go (t x) refl

pub none_any : {X : Type 0} (t : X → Bool) (xs : List X) → list_any t xs ≡ false → Each (λ x. t x ≡ false) xs
none_any t [] h = tt
none_any t (x ∷ xs) h =
    let go : (b : Bool) → t x ≡ b → Each (λ y. t y ≡ false) (x ∷ xs) =
    elim [
      | true ↦ λ e. let k : true ≡ false = rw e at h in absurd (cc k)
      | false ↦ λ e. let k : list_any t xs ≡ false = rw e at h in (e, none_any t xs k)
    ] in
    go (t x) refl

pub find_none : {X : Type 0} (t : X → Bool) (xs : List X) → Each (λ x. t x ≡ false) xs → find t xs ≡ None
find_none t [] h = refl
find_none t (x ∷ xs) h = rw h.0 (find_none t xs h.1)

pub none_found : {X : Type 0} (t : X → Bool) (xs : List X) → find t xs ≡ None → Each (λ x. t x ≡ false) xs
none_found t [] h = tt
none_found t (x ∷ xs) h =
    let go : (b : Bool) → t x ≡ b → Each (λ y. t y ≡ false) (x ∷ xs) =
    elim [
      | true ↦ λ e. let k : Some x ≡ None = rw e at h in absurd (cc k)
      | false ↦ λ e. let k : find t xs ≡ None = rw e at h in (e, none_found t xs k)
    ] in
    go (t x) refl

pub found : {X : Type 0} (t : X → Bool) (xs : List X) (x : X) → find t xs ≡ Some x → Member x xs × (t x ≡ true)
found t [] x h = absurd (cc h)
found t (y ∷ ys) x h =
    let go : (b : Bool) → t y ≡ b → Member x (y ∷ ys) × (t x ≡ true) =
    elim [
      | true ↦ λ e. let k : Some y ≡ Some x = rw e at h in let s : y ≡ x = cc k in (inl s, ap t (sym s) ∙ e)
      | false ↦ λ e. let k : find t ys ≡ Some x = rw e at h in let r = found t ys x k in (inr r.0, r.1)
    ] in
    go (t y) refl

-- where two elements of a list stand to one another
pub data Places {X : Type 0} (a c : List X) (x y : X) : Type 0 where
  ahead : (m : List X) → c ≡ a ++ x ∷ m → Places a c x y
  level : a ≡ c → x ≡ y → Places a c x y
  behind : (m : List X) → a ≡ c ++ y ∷ m → Places a c x y

pub two_places : {X : Type 0} (a b c d : List X) (x y : X) → a ++ x ∷ b ≡ c ++ y ∷ d → Places a c x y
two_places [] b [] d x y e = level refl (cc e)
two_places [] b (z ∷ c) d x y e = let k : x ≡ z = cc e in ahead c (ap (λ w. w ∷ c) (sym k))
two_places (z ∷ a) b [] d x y e = let k : z ≡ y = cc e in behind a (ap (λ w. w ∷ a) k)
two_places (z ∷ a) b (u ∷ c) d x y e =
    let k : z ≡ u = cc e in
    let rest : a ++ x ∷ b ≡ c ++ y ∷ d = cc e in
    more (two_places a b c d x y rest) k
  where
    more : Places a c x y → z ≡ u → Places (z ∷ a) (u ∷ c) x y
    more (ahead m p) k = ahead m (ap (λ w. w ∷ c) (sym k) ∙ ap (λ ws. z ∷ ws) p)
    more (level p q) k = level (ap (λ w. w ∷ a) k ∙ ap (λ ws. u ∷ ws) p) q
    more (behind m p) k = behind m (ap (λ w. w ∷ a) k ∙ ap (λ ws. u ∷ ws) p)

-- looking for an element that a filter keeps
pub find_filter : {X : Type 0} (t keep : X → Bool) (xs : List X) → Each (λ x. t x ≡ true → keep x ≡ true) xs
    → find t (filter keep xs) ≡ find t xs
find_filter t keep [] h = refl
find_filter t keep (x ∷ xs) h =
    let rest = find_filter t keep xs h.1 in
    let go : (b c : Bool) → t x ≡ b → keep x ≡ c → find t (cond c (x ∷ filter keep xs) (filter keep xs)) ≡ cond b (Some x) (find t xs) =
    λ b c. elim b as (λ b. t x ≡ b → keep x ≡ c → find t (cond c (x ∷ filter keep xs) (filter keep xs)) ≡ cond b (Some x) (find t xs)) [
      | true ↦ λ p q. let k : c ≡ true = sym q ∙ h.0 p in rw (k, p) refl
      | false ↦ elim c as (λ c. t x ≡ false → keep x ≡ c → find t (cond c (x ∷ filter keep xs) (filter keep xs)) ≡ find t xs) [
        | true ↦ λ p q. rw p rest
        | false ↦ λ p q. rest
      ]
    ] in
    go (t x) (keep x) refl refl

-- ---- lists by places

pub each_all : {X : Type 0} (P : X → Type 0) (xs : List X) → All P xs → Each P xs
each_all P [] h = tt
each_all P (x ∷ xs) h = (h 0 x (omega arith), each_all P xs (λ k d lt. h (suc k) d (omega arith)))

pub pairwise_all : {X : Type 0} (R : X → X → Type 0) (xs : List X) → AllPairs R xs → Pairwise R xs
pairwise_all R [] h = tt
pairwise_all R (x ∷ xs) h = (
  each_all (R x) xs (λ k d lt. h 0 (suc k) d (omega arith) (omega arith)),
  pairwise_all R xs (λ i j d lt l. h (suc i) (suc j) d (omega arith) (omega arith)),
)

pub each_of_map : {X Y : Type 0} (P : Y → Type 0) (f : X → Y) (xs : List X) → Each P (map f xs) → Each (λ x. P (f x)) xs
each_of_map P f [] h = tt
each_of_map P f (x ∷ xs) h = (h.0, each_of_map P f xs h.1)

pub pairwise_of_map : {X Y : Type 0} (R : Y → Y → Type 0) (f : X → Y) (xs : List X) → Pairwise R (map f xs)
    → Pairwise (λ x y. R (f x) (f y)) xs
pairwise_of_map R f [] h = tt
pairwise_of_map R f (x ∷ xs) h = (each_of_map (R (f x)) f xs h.0, pairwise_of_map R f xs h.1)

pub pairwise_append_left : {X : Type 0} (R : X → X → Type 0) (xs ys : List X) → Pairwise R (xs ++ ys) → Pairwise R xs
pairwise_append_left R [] ys h = tt
pairwise_append_left R (x ∷ xs) ys h = ((each_append (R x) xs ys h.0).0, pairwise_append_left R xs ys h.1)

pub pairwise_append_right : {X : Type 0} (R : X → X → Type 0) (xs ys : List X) → Pairwise R (xs ++ ys) → Pairwise R ys
pairwise_append_right R [] ys h = h
pairwise_append_right R (x ∷ xs) ys h = pairwise_append_right R xs ys h.1

-- an element has a place
pub place_of : {X : Type 0} (xs : List X) (x : X) → Member x xs → (k : ℕ) × (k < length xs) × (slice_get xs k ≡ Some x)
place_of [] x m = elim m [ ]
place_of (y ∷ ys) x (inl e) = (0, omega arith, ap Some e)
place_of (y ∷ ys) x (inr m) = let r = place_of ys x m in let lt = r.1 in (suc r.0, omega arith, r.2)

pub member_at : {X : Type 0} (xs : List X) (k : ℕ) (x : X) → slice_get xs k ≡ Some x → Member x xs
member_at [] k x e = absurd (cc e)
member_at (y ∷ ys) zero x e = inl (cc e)
member_at (y ∷ ys) (suc k) x e = inr (member_at ys k x e)

pub slice_get-map : {X Y : Type 0} (f : X → Y) (xs : List X) (k : ℕ) → slice_get (map f xs) k ≡ option_map f (slice_get xs k)
slice_get-map f [] k = refl
slice_get-map f (x ∷ xs) zero = refl
slice_get-map f (x ∷ xs) (suc k) = slice_get-map f xs k

pub get_below : {X : Type 0} (xs : List X) (k : ℕ) → k < length xs → (x : X) × (slice_get xs k ≡ Some x)
get_below [] k lt = absurd (omega arith)
get_below (x ∷ xs) zero lt = (x, refl)
get_below (x ∷ xs) (suc k) lt = get_below xs k (omega arith)

pub index_get : {X : Type 0} (xs : List X) (k : ℕ) (d x : X) → slice_get xs k ≡ Some x → slice_index_or xs k d ≡ x
index_get [] k d x e = absurd (cc e)
index_get (y ∷ ys) zero d x e = cc e
index_get (y ∷ ys) (suc k) d x e = index_get ys k d x e

pub length_get : {X : Type 0} (xs : List X) (k : ℕ) (x : X) → slice_get xs k ≡ Some x → k < length xs
length_get [] k x e = absurd (cc e)
length_get (y ∷ ys) zero x e = omega arith
length_get (y ∷ ys) (suc k) x e = let r = length_get ys k x e in omega arith

pub map-append : {X Y : Type 0} (f : X → Y) (xs ys : List X) → map f (xs ++ ys) ≡ map f xs ++ map f ys
map-append f [] ys = refl
map-append f (x ∷ xs) ys = ap (λ zs. f x ∷ zs) (map-append f xs ys)
