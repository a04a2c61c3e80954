-- Users that are gathered in one pass, a list for each temporary.
use Rattle.std.proofs.Common.{ℕ, zero, suc, ◌≡◌, ◌<◌, ◌≤◌, ◌+◌, ◌-◌, Bool, true, false, ◌⊎◌, inl, inr, refl, sym, ap, ◌∙◌, arith}
use Rattle.std.proofs.Common.{subst, All, Option, List, [], ◌∷◌, ◌++◌, length, map, take, set, get_or, replicate, append_assoc}
use Rattle.std.specs.Prelude.{◌==◌, if◌then◌else◌, Some, slice_get}
use Rattle.std.specs.List.{range_with_len}
use Rattle.std.proofs.lemmas.Bool.Decides.{nat_tests}
use Rattle.std.proofs.lemmas.List.{length-map, take_all}
use Rattle.std.proofs.lemmas.Option.{slice_get-get_or}
use Rattle.std.proofs.lemmas.List.FromFn.{length-map-range_with_len, get_or-map-range_with_len}
use Rattle.un_base.specs.declared.ids.TempId.{TempId}
use Rattle.un_ir.specs.Extended.{temp}
use Rattle.un_prop.specs.declared.act.Temp.{Temp}
use Rattle.un_prop.specs.declared.act.UserOf.{UserOf}
use Rattle.un_model.specs.Pairs.{places_from, joined}
use Rattle.un_model.proofs.Steps.{append-nil}
use Rattle.un_prop.specs.declared.act.Act.{Act}
use Rattle.un_prop.specs.declared.act.At.{At}
use Rattle.un_ir.specs.declared.extended.Operand.{Operand}
use Rattle.un_base.specs.declared.ids.VarId.{VarId}
use Rattle.un_rooms.specs.Gathered.{gathered, Gathers, IsAmong, temp_with}
use Rattle.un_sites.specs.Places.{Place, Definer, act_of, time_of}
use Rattle.un_sites.specs.Rooms.{user_if, operand_users, place_users, users_of}
use Rattle.un_sites.specs.Sites.{place_of}
use Rattle.un_sites.specs.declared.sites.Spot.{Spot}

map_alike : {A B : Type 0} (f g : A → B) (xs : List A) → ((x : A) → f x ≡ g x) → map f xs ≡ map g xs
map_alike f g [] h = refl
map_alike f g (x ∷ xs) h = ap (λ y. y ∷ map f xs) (h x) ∙ ap (λ ys. g x ∷ ys) (map_alike f g xs h)

map_empty : {A : Type 0} (a n : ℕ) → replicate n [] ≡ map (λ (k : ℕ). let none : List A = [] in none) (range_with_len a n)
map_empty a zero = refl
map_empty a (suc n) = ap (λ ys. [] ∷ ys) (map_empty (a + 1) n)

-- ---- what is joined of the first ones, and of one more

joined-last : {A : Type 0} (xss : List (List A)) (xs : List A) → joined (xss ++ xs ∷ []) ≡ joined xss ++ xs
joined-last [] xs = append-nil xs
joined-last (ys ∷ xss) xs = ap (λ zs. ys ++ zs) (joined-last xss xs) ∙ sym (append_assoc ys (joined xss) xs)

places_next : {A B : Type 0} (f : ℕ → A → B) (n i : ℕ) (xs : List A) (x : A) → slice_get xs i ≡ Some x
    → places_from f n (take (i + 1) xs) ≡ places_from f n (take i xs) ++ f (n + i) x ∷ []
places_next f n i [] x h = absurd (cc h)
places_next f n zero (y ∷ xs) x h =
    let e : y ≡ x = cc h in
    let m : n ≡ n + 0 = omega arith in
    ap (λ z. f n z ∷ []) e ∙ ap (λ k. f k x ∷ []) m
places_next f n (suc i) (y ∷ xs) x h =
    let next : suc i + 1 ≡ suc (i + 1) = omega arith in
    let m : n + 1 + i ≡ n + suc i = omega arith in
    ap (λ k. places_from f n (take k (y ∷ xs))) next ∙ ap (λ zs. f n y ∷ zs) (places_next f (n + 1) i xs x h) ∙ ap
    (λ k. f n y ∷ (places_from f (n + 1) (take i xs) ++ f k x ∷ [])) m

pub placed_next : {A B : Type 0} (f : ℕ → A → List B) (i : ℕ) (xs : List A) (x : A) → slice_get xs i ≡ Some x
    → joined (places_from f 0 (take i xs)) ++ f i x ≡ joined (places_from f 0 (take (i + 1) xs))
placed_next {B = B} f i xs x h =
    let m : i ≡ 0 + i = omega arith in
    sym (joined-last (places_from f 0 (take i xs)) (f i x)) ∙ ap (joined {A = B})
    (ap (λ k. places_from f 0 (take i xs) ++ f k x ∷ []) m ∙ sym (places_next f 0 i xs x h))

pub mapped_next : {A B : Type 0} (f : A → B) (i : ℕ) (xs : List A) (x : A) → slice_get xs i ≡ Some x
    → map f (take (i + 1) xs) ≡ map f (take i xs) ++ f x ∷ []
mapped_next f i [] x h = absurd (cc h)
mapped_next f zero (y ∷ xs) x h = let e : y ≡ x = cc h in ap (λ z. f z ∷ []) e
mapped_next f (suc i) (y ∷ xs) x h =
    let next : suc i + 1 ≡ suc (i + 1) = omega arith in
    ap (λ k. map f (take k (y ∷ xs))) next ∙ ap (λ zs. f y ∷ zs) (mapped_next f i xs x h)

pub joined_next : {A B : Type 0} (f : A → List B) (i : ℕ) (xs : List A) (x : A) → slice_get xs i ≡ Some x
    → joined (map f (take i xs)) ++ f x ≡ joined (map f (take (i + 1) xs))
joined_next {B = B} f i xs x h =
    sym (joined-last (map f (take i xs)) (f x)) ∙ ap (joined {A = B}) (sym (mapped_next f i xs x h))

-- ---- steps of a loop

pub gathers_none : (first : ℕ) (lists : List (List UserOf)) → Gathers first (λ (t : TempId). []) lists lists
gathers_none first lists f n h =
    h ∙ map_alike (λ (k : ℕ). f (temp k)) (λ (k : ℕ). f (temp k) ++ []) (range_with_len first n) (λ k. sym (append-nil (f (temp k))))

pub gathers_more : (first : ℕ) (f g whole : TempId → List UserOf) (a b c : List (List UserOf)) → Gathers first f a b → Gathers first g b c
    → ((t : TempId) → f t ++ g t ≡ whole t) → Gathers first whole a c
gathers_more first f g whole a b c p q e h n are =
    q (λ (t : TempId). h t ++ f t) n (p h n are) ∙ map_alike (λ (k : ℕ). (h (temp k) ++ f (temp k)) ++ g (temp k))
    (λ (k : ℕ). h (temp k) ++ whole (temp k)) (range_with_len first n)
    (λ k. append_assoc (h (temp k)) (f (temp k)) (g (temp k)) ∙ ap (λ us. h (temp k) ++ us) (e (temp k)))

pub gathers_all : (first : ℕ) (f whole : TempId → List UserOf) (a b : List (List UserOf)) → Gathers first f a b
    → ((t : TempId) → f t ≡ whole t) → Gathers first whole a b
gathers_all first f whole a b p e h n are =
    p h n are ∙ map_alike (λ (k : ℕ). h (temp k) ++ f (temp k)) (λ (k : ℕ). h (temp k) ++ whole (temp k)) (range_with_len first n)
    (λ k. ap (λ us. h (temp k) ++ us) (e (temp k)))

pub gathers_first : (first n : ℕ) (f : TempId → List UserOf) (a b : List (List UserOf)) → a ≡ replicate n [] → Gathers first f a b
    → b ≡ gathered first n f
gathers_first first n f a b e h = h (λ (t : TempId). []) n (e ∙ map_empty first n)

-- what stands at place k
range_at : {A : Type 0} (f : ℕ → A) (first n k : ℕ) (x : A) → slice_get (map f (range_with_len first n)) k ≡ Some x → x ≡ f (first + k)
range_at f first zero k x h = absurd (cc h)
range_at f first (suc n) zero x h =
    let e : x ≡ f first = cc h in
    let m : first ≡ first + 0 = omega arith in
    e ∙ ap f m
range_at f first (suc n) (suc k) x h =
    let m : first + 1 + k ≡ first + suc k = omega arith in
    range_at f (first + 1) n k x h ∙ ap f m

-- ---- one user more

module _ {X : Type 0} (f : ℕ → List X) (c : ℕ) (more : List X) where
  -- with more at c
  abbrev with_more : ℕ → List X
  with_more k = f k ++ (if c == k then more else [])

  elsewhere : (k : ℕ) → (c ≡ k → ⊥) → f k ≡ with_more k
  elsewhere k h =
      let e : (c == k) ≡ false = grind (arith, nat_tests) in
      sym (append-nil (f k)) ∙ ap (λ (b : Bool). f k ++ (if b then more else [])) (sym e)

  here : f c ++ more ≡ with_more c
  here = let e : (c == c) ≡ true = grind (arith, nat_tests) in ap (λ (b : Bool). f c ++ (if b then more else [])) (sym e)

  -- what is not among them
  same_outside : (a n : ℕ) → (c < a) ⊎ (a + n ≤ c) → map f (range_with_len a n) ≡ map with_more (range_with_len a n)
  same_outside a zero h = refl
  same_outside a (suc n) h =
      let other : c ≡ a → ⊥ = elim h [ inl p ↦ λ e. omega arith | inr p ↦ λ e. omega arith ] in
      let later : (c < a + 1) ⊎ (a + 1 + n ≤ c) = elim h [ inl p ↦ inl (omega arith) | inr p ↦ inr (omega arith) ] in
      ap (λ y. y ∷ map f (range_with_len (a + 1) n)) (elsewhere a other) ∙ ap (λ ys. with_more a ∷ ys) (same_outside (a + 1) n later)

  -- what is among them
  more_at : (a n k : ℕ) → c ≡ a + k → k < n → set (map f (range_with_len a n)) k (f c ++ more) ≡ map with_more (range_with_len a n)
  more_at a zero k e h = absurd (omega arith)
  more_at a (suc n) zero e h =
      let first : c ≡ a = omega arith in
      ap (λ y. y ∷ map f (range_with_len (a + 1) n)) (here ∙ ap with_more first) ∙ ap (λ ys. with_more a ∷ ys)
      (same_outside (a + 1) n (inl (omega arith)))
  more_at a (suc n) (suc k) e h =
      let other : c ≡ a → ⊥ = λ g. omega arith in
      ap (λ y. y ∷ set (map f (range_with_len (a + 1) n)) k (f c ++ more)) (elsewhere a other) ∙ ap (λ ys. with_more a ∷ ys)
      (more_at (a + 1) n k (omega arith) (omega arith))

module _ (first : ℕ) (x : TempId) (user : UserOf) (lists : List (List UserOf)) where
  abbrev own : TempId → List UserOf
  own t = if x.0 == t.0 then user ∷ [] else []

  pub pushed : (old new : List UserOf) → first ≤ x.0 → x.0 - first < length lists → old ≡ get_or lists (x.0 - first) old
      → new ≡ old ++ user ∷ [] → Gathers first own lists (set lists (x.0 - first) new)
  pushed old new low high e g f n are =
      let at = λ (k : ℕ). f (temp k) in
      let long : length lists ≡ n = ap length are ∙ length-map-range_with_len at first n in
      let lt : x.0 - first < n = omega (arith, long) in
      let there : old ≡ f x = e ∙ ap (λ xs. get_or xs (x.0 - first) old) are
      ∙ get_or-map-range_with_len at first n (x.0 - first) x.0 old lt (omega arith) in
      ap (λ xs. set xs (x.0 - first) new) are ∙ ap (set (map at (range_with_len first n)) (x.0 - first))
      (g ∙ ap (λ us. us ++ user ∷ []) there) ∙ more_at at x.0 (user ∷ []) first n (x.0 - first) (omega arith) lt

  pub unpushed : (x.0 < first) ⊎ (first + length lists ≤ x.0) → Gathers first own lists lists
  unpushed h f n are =
      let at = λ (k : ℕ). f (temp k) in
      let long : length lists ≡ n = ap length are ∙ length-map-range_with_len at first n in
      are ∙ same_outside at x.0 (user ∷ []) first n (elim h [ inl p ↦ inl p | inr p ↦ inr (omega (arith, long)) ])

-- ---- an alternative, an operand and an operation more

pub got : {A : Type 0} (xs : List A) (k : ℕ) (x : A) → k < length xs → x ≡ get_or xs k x → slice_get xs k ≡ Some x
got {A = A} xs k x below e = slice_get-get_or xs k x below ∙ ap (λ (y : A). Some y) (sym e)

get_map : {A B : Type 0} (f : A → B) (i : ℕ) (xs : List A) (x : A) → slice_get xs i ≡ Some x → slice_get (map f xs) i ≡ Some (f x)
get_map f i [] x h = absurd (cc h)
get_map f zero (y ∷ xs) x h = let e : y ≡ x = cc h in ap (λ z. Some (f z)) e
get_map f (suc i) (y ∷ xs) x h = get_map f i xs x h

-- the users among the alternatives of an operand with this choice
abbrev pub alts_users : Place → Option VarId → List TempId → TempId → List UserOf
alts_users p choice alts t = joined (places_from (user_if t p choice) 0 alts)

pub alts_more : (first : ℕ) (p : Place) (choice : Option VarId) (i : ℕ) (alts : List TempId) (x : TempId) (on : Act) (at : At) (value : ℕ)
    (a b c : List (List UserOf)) → Gathers first (alts_users p choice (take i alts)) a b
    → Gathers first (λ (t : TempId). let user : UserOf = record { on = on; at = at; choice = choice; value = value } in
    if x.0 == t.0 then user ∷ [] else []) b c
    → on ≡ act_of p → at ≡ time_of p → value ≡ i → slice_get alts i ≡ Some x → Gathers first (alts_users p choice (take (i + 1) alts)) a c
alts_more first p choice i alts x on at value a b c h g e k l q =
    let made = λ (u : Act). λ (v : At). λ (n : ℕ). λ (t : TempId).
    (let user : UserOf = record { on = u; at = v; choice = choice; value = n } in if x.0 == t.0 then user ∷ [] else []) in
    let one = subst (λ (u : Act). Gathers first (made u at value) b c) e g in
    let two = subst (λ (v : At). Gathers first (made (act_of p) v value) b c) k one in
    let three = subst (λ (n : ℕ). Gathers first (made (act_of p) (time_of p) n) b c) l two in
    gathers_more first (alts_users p choice (take i alts)) (λ (t : TempId). user_if t p choice i x)
    (alts_users p choice (take (i + 1) alts)) a b c h three (λ t. placed_next (user_if t p choice) i alts x q)

pub operands_more : (first : ℕ) (p : Place) (j : ℕ) (operands : List Operand) (operand : Operand) (choice : Option VarId)
    (a b c : List (List UserOf)) → Gathers first (λ (t : TempId). joined (places_from (operand_users t p) 0 (take j operands))) a b
    → Gathers first (alts_users p choice operand.alts) b c → choice ≡ slice_get p.vars.choices j → slice_get operands j ≡ Some operand
    → Gathers first (λ (t : TempId). joined (places_from (operand_users t p) 0 (take (j + 1) operands))) a c
operands_more first p j operands operand choice a b c h g e q =
    gathers_more first (λ (t : TempId). joined (places_from (operand_users t p) 0 (take j operands)))
    (λ (t : TempId). operand_users t p j operand) (λ (t : TempId). joined (places_from (operand_users t p) 0 (take (j + 1) operands)))
    a b c h (subst (λ (o : Option VarId). Gathers first (alts_users p o operand.alts) b c) e g)
    (λ t. placed_next (operand_users t p) j operands operand q)

pub spots_more : (first i : ℕ) (spots : List Spot) (p : Spot) (a b c : List (List UserOf))
    → Gathers first (users_of (take i (map place_of spots))) a b → Gathers first (λ (t : TempId). place_users t (place_of p)) b c
    → i < length spots → p ≡ get_or spots i p → Gathers first (users_of (take (i + 1) (map place_of spots))) a c
spots_more first i spots p a b c h g below e =
    gathers_more first (users_of (take i (map place_of spots))) (λ (t : TempId). place_users t (place_of p))
    (users_of (take (i + 1) (map place_of spots))) a b c h g
    (λ t. joined_next (place_users t) i (map place_of spots) (place_of p) (get_map place_of i spots p (got spots i p below e)))

pub spots_all : (first i : ℕ) (spots : List Spot) (a b : List (List UserOf)) → Gathers first (users_of (take i (map place_of spots))) a b
    → length spots ≤ i → Gathers first (users_of (map place_of spots)) a b
spots_all first i spots a b h le =
    let long = length-map spots place_of in
    subst (λ (ps : List Place). Gathers first (users_of ps) a b) (take_all i (map place_of spots) (omega (arith, long))) h

-- ---- lists that are looked up

pub span_among : (first count : ℕ) (f : TempId → List UserOf) (lists : List (List UserOf)) (one two : List TempId)
    → lists ≡ gathered first count f → one ≡ two → All (IsAmong first count) one → All (IsAmong first (length lists)) two
span_among first count f lists one two e a h =
    let long : count ≡ length lists = sym (ap length e ∙ length-map-range_with_len (λ (k : ℕ). f (temp k)) first count) in
    subst (λ (n : ℕ). All (IsAmong first n) two) long (subst (λ (ts : List TempId). All (IsAmong first count) ts) a h)

pub gathered_long : (first count : ℕ) (f : TempId → List UserOf) (lists : List (List UserOf)) → lists ≡ gathered first count f
    → lists ≡ gathered first (length lists) f
gathered_long first count f lists e =
    let long : count ≡ length lists = sym (ap length e ∙ length-map-range_with_len (λ (k : ℕ). f (temp k)) first count) in
    e ∙ ap (λ (n : ℕ). gathered first n f) long

pub users_at : (first n k : ℕ) (f : TempId → List UserOf) (lists : List (List UserOf)) (t : TempId) (users : List UserOf)
    → lists ≡ gathered first n f → slice_get lists k ≡ Some users → first + k ≡ t.0 → users ≡ f t
users_at first n k f lists t users e h m =
    range_at (λ (i : ℕ). f (temp i)) first n k users (ap (λ (ls : List (List UserOf)). slice_get ls k) (sym e) ∙ h)
    ∙ ap (λ (i : ℕ). f (temp i)) m

pub temp_made : (made : Temp) (d e : Definer) (us vs ws : List UserOf) → made ≡ temp_with d us → d ≡ e → us ≡ vs → vs ≡ ws
    → made ≡ temp_with e ws
temp_made made d e us vs ws h k l m = h ∙ ap (λ (x : Definer). temp_with x us) k ∙ ap (temp_with e) (l ∙ m)
