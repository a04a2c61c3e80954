-- What is posted of the calls of a block, as a loop over them adds it.
use Rattle.std.proofs.Common.{ℕ, ◌≡◌, ◌+◌, ◌≤◌, Bool, true, false, cond, List, [], ◌∷◌, ◌++◌, length, map, drop, All, refl, sym, ap}
use Rattle.std.proofs.Common.{◌∙◌, subst, append_assoc, arith}
use Rattle.std.specs.Prelude.{Option, Some, filter, not, slice_get, ◌||◌}
use Rattle.std.specs.List.{list_any}
use Rattle.std.proofs.lemmas.List.Elements.{All-push}
use Rattle.std.specs.Option.{option_map}
use Rattle.un_isa.specs.declared.table.Table.{Table}
use Rattle.un_model.specs.declared.model.Arc.{Arc}
use Rattle.un_model.specs.Pairs.{any_from, joined, places_from}
use Rattle.un_model.specs.Variables.{count_if}
use Rattle.un_lists.proofs.Lists.{slice_get-map, map-append, member_at}
use Rattle.un_model.proofs.Steps.{drop_at, drop_past}
use Rattle.un_sites.specs.CallBefores.{of_call, of_call_at, of_calls, count_from, is_between}
use Rattle.un_kinds.specs.Constraints.{Constraint}
use Rattle.un_sites.specs.Places.{Place}
use Rattle.un_ir.specs.Kinds.{is_call_kind}
use Rattle.un_sites.specs.Postings.{with_kind}
use Rattle.un_sites.specs.Rooms.{is_behind}
use Rattle.un_sites.specs.Sites.{place_of}
use Rattle.un_sites.specs.declared.sites.Spot.{Spot}
use Rattle.un_model.proofs.Readings.{all_member}
use Rattle.un_rooms.proofs.Spares.{filter_both}

-- the call at place i, as the code names the calls
abbrev pub spot_call : Table → List Arc → List Place → List Spot → ℕ → Spot → List Constraint
spot_call t arcs ps calls i c = of_call t arcs ps (option_map place_of (slice_get calls (i + 1))) (place_of c)

places_mapped : {A B C : Type 0} (h : ℕ → A → C) (f : ℕ → B → C) (g : A → B) (i : ℕ) (xs : List A)
    → ((k : ℕ) (x : A) → h k x ≡ f k (g x)) → places_from h i xs ≡ places_from f i (map g xs)
places_mapped h f g i [] same = refl
places_mapped h f g i (x ∷ xs) same =
    ap (λ ys. h i x ∷ ys) (places_mapped h f g (i + 1) xs same) ∙ ap (λ y. y ∷ places_from f (i + 1) (map g xs)) (same i x)

pub calls_are : (t : Table) (arcs : List Arc) (ps : List Place) (calls : List Spot)
    → joined (places_from (spot_call t arcs ps calls) 0 calls) ≡ of_calls t arcs ps (map place_of calls)
calls_are t arcs ps calls = ap joined
    (places_mapped (spot_call t arcs ps calls) (of_call_at t arcs ps (map place_of calls)) place_of 0 calls
    (λ k x. ap (λ (next : Option Place). of_call t arcs ps next (place_of x)) (sym (slice_get-map place_of calls (k + 1)))))

pub any_mapped : {A B : Type 0} (p : B → Bool) (f : A → B) (xs : List A) → list_any (λ x. p (f x)) xs ≡ list_any p (map f xs)
any_mapped p f [] = refl
any_mapped p f (x ∷ xs) = ap (λ (b : Bool). p (f x) || b) (any_mapped p f xs)

pub filter_alike : {A : Type 0} (p q : A → Bool) (xs : List A) → ((x : A) → p x ≡ q x) → filter p xs ≡ filter q xs
filter_alike p q [] same = refl
filter_alike p q (x ∷ xs) same =
    ap (λ (b : Bool). cond b (x ∷ filter p xs) (filter p xs)) (same x)
    ∙ ap (λ ys. cond (q x) (x ∷ ys) ys) (filter_alike p q xs same)

-- ---- operands that pass, as a loop finds or counts them

module _ {A : Type 0} (p : ℕ → A → Bool) (i : ℕ) (xs : List A) where
  pub any_next : (x : A) (whole : Bool) → any_from p i (drop i xs) ≡ whole → slice_get xs i ≡ Some x → p i x ≡ false
      → any_from p (i + 1) (drop (i + 1) xs) ≡ whole
  any_next x whole h g e =
      let rest = any_from p (i + 1) (drop (i + 1) xs) in
      let s : any_from p i (drop i xs) ≡ (p i x || rest) = ap (any_from p i) (drop_at xs i x g) in
      sym (ap (λ (b : Bool). b || rest) e) ∙ sym s ∙ h

  pub any_found : (x : A) (whole : Bool) → any_from p i (drop i xs) ≡ whole → slice_get xs i ≡ Some x → p i x ≡ true → true ≡ whole
  any_found x whole h g e =
      let rest = any_from p (i + 1) (drop (i + 1) xs) in
      let s : any_from p i (drop i xs) ≡ (p i x || rest) = ap (any_from p i) (drop_at xs i x g) in
      sym (ap (λ (b : Bool). b || rest) e) ∙ sym s ∙ h

  pub any_nowhere : (whole : Bool) → any_from p i (drop i xs) ≡ whole → length xs ≤ i → false ≡ whole
  any_nowhere whole h le = sym (ap (any_from p i) (drop_past i xs le)) ∙ h

  pub count_more : (x : A) (now next whole : ℕ) → now + count_from p i (drop i xs) ≡ whole → slice_get xs i ≡ Some x
      → next ≡ now + count_if (p i x) → next + count_from p (i + 1) (drop (i + 1) xs) ≡ whole
  count_more x now next whole h g e =
      let s : count_from p i (drop i xs) ≡ count_if (p i x) + count_from p (i + 1) (drop (i + 1) xs) =
      ap (count_from p i) (drop_at xs i x g) in
      omega (arith, h, s, e)

  pub count_all : (now whole : ℕ) → now + count_from p i (drop i xs) ≡ whole → length xs ≤ i → now ≡ whole
  count_all now whole h le =
      let s : count_from p i (drop i xs) ≡ 0 = ap (count_from p i) (drop_past i xs le) in omega (arith, h, s)

  pub count_yes : (x : A) (now next whole : ℕ) → (now + count_from p i (drop i xs) ≡ whole) × (now ≤ i) → slice_get xs i ≡ Some x
      → p i x ≡ true → next ≡ now + 1 → (next + count_from p (i + 1) (drop (i + 1) xs) ≡ whole) × (next ≤ i + 1)
  count_yes x now next whole h g t e =
      let z : count_if (p i x) ≡ 1 = ap count_if t in
      let le = h.1 in
      (count_more x now next whole h.0 g (omega (arith, e, z)), omega (arith, e, le))

  pub count_no : (x : A) (now next whole : ℕ) → (now + count_from p i (drop i xs) ≡ whole) × (now ≤ i) → slice_get xs i ≡ Some x
      → p i x ≡ false → next ≡ now → (next + count_from p (i + 1) (drop (i + 1) xs) ≡ whole) × (next ≤ i + 1)
  count_no x now next whole h g t e =
      let z : count_if (p i x) ≡ 0 = ap count_if t in
      let le = h.1 in
      (count_more x now next whole h.0 g (omega (arith, e, z)), omega (arith, e, le))

-- ---- calls, as a loop finds them

abbrev is_call_at : Place → Bool
is_call_at p = is_call_kind p.it.kind

filter_yes : {A : Type 0} (p : A → Bool) (x : A) (xs : List A) → p x ≡ true → filter p (x ∷ xs) ≡ x ∷ filter p xs
filter_yes p x xs h = rw h refl

filter_no : {A : Type 0} (p : A → Bool) (x : A) (xs : List A) → p x ≡ false → filter p (x ∷ xs) ≡ filter p xs
filter_no p x xs h = rw h refl

module _ (P : Spot → Type 0) (i : ℕ) (spots : List Spot) (p : Spot) (calls next : List Spot) (whole : List Place) where
  -- the calls that are found, and those of the rest, are all; each that is found is such a spot
  abbrev pub Finds : ℕ → List Spot → Type 0
  Finds k found = (map place_of found ++ with_kind is_call_kind (map place_of (drop k spots)) ≡ whole) × All P found

  pub call_more : Finds i calls → slice_get spots i ≡ Some p → All P spots → is_call_at (place_of p) ≡ true → next ≡ calls ++ p ∷ []
      → Finds (i + 1) next
  call_more h g known t e =
      let rest = with_kind is_call_kind (map place_of (drop (i + 1) spots)) in
      let s : with_kind is_call_kind (map place_of (drop i spots)) ≡ place_of p ∷ rest =
      ap (λ zs. with_kind is_call_kind (map place_of zs)) (drop_at spots i p g)
      ∙ filter_yes is_call_at (place_of p) (map place_of (drop (i + 1) spots)) t in (
        ap (λ ns. map place_of ns ++ rest) e ∙ ap (λ zs. zs ++ rest) (map-append place_of calls (p ∷ []))
            ∙ append_assoc (map place_of calls) (place_of p ∷ []) rest ∙ ap (λ zs. map place_of calls ++ zs) (sym s) ∙ h.0,
        subst (All P) (sym e) (All-push P calls p h.1 (all_member P spots p known (member_at spots i p g))),
      )

  pub call_same : Finds i calls → slice_get spots i ≡ Some p → is_call_at (place_of p) ≡ false → next ≡ calls → Finds (i + 1) next
  call_same h g t e =
      let rest = with_kind is_call_kind (map place_of (drop (i + 1) spots)) in
      let s : with_kind is_call_kind (map place_of (drop i spots)) ≡ rest =
      ap (λ zs. with_kind is_call_kind (map place_of zs)) (drop_at spots i p g)
      ∙ filter_no is_call_at (place_of p) (map place_of (drop (i + 1) spots)) t in (
        ap (λ ns. map place_of ns ++ rest) e ∙ ap (λ zs. map place_of calls ++ zs) (sym s) ∙ h.0,
        subst (All P) (sym e) h.1,
      )

-- ---- what is behind a call, but not behind the next one

pub between_is : (arcs : List Arc) (c d : Place) (next : Option Place) (ps behind seen rest : List Place) → next ≡ Some d
    → behind ≡ filter (is_behind arcs c) ps → seen ≡ behind → rest ≡ filter (λ (p : Place). not (is_behind arcs d p)) seen
    → rest ≡ filter (is_between arcs c next) ps
between_is arcs c d next ps behind seen rest n b s r =
    r ∙ ap (filter (λ (p : Place). not (is_behind arcs d p))) (s ∙ b)
    ∙ sym (filter_both (is_behind arcs c) (λ (p : Place). not (is_behind arcs d p)) ps)
    ∙ sym (ap (λ (next : Option Place). filter (is_between arcs c next) ps) n)
