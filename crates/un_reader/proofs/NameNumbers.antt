-- Names by their numbers: names that are numbered, each at its first appearance, are numbered as their numbers are seen.
use Rattle.std.proofs.Common.{◌≡◌, ◌≢◌, ℕ, ◌+◌, ◌<◌, ◌⊎◌, inl, inr, ◌||◌, ◌++◌, Bool, true, false, nat_eq, List, [], ◌∷◌, map, length}
use Rattle.std.proofs.Common.{get_or, slice_get, unwrap_or, if◌then◌else◌, refl, sym, ap, ◌∙◌, arith, subst}
use Rattle.std.specs.List.{AllByRecursion as Each, AllPairs, list_any, fold, position_or_len, range_with_len}
use Rattle.std.proofs.lemmas.Bool.Decides.{nat_tests}
use Rattle.std.proofs.lemmas.List.{map_push, ext_get_or}
use Rattle.std.proofs.lemmas.List.Elements.{recursion_from_All as Each-from}
use Rattle.std.proofs.lemmas.List.FromFn.{length-map-range_with_len, get_or-map-range_with_len, get_or-range_with_len}
use Rattle.std.proofs.lemmas.List.FromFn.{length-range_with_len}
use Rattle.std.proofs.lemmas.List.Sums.{position_or_len_is}
use Rattle.std.proofs.lemmas.Option.{unwrap_or-slice_get}
use Rattle.un_faults.specs.Vocabulary.{NameId, General, Spelled}
use Rattle.un_ir.specs.Names.{see, first_appearances}
use Rattle.un_faults.specs.Before.{same_name, add_name, numbered}
use Rattle.un_reader.specs.Functions.{name_id}
use Rattle.un_words.proofs.Each.{Each-weaken, Each-append, Each-left, Each-right, Each-map, EachPair-AllPairs}
use Rattle.un_faults.proofs.FirstNames.{IsPlaced, name_itself, name_differs, in_numbered, name_placed, numbered_apart}

-- no name stands twice
abbrev pub AreDistinct : List Spelled → Type 0
AreDistinct names = AllPairs (λ (a b : Spelled). a ≢ b) names

-- the number is the place of a name
abbrev pub IsPlace : List Spelled → NameId → Type 0
IsPlace names name = name.0 < length names

-- the name at a place
abbrev at_place : List Spelled → ℕ → Spelled
at_place names n = get_or names n ([], General)

-- the name with a number
abbrev pub name_at : List Spelled → NameId → Spelled
name_at names name = unwrap_or (slice_get names name.0) ([], General)

abbrev AreBelow : ℕ → List ℕ → Type 0
AreBelow count ns = Each (λ (n : ℕ). n < count) ns

-- ---- the numbers that are seen are in range

found_below : (count m : ℕ) (seen : List ℕ) → list_any (nat_eq m) seen ≡ true → AreBelow count seen → m < count
found_below count m [] h all = absurd (cc h)
found_below count m (n ∷ seen) h all = by (nat_eq m n) refl h (λ e. found_below count m seen e all.1)
  where
    by : (v : Bool) → nat_eq m n ≡ v → (v || list_any (nat_eq m) seen) ≡ true → (list_any (nat_eq m) seen ≡ true → m < count) → m < count
    by true e hyp later = let low : n < count = all.0 in grind (arith, nat_tests)
    by false e hyp later = later hyp

see_below : (count : ℕ) (seen : List ℕ) (name : NameId) → AreBelow count (see seen name) → AreBelow count seen × (name.0 < count)
see_below count seen name h = by (list_any (nat_eq name.0) seen) refl h
  where
    by : (v : Bool) → list_any (nat_eq name.0) seen ≡ v → AreBelow count (if v then seen else seen ++ name.0 ∷ [])
        → AreBelow count seen × (name.0 < count)
    by true e hyp = (hyp, found_below count name.0 seen e hyp)
    by false e hyp =
        let P : ℕ → Type 0 = λ n. n < count in (Each-left P seen (name.0 ∷ []) hyp, (Each-right P seen (name.0 ∷ []) hyp).0)

seen_below : (count : ℕ) (seen : List ℕ) (xs : List NameId) → AreBelow count (fold see seen xs)
    → AreBelow count seen × Each (λ (x : NameId). x.0 < count) xs
seen_below count seen [] h = (h, tt)
seen_below count seen (x ∷ xs) h =
    let t = seen_below count (see seen x) xs h in let s = see_below count seen x t.0 in (s.0, (s.1, t.1))

range_below : (count : ℕ) → AreBelow count (range_with_len 0 count)
range_below count = Each-from (λ (n : ℕ). n < count) (range_with_len 0 count) (λ k d h.
    (let len = length-range_with_len 0 count in
    let got : get_or (range_with_len 0 count) k d ≡ 0 + k = get_or-range_with_len 0 count k d (omega arith) in
    omega (arith, len, got, h)))

see_stays : (count : ℕ) (seen : List ℕ) (name : NameId) → AreBelow count seen → name.0 < count → AreBelow count (see seen name)
see_stays count seen name all h = by (list_any (nat_eq name.0) seen)
  where
    by : (v : Bool) → AreBelow count (if v then seen else seen ++ name.0 ∷ [])
    by true = all
    by false = Each-append (λ (n : ℕ). n < count) seen (name.0 ∷ []) all (h, tt)

seen_stay : (count : ℕ) (seen : List ℕ) (xs : List NameId) → AreBelow count seen → Each (λ (x : NameId). x.0 < count) xs
    → AreBelow count (fold see seen xs)
seen_stay count seen [] all xs = all
seen_stay count seen (x ∷ more) all xs = seen_stay count (see seen x) more (see_stays count seen x all xs.0) xs.1

-- names whose numbers are each the next or an earlier one have places
pub numbers_placed : (names : List Spelled) (ids : List NameId) → first_appearances ids ≡ range_with_len 0 (length names)
    → Each (IsPlace names) ids
numbers_placed names ids h =
    (seen_below (length names) [] ids (subst (AreBelow (length names)) (sym h) (range_below (length names)))).1

-- ---- names are seen as their numbers are

module _ (names : List Spelled) (distinct : AreDistinct names) where
  spelled_is : (name : NameId) → name_at names name ≡ at_place names name.0
  spelled_is name = unwrap_or-slice_get names name.0 ([], General)

  -- names at two places are two names
  places_differ : (m n : ℕ) → m < length names → n < length names → m ≢ n → at_place names m ≢ at_place names n
  places_differ m n hm hn differ e = elim (lt_or m n differ) [
    | inl l ↦ distinct m n ([], General) l hn e
    | inr l ↦ distinct n m ([], General) l hm (sym e)
  ]
    where
      lt_or : (m n : ℕ) → m ≢ n → (m < n) ⊎ (n < m)
      lt_or m n h = grind (arith)

  same_places : (m n : ℕ) → m < length names → n < length names → same_name (at_place names m) (at_place names n) ≡ nat_eq m n
  same_places m n hm hn = by (nat_eq m n) refl
    where
      by : (v : Bool) → nat_eq m n ≡ v → same_name (at_place names m) (at_place names n) ≡ v
      by true e = let s : m ≡ n = grind (arith, nat_tests) in rw s (name_itself (at_place names n))
      by false e =
          let s : m ≢ n = grind (arith, nat_tests) in
          name_differs (at_place names m) (at_place names n) (places_differ m n hm hn s)

  -- the place of a spelled name
  pub place_back : (name : NameId) → IsPlace names name → name_id names (name_at names name) ≡ name
  place_back name h =
      let at : name_at names name ≡ at_place names name.0 = spelled_is name in
      let place : position_or_len (same_name (at_place names name.0)) names ≡ name.0 =
      position_or_len_is (same_name (at_place names name.0)) names name.0 ([], General) (omega arith)
      (λ k below. same_places name.0 k h (omega arith) ∙ differ k below)
      (λ below. name_itself (at_place names name.0)) in
      let make : ℕ → NameId = λ k. record { 0 = k } in
      rw at (ap make place)
    where
      differ : (k : ℕ) → k < name.0 → nat_eq name.0 k ≡ false
      differ k below = grind (arith, nat_tests)

  any_same : (m : ℕ) → m < length names → (seen : List ℕ) → AreBelow (length names) seen
      → list_any (same_name (at_place names m)) (map (at_place names) seen) ≡ list_any (nat_eq m) seen
  any_same m hm [] all = refl
  any_same m hm (n ∷ seen) all =
      let here = same_places m n hm all.0 in let later = any_same m hm seen all.1 in rw (here, later) refl

  add_is : (seen : List ℕ) (name : NameId) → AreBelow (length names) seen → IsPlace names name
      → add_name (map (at_place names) seen) (at_place names name.0) ≡ map (at_place names) (see seen name)
  add_is seen name all h = rw (any_same name.0 h seen all) (by (list_any (nat_eq name.0) seen))
    where
      by : (v : Bool)
          → (if v then map (at_place names) seen else map (at_place names) seen ++ at_place names name.0 ∷ [])
          ≡ map (at_place names) (if v then seen else seen ++ name.0 ∷ [])
      by true = refl
      by false = sym (map_push (at_place names) seen name.0)

  numbered_is : (seen : List ℕ) (xs : List NameId) → AreBelow (length names) seen → Each (IsPlace names) xs
      → numbered (map (at_place names) seen) (map (name_at names) xs) ≡ map (at_place names) (fold see seen xs)
  numbered_is seen [] all places = refl
  numbered_is seen (x ∷ xs) all places =
      let step : add_name (map (at_place names) seen) (name_at names x) ≡ map (at_place names) (see seen x) =
      rw (spelled_is x) (add_is seen x all places.0) in
      ap (λ (l : List Spelled). numbered l (map (name_at names) xs)) step
      ∙ numbered_is (see seen x) xs (see_stays (length names) seen x all places.0) places.1

  -- the names, place by place
  all_places : map (at_place names) (range_with_len 0 (length names)) ≡ names
  all_places =
      let len = length-map-range_with_len (at_place names) 0 (length names) in
      ext_get_or ([], General) (map (at_place names) (range_with_len 0 (length names))) names len
      (λ i h. get_or-map-range_with_len (at_place names) 0 (length names) i i ([], General) (omega arith) (omega arith))

  -- names with numbers that are each the next or an earlier one are numbered so
  pub names_first : (ids : List NameId) → first_appearances ids ≡ range_with_len 0 (length names)
      → numbered [] (map (name_at names) ids) ≡ names
  names_first ids h = numbered_is [] ids tt (numbers_placed names ids h) ∙ ap (map (at_place names)) h ∙ all_places

  same_numbers : (ms ns : List ℕ) → AreBelow (length names) ms → AreBelow (length names) ns
      → map (at_place names) ms ≡ map (at_place names) ns → ms ≡ ns
  same_numbers [] [] a b h = refl
  same_numbers [] (n ∷ ns) a b h = absurd (cc h)
  same_numbers (m ∷ ms) [] a b h = absurd (cc h)
  same_numbers (m ∷ ms) (n ∷ ns) a b h =
      let first : at_place names m ≡ at_place names n = cc h in
      let rest : map (at_place names) ms ≡ map (at_place names) ns = cc h in
      let later = same_numbers ms ns a.1 b.1 rest in
      let here = by (nat_eq m n) refl first in
      cc
    where
      by : (v : Bool) → nat_eq m n ≡ v → at_place names m ≡ at_place names n → m ≡ n
      by true e same = grind (arith, nat_tests)
      by false e same = let other : m ≢ n = grind (arith, nat_tests) in absurd (places_differ m n a.0 b.0 other same)

-- and names that are numbered have such numbers
module _ (xs : List Spelled) where
  abbrev names : List Spelled
  names = numbered [] xs

  abbrev ids : List NameId
  ids = map (name_id names) xs

  distinct : AreDistinct names
  distinct = EachPair-AllPairs (λ (a b : Spelled). a ≢ b) names (numbered_apart [] xs tt)

  placed : Each (λ (x : Spelled). IsPlaced (same_name x) x names) xs
  placed = Each-weaken (λ (x : Spelled). list_any (same_name x) names ≡ true) (λ (x : Spelled). IsPlaced (same_name x) x names)
      (λ x h. name_placed names x h) xs (in_numbered [] xs)

  places : Each (IsPlace names) ids
  places = Each-map (IsPlace names) (name_id names) xs (Each-weaken (λ (x : Spelled). IsPlaced (same_name x) x names)
      (λ (x : Spelled). IsPlace names (name_id names x)) (λ x p. p.below) xs placed)

  back : (ys : List Spelled) → Each (λ (x : Spelled). IsPlaced (same_name x) x names) ys
      → map (name_at names) (map (name_id names) ys) ≡ ys
  back [] p = refl
  back (y ∷ ys) p = let got = p.0.got in rw (got, back ys p.1) refl

  pub numbers_first : first_appearances ids ≡ range_with_len 0 (length names)
  numbers_first =
      same_numbers names distinct (first_appearances ids) (range_with_len 0 (length names)) (seen_stay (length names) [] ids tt places)
      (range_below (length names))
      (sym (numbered_is names distinct [] ids tt places) ∙ ap (numbered []) (back xs placed) ∙ sym (all_places names distinct))
