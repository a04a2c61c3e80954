-- The lists of live names, made from the marks of each name.
use Rattle.std.proofs.Common.{◌≡◌, ◌⊎◌, inl, inr, ℕ, zero, suc, ◌+◌, ◌<◌, ◌≤◌, Bool, true, false, List, [], ◌∷◌, ◌++◌, Some, map, length}
use Rattle.std.proofs.Common.{drop, slice_get, get_or, All, AllPairs, Contains, if◌then◌else◌, refl, sym, ap, ◌∙◌, arith, subst}
use Rattle.std.specs.List.{range_with_len}
use Rattle.std.proofs.lemmas.List.{length_push, drop_more, drop_all}
use Rattle.std.proofs.lemmas.List.Elements.{All-nil, All-cons, All-weaker}
use Rattle.std.proofs.lemmas.List.FromFn.{length-map-range_with_len, get_or-map-range_with_len}
use Rattle.std.proofs.lemmas.Option.{slice_get_past, slice_get_within, slice_get-get_or}
use Rattle.un_base.specs.declared.ids.NameId.{NameId}
use Rattle.un_ir.specs.declared.function.Block.{Block}
use Rattle.un_ir.specs.Live.{IsLive, used, kept}
use Rattle.un_ir.specs.LinearOf.{AreLive, live_at}
use Rattle.un_live.specs.Marks.{marked, name_of, names_from, IsColumn, AreColumns}

-- ---- membership

contains_head : {X : Type 0} (x : X) (xs : List X) → Contains (x ∷ xs) x
contains_head x xs = (0, omega arith, refl)

contains_later : {X : Type 0} (x y : X) (xs : List X) → Contains xs y → Contains (x ∷ xs) y
contains_later x y xs h = (suc h.0, (let below = h.1 in omega arith), h.2)

contains_cases : {X : Type 0} (x y : X) (xs : List X) → Contains (x ∷ xs) y → (x ≡ y) ⊎ Contains xs y
contains_cases x y xs (zero, below, is) = inl is
contains_cases x y xs (suc k, below, is) = inr (k, omega arith, is)

-- ---- the names of a block

-- a name with its marks
record HasMarks (k : ℕ) (columns : List (List Bool)) (b : ℕ) (name : NameId) : Type 0 where
  place : ℕ
  marks : List Bool
  got : slice_get columns place ≡ Some marks
  number : name ≡ name_of (k + place)
  yes : marked marks b ≡ true

shift : (k j : ℕ) → name_of ((k + 1) + j) ≡ name_of (k + suc j)
shift k j = ap name_of (let e : (k + 1) + j ≡ k + suc j = omega arith in e)

names_marks : (k : ℕ) (columns : List (List Bool)) (b : ℕ) (name : NameId) → Contains (names_from k columns b) name
    → HasMarks k columns b name
names_marks k [] b name (i, below, is) = absurd (omega arith)
names_marks k (marks ∷ columns) b name has = by (names_marks (k + 1) columns b name) (marked marks b) refl has
  where
    later : HasMarks (k + 1) columns b name → HasMarks k (marks ∷ columns) b name
    later h = record { place = suc h.place; marks = h.marks; got = h.got; number = h.number ∙ shift k h.place; yes = h.yes }

    here : (v : Bool) → marked marks b ≡ v → v ≡ true → name_of k ≡ name → HasMarks k (marks ∷ columns) b name
    here v e t is = record {
      place = 0;
      marks = marks;
      got = refl;
      number = sym is
          ∙ ap name_of (let z : k ≡ k + 0 = omega arith in z);
      yes = e ∙ t;
    }

    by : (Contains (names_from (k + 1) columns b) name → HasMarks (k + 1) columns b name) → (v : Bool) → marked marks b ≡ v
        → Contains (if v then name_of k ∷ names_from (k + 1) columns b else names_from (k + 1) columns b) name
        → HasMarks k (marks ∷ columns) b name
    by ih true e has = elim (contains_cases (name_of k) name (names_from (k + 1) columns b) has) [
      | inl is ↦ here true e refl is
      | inr rest ↦ later (ih rest)
    ]
    by ih false e has = later (ih has)

marks_names : (k : ℕ) (columns : List (List Bool)) (b place : ℕ) (marks : List Bool) → slice_get columns place ≡ Some marks
    → marked marks b ≡ true
    → Contains (names_from k columns b) (name_of (k + place))
marks_names k [] b place marks got is = absurd (cc got)
marks_names k (own ∷ columns) b zero marks got is =
    let same : own ≡ marks = cc got in
    let here : marked own b ≡ true = rw same is in
    rw here (subst (λ (n : ℕ). Contains (name_of k ∷ names_from (k + 1) columns b) (name_of n)) (let z : k ≡ k + 0 = omega arith in z)
    (contains_head (name_of k) (names_from (k + 1) columns b)))
marks_names k (own ∷ columns) b (suc place) marks got is =
    by (subst (Contains (names_from (k + 1) columns b)) (shift k place) (marks_names (k + 1) columns b place marks got is)) (marked own b)
  where
    by : Contains (names_from (k + 1) columns b) (name_of (k + suc place)) → (v : Bool)
        → Contains (if v then name_of k ∷ names_from (k + 1) columns b else names_from (k + 1) columns b) (name_of (k + suc place))
    by rest true = contains_later (name_of k) (name_of (k + suc place)) (names_from (k + 1) columns b) rest
    by rest false = rest

-- ---- they rise

abbrev From : ℕ → NameId → Type 0
From k name = k ≤ name.0

names_above : (k : ℕ) (columns : List (List Bool)) (b : ℕ) → All (From k) (names_from k columns b)
names_above k [] b = All-nil (From k)
names_above k (marks ∷ columns) b =
    by (All-weaker (From (k + 1)) (From k) (λ x h. omega arith) (names_from (k + 1) columns b) (names_above (k + 1) columns b))
    (marked marks b)
  where
    by : All (From k) (names_from (k + 1) columns b) → (v : Bool)
        → All (From k) (if v then name_of k ∷ names_from (k + 1) columns b else names_from (k + 1) columns b)
    by rest true = All-cons (From k) (name_of k) (names_from (k + 1) columns b) (omega arith) rest
    by rest false = rest

abbrev Rises : List NameId → Type 0
Rises names = AllPairs (λ (m n : NameId). m.0 < n.0) names

rises_cons : (name : NameId) (names : List NameId) → All (From (name.0 + 1)) names → Rises names → Rises (name ∷ names)
rises_cons name names above rest zero zero d h below = absurd (omega arith)
rises_cons name names above rest zero (suc j) d h below = let r = above j d (omega arith) in omega (arith, r)
rises_cons name names above rest (suc i) zero d h below = absurd (omega arith)
rises_cons name names above rest (suc i) (suc j) d h below = rest i j d (omega arith) (omega arith)

none_rise : Rises []
none_rise i j d h below = absurd (omega arith)

names_rise : (k : ℕ) (columns : List (List Bool)) (b : ℕ) → Rises (names_from k columns b)
names_rise k [] b = none_rise
names_rise k (marks ∷ columns) b = by (names_rise (k + 1) columns b) (marked marks b)
  where
    by : Rises (names_from (k + 1) columns b) → (v : Bool)
        → Rises (if v then name_of k ∷ names_from (k + 1) columns b else names_from (k + 1) columns b)
    by rest true = rises_cons (name_of k) (names_from (k + 1) columns b) (names_above (k + 1) columns b) rest
    by rest false = rest

-- ---- all blocks

abbrev Lists : List (List Bool) → ℕ → List (List NameId)
Lists columns blocks = map (names_from 0 columns) (range_with_len 0 blocks)

within : (columns : List (List Bool)) (blocks b : ℕ) → b < blocks → live_at (Lists columns blocks) b ≡ names_from 0 columns b
within columns blocks b h =
    let long : b < length (Lists columns blocks) = rw (length-map-range_with_len (names_from 0 columns) 0 blocks) h in
    let got = slice_get-get_or (Lists columns blocks) b [] long in
    let is : get_or (Lists columns blocks) b [] ≡ names_from 0 columns b =
    get_or-map-range_with_len (names_from 0 columns) 0 blocks b b [] h (omega arith) in
    rw got is

past : (columns : List (List Bool)) (blocks b : ℕ) → blocks ≤ b → live_at (Lists columns blocks) b ≡ []
past columns blocks b h =
    let long : length (Lists columns blocks) ≤ b = rw (length-map-range_with_len (names_from 0 columns) 0 blocks) h in
    rw (slice_get_past (Lists columns blocks) b long) refl

live_block : (blocks : List Block) (name : NameId) (b k : ℕ) → IsLive blocks name b k → b < length blocks
live_block blocks name b k (used b2 k2 block g h has) = slice_get_within blocks b2 block g
live_block blocks name b k (kept b2 k2 block c l g h na nx live) = slice_get_within blocks b2 block g

cases : (b n : ℕ) → (b < n) ⊎ (n ≤ b)
cases zero zero = inr (omega arith)
cases zero (suc n) = inl (omega arith)
cases (suc b) zero = inr (omega arith)
cases (suc b) (suc n) = elim (cases b n) [ inl h ↦ inl (omega arith) | inr h ↦ inr (omega arith) ]

pub live_lists : (blocks : List Block) (names : ℕ) (columns : List (List Bool)) → AreColumns blocks names columns
    → ((name : NameId) (b : ℕ) → IsLive blocks name b 0 → name.0 < names) → AreLive blocks (Lists columns (length blocks))
live_lists blocks names columns are small = record {
  whole = length-map-range_with_len (names_from 0 columns) 0 (length blocks);
  rising = rising;
  exact = λ b name. (sound b name, complete b name);
}
  where
    rising : (b : ℕ) → Rises (live_at (Lists columns (length blocks)) b)
    rising b = elim (cases b (length blocks)) [
      | inl h ↦ subst Rises (sym (within columns (length blocks) b h)) (names_rise 0 columns b)
      | inr h ↦ subst Rises (sym (past columns (length blocks) b h)) none_rise
    ]

    zero_more : (n : ℕ) → name_of (0 + n) ≡ name_of n
    zero_more n = ap name_of (let z : 0 + n ≡ n = omega arith in z)

    from_marks : (b : ℕ) (name : NameId) → HasMarks 0 columns b name → IsLive blocks name b 0
    from_marks b name h =
        let column = are.each h.place h.marks h.got in
        let live = (column.exact b).0 h.yes in
        subst (λ (n : NameId). IsLive blocks n b 0) (sym (h.number ∙ zero_more h.place)) live

    none : (b : ℕ) (name : NameId) → Contains [] name → IsLive blocks name b 0
    none b name (k, below, is) = absurd (omega arith)

    sound : (b : ℕ) (name : NameId) → Contains (live_at (Lists columns (length blocks)) b) name → IsLive blocks name b 0
    sound b name has = elim (cases b (length blocks)) [
      | inl h ↦ from_marks b name (names_marks 0 columns b name (subst (λ (xs : List NameId). Contains xs name)
          (within columns (length blocks) b h) has))
      | inr h ↦ none b name (subst (λ (xs : List NameId). Contains xs name) (past columns (length blocks) b h) has)
    ]

    complete : (b : ℕ) (name : NameId) → IsLive blocks name b 0 → Contains (live_at (Lists columns (length blocks)) b) name
    complete b name live =
        let long : name.0 < length columns = rw are.whole (small name b live) in
        let marks = get_or columns name.0 [] in
        let got = slice_get-get_or columns name.0 [] long in
        let column = are.each name.0 marks got in
        let yes = (column.exact b).1 live in
        let has : Contains (names_from 0 columns b) name = subst (Contains (names_from 0 columns b)) (zero_more name.0)
        (marks_names 0 columns b name.0 marks got yes) in
        subst (λ (xs : List NameId). Contains xs name) (sym (within columns (length blocks) b (live_block blocks name b 0 live))) has

-- one more name
pub columns_more : (blocks : List Block) (names : ℕ) (columns : List (List Bool)) (marks : List Bool) → AreColumns blocks names columns
    → IsColumn blocks (name_of names) marks → AreColumns blocks (names + 1) (columns ++ marks ∷ [])
columns_more blocks names columns marks are column = record {
  whole = length_push columns marks ∙ ap (λ (n : ℕ). n + 1) are.whole;
  each = λ k own got. elim (push_cases columns marks k own got) [
    | inl old ↦ are.each k own old
    | inr new ↦ subst (λ (m : List Bool). IsColumn blocks (name_of k) m) new.1
        (subst (λ (n : ℕ). IsColumn blocks (name_of n) marks) (sym (new.0 ∙ are.whole)) column)
  ];
}
  where
    push_cases : (xs : List (List Bool)) (x : List Bool) (k : ℕ) (y : List Bool) → slice_get (xs ++ x ∷ []) k ≡ Some y
        → (slice_get xs k ≡ Some y) ⊎ ((k ≡ length xs) × (x ≡ y))
    push_cases [] x zero y e = inr (refl, cc e)
    push_cases [] x (suc k) y e = absurd (cc e)
    push_cases (z ∷ xs) x zero y e = inl e
    push_cases (z ∷ xs) x (suc k) y e = elim (push_cases xs x k y e) [ inl old ↦ inl old | inr new ↦ inr (ap suc new.0, new.1) ]

pub no_columns : (blocks : List Block) → AreColumns blocks 0 []
no_columns blocks = record { whole = refl; each = λ k marks got. absurd (cc got) }

-- the names of the columns from the one at place k on, name by name
pub names_step : (columns : List (List Bool)) (k b : ℕ) (d : List Bool) → k < length columns
    → names_from k (drop k columns) b ≡ (if marked (get_or columns k d) b then name_of k ∷ [] else []) ++
    names_from (k + 1) (drop (k + 1) columns) b
names_step columns k b d h = rw (drop_more columns k d h) (by (marked (get_or columns k d) b))
  where
    by : (v : Bool) → (if v then name_of k ∷ names_from (k + 1) (drop (k + 1) columns) b else names_from (k + 1) (drop (k + 1) columns) b)
        ≡ (if v then name_of k ∷ [] else []) ++ names_from (k + 1) (drop (k + 1) columns) b
    by true = refl
    by false = refl

pub names_end : (columns : List (List Bool)) (k b : ℕ) → length columns ≤ k → names_from k (drop k columns) b ≡ []
names_end columns k b h = rw (drop_all k columns h) refl

-- the same of lists and columns under other names
pub live_lists_at : (own blocks : List Block) (n names : ℕ) (columns : List (List Bool)) (lists : List (List NameId)) → own ≡ blocks
    → n ≡ names
    → AreColumns own n columns → lists ≡ map (names_from 0 columns) (range_with_len 0 (length own))
    → ((name : NameId) (b : ℕ) → IsLive blocks name b 0 → name.0 < names) → AreLive blocks lists
live_lists_at own blocks n names columns lists same count are is small =
    let there : AreColumns blocks names columns = subst (λ (bs : List Block). AreColumns bs names columns) same
    (subst (λ (k : ℕ). AreColumns own k columns) count are) in
    subst (AreLive blocks) (sym (is ∙ ap (λ (bs : List Block). Lists columns (length bs)) same))
    (live_lists blocks names columns there small)
