-- Where blocks lead and that their returns are alike: exactly where the whole of their lines has no fault.
use Rattle.std.proofs.Common.{◌≡◌, ◌≢◌, ℕ, zero, suc, ◌+◌, ◌<◌, ◌≤◌, ◌⊎◌, inl, inr, Bool, true, false, not, cond, nat_lt, List, [], ◌∷◌}
use Rattle.std.proofs.Common.{Option, Some, None, map, length, drop, slice_get, if◌then◌else◌, refl, sym, ap, ◌∙◌, arith, subst, add-one}
use Rattle.std.specs.List.{AllByRecursion as Each, list_any, fold, position, position_or_len, enumerate_from}
use Rattle.std.specs.Option.{option_map_or, option_and_then, option_or}
use Rattle.std.specs.Str.{bytes_eq}
use Rattle.std.proofs.lemmas.Bool.{not-false}
use Rattle.std.proofs.lemmas.Bool.Decides.{nat_tests}
use Rattle.std.proofs.lemmas.Slice.Eq.{bytes_eq-Decides}
use Rattle.un_faults.specs.Vocabulary.{Term, SourceBlock, TermLine, Jump, Branch, Ret, Line, Block}
use Rattle.un_faults.specs.Vocabulary.{Terminator, Spelled}
use Rattle.un_ir.specs.Live.{targets_of}
use Rattle.un_ir.specs.WellFormed.{gives_value, ReturnAlike}
use Rattle.un_faults.specs.Groups.{Group, term_of, grouped}
use Rattle.un_faults.specs.TextFaults.{later_block, last_block, ends_well, falls_off, jumps_outside, is_entry, jumps_to_entry}
use Rattle.un_faults.specs.TextFaults.{value_on_term, value_on, first_value, differs, returns_else, mixed_return}
use Rattle.un_reader.specs.Functions.{block_id, term_by, block_of}
use Rattle.un_words.proofs.Each.{Each-weaken, EachPair, EachPair-alike}
use Rattle.un_words.proofs.TokenFacts.{IfThere}
use Rattle.un_faults.proofs.FirstNames.{placed}

-- ---- a test that no element passes

place_bound : {X : Type 0} (p : X → Bool) (xs : List X) → position p xs ≡ None → length xs ≤ position_or_len p xs
place_bound p xs h = by (nat_lt (position_or_len p xs) (length xs)) refl h
  where
    by : (v : Bool) → nat_lt (position_or_len p xs) (length xs) ≡ v → cond v (Some (position_or_len p xs)) None ≡ None
        → length xs ≤ position_or_len p xs
    by true e hyp = absurd (cc hyp)
    by false e hyp = grind (arith, nat_tests)

none_before : {X : Type 0} (p : X → Bool) (xs : List X) → length xs ≤ position_or_len p xs → Each (λ (x : X). p x ≡ false) xs
none_before p [] h = tt
none_before p (x ∷ xs) h = by (p x) refl (none_before p xs)
  where
    by : (v : Bool) → p x ≡ v → (length xs ≤ position_or_len p xs → Each (λ (x : _). p x ≡ false) xs)
        → Each (λ (x : _). p x ≡ false) (x ∷ xs)
    by true e later = let k : position_or_len p (x ∷ xs) ≡ 0 = rw e refl in absurd (omega (arith, h, k))
    by false e later = let k : position_or_len p (x ∷ xs) ≡ 1 + position_or_len p xs = rw e refl in (e, later (omega (arith, h, k)))

pub none_passes : {X : Type 0} (p : X → Bool) (xs : List X) → position p xs ≡ None → Each (λ (x : X). p x ≡ false) xs
none_passes p xs h = none_before p xs (place_bound p xs h)

pub passes_none : {X : Type 0} (p : X → Bool) (xs : List X) → Each (λ (x : X). p x ≡ false) xs → position p xs ≡ None
passes_none p xs e = let past : nat_lt (length xs) (length xs) ≡ false = grind (arith, nat_tests) in rw (all xs e, past) refl
  where
    all : (ys : List _) → Each (λ y. p y ≡ false) ys → position_or_len p ys ≡ length ys
    all [] e = refl
    all (y ∷ ys) e = rw (e.0, all ys e.1) (omega arith)

-- ---- targets

-- the place of a block that is not the entry
abbrev pub IsInside : ℕ → ℕ → Type 0
IsInside count c = (0 < c) × (c < count)

module _ (labels : List (List ℕ)) where
  -- the label is that of a block that is not the entry
  abbrev pub IsTarget : List ℕ → Type 0
  IsTarget to = IsInside (length labels) (block_id labels to).0

  -- the target of a terminator, where it has one
  abbrev pub HasTarget : TermLine → Type 0
  HasTarget (Jump to) = IsTarget to
  HasTarget (Branch pred sense to) = IsTarget to
  HasTarget (Ret value) = Unit {0}

  -- no jump on the line leads outside or to the entry
  abbrev pub StaysInside : Line → Type 0
  StaysInside line = (jumps_outside labels line ≡ false) × (jumps_to_entry labels line ≡ false)

target_inside : (labels : List (List ℕ)) (to : List ℕ) → not (list_any (bytes_eq to) labels) ≡ false → is_entry labels to ≡ false
    → IsTarget labels to
target_inside [] to h e = absurd (cc h)
target_inside (entry ∷ labels) to h e = (
  rw e (omega arith),
  (placed (bytes_eq to) to (λ y is. (bytes_eq-Decides to y).0 is) (entry ∷ labels)
      (not-false (list_any (bytes_eq to) (entry ∷ labels)) h)).below,
)

label_there : (to : List ℕ) (labels : List (List ℕ)) → position_or_len (bytes_eq to) labels < length labels
    → list_any (bytes_eq to) labels ≡ true
label_there to [] low = absurd (omega arith)
label_there to (l ∷ labels) low = by (bytes_eq to l) refl low (label_there to labels)
  where
    by : (v : Bool) → bytes_eq to l ≡ v → position_or_len (bytes_eq to) (l ∷ labels) < length (l ∷ labels)
        → (position_or_len (bytes_eq to) labels < length labels → list_any (bytes_eq to) labels ≡ true)
        → list_any (bytes_eq to) (l ∷ labels) ≡ true
    by true e less later = rw e refl
    by false e less later = let further = rw e at less in rw (e, later (omega arith)) refl

inside_target : (labels : List (List ℕ)) (to : List ℕ) → IsTarget labels to
    → (not (list_any (bytes_eq to) labels) ≡ false) × (is_entry labels to ≡ false)
inside_target [] to h = absurd (omega arith)
inside_target (entry ∷ labels) to h = by (bytes_eq to entry) refl
  where
    by : (v : Bool) → bytes_eq to entry ≡ v → (not (list_any (bytes_eq to) (entry ∷ labels)) ≡ false) × (bytes_eq to entry ≡ false)
    by true e = let low = h.0 in let first = rw e at low in absurd (omega arith)
    by false e = (rw (label_there to (entry ∷ labels) h.1) refl, e)

module _ (labels : List (List ℕ)) where
  pub has_target : (term : TermLine) → StaysInside labels (Terminator term) → HasTarget labels term
  has_target (Jump to) h = target_inside labels to h.0 h.1
  has_target (Branch pred sense to) h = target_inside labels to h.0 h.1
  has_target (Ret value) h = tt

  pub stays_inside : (term : TermLine) → HasTarget labels term → StaysInside labels (Terminator term)
  stays_inside (Jump to) h = inside_target labels to h
  stays_inside (Branch pred sense to) h = inside_target labels to h
  stays_inside (Ret None) h = (refl, refl)
  stays_inside (Ret (Some name)) h = (refl, refl)

-- ---- the last block

-- the last of the blocks ends by a jump or a return
abbrev later_end : Bool → Group → Bool
later_end before g = ends_well g.term

abbrev pub last_ends : List Group → Bool
last_ends gs = fold later_end false gs

-- the place of the last block line, and how the block ends
record LastBlock (lines : List Line) : Type 0 where
  place : ℕ
  found : (n : ℕ) (last : Option ℕ) → fold later_block last (enumerate_from n lines) ≡ Some (n + place)
  ends : (v : Bool) → fold later_end v (grouped lines) ≡ ends_well (term_of (drop (suc place) lines))

record NoBlockLine (lines : List Line) : Type 0 where
  same : (n : ℕ) (last : Option ℕ) → fold later_block last (enumerate_from n lines) ≡ last
  none : grouped lines ≡ []

last_found : (lines : List Line) → NoBlockLine lines ⊎ LastBlock lines
last_found [] = inl (record { same = λ n last. refl; none = refl })
last_found (Block label freq ∷ lines) = elim (last_found lines) [
  | inl b ↦ inr (record {
    place = 0;
    found = λ n last. b.same (n + 1) (Some n) ∙ ap Some (omega arith);
    ends = λ v. rw b.none refl;
  })
  | inr l ↦ inr (record {
    place = suc l.place;
    found = λ n last. l.found (n + 1) (Some n) ∙ ap Some (omega arith);
    ends = λ v. l.ends (ends_well (term_of lines));
  })
]
last_found (_ ∷ lines) = elim (last_found lines) [
  | inl b ↦ inl (record { same = λ n last. b.same (n + 1) last; none = b.none })
  | inr l ↦ inr (record { place = suc l.place; found = λ n last. l.found (n + 1) last ∙ ap Some (omega arith); ends = l.ends })
]

-- the last block falls off exactly where it does not end by a jump or a return
falls_by : (lines : List Line) → LastBlock lines
    → falls_off lines ≡ option_and_then (λ (k : ℕ). if last_ends (grouped lines) then None else Some k) (last_block lines)
falls_by lines l =
    let there : last_block lines ≡ Some l.place = l.found 0 None ∙ ap Some (omega arith) in
    let rest : term_of (drop (l.place + 1) lines) ≡ term_of (drop (suc l.place) lines) = rw add-one refl in
    rw (there, rest, l.ends false) refl

pub last_well : (lines : List Line) → grouped lines ≢ [] → falls_off lines ≡ None → last_ends (grouped lines) ≡ true
last_well lines some h = elim (last_found lines) [
  | inl b ↦ absurd (some b.none)
  | inr l ↦ by l (last_ends (grouped lines)) refl
]
  where
    by : LastBlock lines → (v : Bool) → last_ends (grouped lines) ≡ v → v ≡ true
    by l true e = refl
    by l false e =
        let there : last_block lines ≡ Some l.place = l.found 0 None ∙ ap Some (omega arith) in
        let falls = sym (falls_by lines l) ∙ h in
        let some = rw (there, e) at falls in
        absurd (cc some)

pub well_last : (lines : List Line) → last_ends (grouped lines) ≡ true → falls_off lines ≡ None
well_last lines h = elim (last_found lines) [
  | inl b ↦ rw (b.same 0 None) refl
  | inr l ↦ falls_by lines l ∙ by (last_block lines)
]
  where
    by : (o : Option ℕ) → option_and_then (λ (k : ℕ). if last_ends (grouped lines) then None else Some k) o ≡ None
    by None = refl
    by (Some k) = rw h refl

-- ---- where blocks lead

module _ (names : List Spelled) (labels : List (List ℕ)) where
  -- the targets of the terminator of block b, where the next block is there unless it ends well
  term_leads : (b : ℕ) (term : Option TermLine) → IfThere (HasTarget labels) term → (ends_well term ≡ false → b + 1 < length labels)
      → Each (IsInside (length labels)) (targets_of b (term_by names labels term))
  term_leads b None t next = let n = next refl in ((omega arith, n), tt)
  term_leads b (Some (Jump to)) t next = (t, tt)
  term_leads b (Some (Branch pred sense to)) t next = let n = next refl in ((omega arith, n), (t, tt))
  term_leads b (Some (Ret value)) t next = tt

  leads_term : (b : ℕ) (term : Option TermLine) → Each (IsInside (length labels)) (targets_of b (term_by names labels term))
      → IfThere (HasTarget labels) term × (ends_well term ≡ false → b + 1 < length labels)
  leads_term b None l = (tt, λ e. l.0.1)
  leads_term b (Some (Jump to)) l = (l.0, λ e. absurd (cc e))
  leads_term b (Some (Branch pred sense to)) l = (l.1.0, λ e. l.0.1)
  leads_term b (Some (Ret value)) l = (tt, λ e. absurd (cc e))

  same_some : {X : Type 0} (x y : X) → Some x ≡ Some y → x ≡ y
  same_some x y e = cc e

  -- each of these blocks, of which the first is block b, leads to blocks that are not the entry
  abbrev pub AllLead : ℕ → List Group → Type 0
  AllLead b gs = (k : ℕ) (block : SourceBlock) → slice_get (map (block_of names labels) gs) k ≡ Some block
      → Each (IsInside (length labels)) (targets_of (b + k) block.term)

  pub blocks_lead : (b : ℕ) (gs : List Group) → b + length gs ≡ length labels → Each (λ (g : Group). IfThere (HasTarget labels) g.term) gs
      → (v : Bool) → fold later_end v gs ≡ true → AllLead b gs
  blocks_lead b [] count t v ends k block got = absurd (cc got)
  blocks_lead b (g ∷ gs) count t v ends zero block got =
      let same : block_of names labels g ≡ block = same_some (block_of names labels g) block got in
      let here : Each (IsInside (length labels)) (targets_of b (block_of names labels g).term) =
      term_leads b g.term t.0 (next gs count ends) in
      let place : b ≡ b + 0 = omega arith in
      subst (λ (n : ℕ). Each (IsInside (length labels)) (targets_of n block.term)) place
      (subst (λ (x : SourceBlock). Each (IsInside (length labels)) (targets_of b x.term)) same here)
    where
      next : (rest : List Group) → b + suc (length rest) ≡ length labels → fold later_end (ends_well g.term) rest ≡ true
          → ends_well g.term ≡ false → b + 1 < length labels
      next [] c e falls = absurd (cc (sym falls ∙ e))
      next (h ∷ rest) c e falls = omega arith
  blocks_lead b (g ∷ gs) count t v ends (suc k) block got =
      let place : b + 1 + k ≡ b + suc k = omega arith in
      subst (λ (n : ℕ). Each (IsInside (length labels)) (targets_of n block.term)) place
      (blocks_lead (b + 1) gs (omega (arith, count)) t.1 (ends_well g.term) ends k block got)

  pub lead_blocks : (b : ℕ) (gs : List Group) → b + length gs ≡ length labels → AllLead b gs
      → Each (λ (g : Group). IfThere (HasTarget labels) g.term) gs × ((v : Bool) → (length gs ≡ 0 → v ≡ true) → fold later_end v gs ≡ true)
  lead_blocks b [] count leads = (tt, λ v h. h refl)
  lead_blocks b (g ∷ gs) count leads =
      let place : b + 0 ≡ b = omega arith in
      let here = leads_term b g.term (subst (λ (n : ℕ). Each (IsInside (length labels)) (targets_of n (term_by names labels g.term))) place
      (leads 0 (block_of names labels g) refl)) in
      let later = lead_blocks (b + 1) gs (omega (arith, count)) (λ k block got.
      (let next : b + suc k ≡ b + 1 + k = omega arith in
      subst (λ (n : ℕ). Each (IsInside (length labels)) (targets_of n block.term)) next (leads (suc k) block got))) in
      ((here.0, later.0), λ v h. later.1 (ends_well g.term) (λ none. by (ends_well g.term) refl here.1 none))
    where
      by : (v : Bool) → ends_well g.term ≡ v → (ends_well g.term ≡ false → b + 1 < length labels) → length gs ≡ 0 → v ≡ true
      by true e next none = refl
      by false e next none = let low = next e in absurd (omega (arith, low, none, count))

-- ---- returns

-- a return on the line has a value exactly where v is true
abbrev pub AlikeWith : Bool → Line → Type 0
AlikeWith v line = (x : Bool) → value_on line ≡ Some x → x ≡ v

unlike_none : (v : Bool) (line : Line) → returns_else v line ≡ false → AlikeWith v line
unlike_none v line h x e = by v x (subst (λ (o : Option Bool). option_map_or (differs v) o false ≡ false) e h)
  where
    by : (v x : Bool) → differs v x ≡ false → x ≡ v
    by true true d = refl
    by false false d = refl
    by _ _ d = absurd (cc d)

none_unlike : (v : Bool) (line : Line) → AlikeWith v line → returns_else v line ≡ false
none_unlike v line a = by (value_on line) a
  where
    own : (v : Bool) → differs v v ≡ false
    own true = refl
    own false = refl

    by : (o : Option Bool) → ((x : Bool) → o ≡ Some x → x ≡ v) → option_map_or (differs v) o false ≡ false
    by None f = refl
    by (Some x) f = rw (f x refl) (own v)

no_value : (v : Bool) (lines : List Line) → first_value lines ≡ None → Each (AlikeWith v) lines
no_value v [] h = tt
no_value v (line ∷ lines) h = by (value_on line) refl h (no_value v lines)
  where
    by : (o : Option Bool) → value_on line ≡ o → option_or o (first_value lines) ≡ None
        → (first_value lines ≡ None → Each (AlikeWith v) lines) → Each (AlikeWith v) (line ∷ lines)
    by (Some x) e hyp later = absurd (cc hyp)
    by None e hyp later = (λ x f. absurd (cc (sym e ∙ f)), later hyp)

-- the returns on the lines are alike
pub record AllAlike (lines : List Line) : Type 0 where
  pub valued : Bool
  pub alike : Each (AlikeWith valued) lines

pub all_alike : (lines : List Line) → mixed_return lines ≡ None → AllAlike lines
all_alike lines h = by (first_value lines) refl h
  where
    by : (o : Option Bool) → first_value lines ≡ o → option_and_then (λ (v : Bool). position (returns_else v) lines) o ≡ None
        → AllAlike lines
    by None e hyp = record { valued = true; alike = no_value true lines e }
    by (Some v) e hyp =
        record {
          valued = v;
          alike = Each-weaken (λ (l : Line). returns_else v l ≡ false) (AlikeWith v) (unlike_none v) lines
              (none_passes (returns_else v) lines hyp);
        }

first_alike : (v : Bool) (lines : List Line) → Each (AlikeWith v) lines → (x : Bool) → first_value lines ≡ Some x → x ≡ v
first_alike v [] e x f = absurd (cc f)
first_alike v (l ∷ lines) e x f = by (value_on l) refl f
    (first_alike v lines e.1 x)
  where
    by : (o : Option Bool) → value_on l ≡ o → option_or o (first_value lines) ≡ Some x → (first_value lines ≡ Some x → x ≡ v) → x ≡ v
    by None g h later = later h
    by (Some y) g h later = e.0 x (g ∙ h)

pub alike_all : (lines : List Line) → AllAlike lines → mixed_return lines ≡ None
alike_all lines a = by (first_value lines) (first_alike a.valued lines a.alike)
  where
    by : (o : Option Bool) → ((x : Bool) → o ≡ Some x → x ≡ a.valued)
        → option_and_then (λ (v : Bool). position (returns_else v) lines) o ≡ None
    by None f = refl
    by (Some v) f =
        let same : v ≡ a.valued = f v refl in
        rw same (passes_none (returns_else a.valued) lines
        (Each-weaken (AlikeWith a.valued) (λ (l : Line). returns_else a.valued l ≡ false) (none_unlike a.valued) lines a.alike))

abbrev TermAlike : Bool → Term → Type 0
TermAlike v term = (x : Bool) → gives_value term ≡ Some x → x ≡ v

module _ (names : List Spelled) (labels : List (List ℕ)) where
  value_given : (term : TermLine) → gives_value (term_by names labels (Some term)) ≡ value_on_term term
  value_given (Ret None) = refl
  value_given (Ret (Some name)) = refl
  value_given _ = refl

  abbrev pub IsAlikeGroup : Bool → Group → Type 0
  IsAlikeGroup v g = IfThere (λ (t : TermLine). AlikeWith v (Terminator t)) g.term

  group_alike : (v : Bool) (g : Group) → IsAlikeGroup v g → TermAlike v (block_of names labels g).term
  group_alike v g = by g.term
    where
      by : (term : Option TermLine) → IfThere (λ (t : TermLine). AlikeWith v (Terminator t)) term → TermAlike v (term_by names labels term)
      by None a x e = absurd (cc e)
      by (Some term) a x e = a x (sym (value_given term) ∙ e)

  -- the returns of all blocks are alike
  pub blocks_alike : (v : Bool) (gs : List Group) → Each (IsAlikeGroup v) gs → EachPair ReturnAlike (map (block_of names labels) gs)
  blocks_alike v gs a = EachPair-alike (λ (b : SourceBlock). TermAlike v b.term) ReturnAlike (λ a b p q x y e f. p x e ∙ sym (q y f))
      (map (block_of names labels) gs) (all gs a)
    where
      all : (hs : List Group) → Each (IsAlikeGroup v) hs → Each (λ (b : SourceBlock). TermAlike v b.term) (map (block_of names labels) hs)
      all [] e = tt
      all (h ∷ hs) e = (group_alike v h e.0, all hs e.1)

  pub record AlikeGroups (gs : List Group) : Type 0 where
    pub valued : Bool
    pub alike : Each (IsAlikeGroup valued) gs

  -- and the other way
  pub alike_blocks : (gs : List Group) → EachPair ReturnAlike (map (block_of names labels) gs) → AlikeGroups gs
  alike_blocks [] p = record { valued = true; alike = tt }
  alike_blocks (g ∷ gs) p = by (gives_value (block_of names labels g).term) refl (alike_blocks gs p.1)
    where
      at : (v : Bool) (term : Option TermLine) → ((x : Bool) → gives_value (term_by names labels term) ≡ Some x → x ≡ v)
          → IfThere (λ (t : TermLine). AlikeWith v (Terminator t)) term
      at v None f = tt
      at v (Some term) f = λ x e. f x (value_given term ∙ e)

      each : (v : Bool) (hs : List Group) → gives_value (block_of names labels g).term ≡ Some v
          → Each (ReturnAlike (block_of names labels g)) (map (block_of names labels) hs) → Each (IsAlikeGroup v) hs
      each v [] e r = tt
      each v (h ∷ hs) e r = (at v h.term (λ x f. sym (r.0 v x e f)), each v hs e r.1)

      by : (o : Option Bool) → gives_value (block_of names labels g).term ≡ o → AlikeGroups gs → AlikeGroups (g ∷ gs)
      by None e later =
          record { valued = later.valued; alike = (at later.valued g.term (λ x f. absurd (cc (sym e ∙ f))), later.alike) }
      by (Some v) e later =
          record { valued = v; alike = (at v g.term (λ x f. let same : Some v ≡ Some x = sym e ∙ f in cc same), each v gs e p.0) }
