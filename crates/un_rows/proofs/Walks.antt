-- Loops of this crate: what is made so far, and what is made of the rest, are the whole.
use Rattle.std.proofs.Common.{ℕ, suc, ◌≡◌, ◌<◌, ◌≤◌, ◌+◌, ◌-◌, Bool, true, false, List, [], ◌∷◌, ◌++◌, length, map, drop, replicate}
use Rattle.std.proofs.Common.{All, refl, sym, ap, ◌∙◌, append_assoc, arith}
use Rattle.std.specs.Prelude.{Option, Some, None, slice_get, ◌&&◌, nat_lt, if◌then◌else◌}
use Rattle.std.specs.List.{AllByRecursion, range_with_len}
use Rattle.std.specs.Option.{option_map}
use Rattle.std.proofs.lemmas.Bool.Decides.{nat_tests}
use Rattle.std.proofs.lemmas.List.Elements.{All-from_recursion}
use Rattle.std.proofs.lemmas.Option.{slice_get-get_or}
use Rattle.std.proofs.Common.{get_or}
use Rattle.un_model.proofs.Steps.{drop_at, drop_past, append-nil, places_more}
use Rattle.un_model.specs.Pairs.{joined, places_from}
use Rattle.un_length.specs.Places.{Leads}
use Rattle.un_length.specs.declared.block.Precedence.{Precedence}
use Rattle.un_rows.specs.Drafts.{is_within, within, drafted_arcs}
use Rattle.un_rows.specs.Rows.{all_there}
use Rattle.un_rows.specs.declared.draft.Draft.{Draft}

pub got : {A : Type 0} (xs : List A) (k : ℕ) (x : A) → k < length xs → x ≡ get_or xs k x → slice_get xs k ≡ Some x
got {A = A} xs k x below e = slice_get-get_or xs k x below ∙ ap (λ (y : A). Some y) (sym e)

-- ---- the same so many times

times_next : {A : Type 0} (x : A) (many i : ℕ) → i < many → replicate (many - i) x ≡ x ∷ replicate (many - (i + 1)) x
times_next x many i lt = let next : many - i ≡ suc (many - (i + 1)) = omega (arith, lt) in ap (λ (n : ℕ). replicate n x) next

pub times_more : {A : Type 0} (x : A) (many i : ℕ) (made next whole : List A) → i < many → made ++ replicate (many - i) x ≡ whole
    → next ≡ made ++ x ∷ [] → next ++ replicate (many - (i + 1)) x ≡ whole
times_more {A} x many i made next whole lt h g =
    ap (λ (ys : List A). ys ++ replicate (many - (i + 1)) x) g ∙ append_assoc made (x ∷ []) (replicate (many - (i + 1)) x)
    ∙ (ap (λ (ys : List A). made ++ ys) (sym (times_next x many i lt)) ∙ h)

pub times_done : {A : Type 0} (x : A) (many i : ℕ) (made whole : List A) → many ≤ i → made ++ replicate (many - i) x ≡ whole → made ≡ whole
times_done {A} x many i made whole le h =
    let none : many - i ≡ 0 = omega (arith, le) in
    sym (append-nil made) ∙ ap (λ (n : ℕ). made ++ replicate n x) (sym none) ∙ h

-- ---- by places counted from a number

pub counted_more : {A B : Type 0} (f : ℕ → A → B) (n i : ℕ) (xs : List A) (x : A) (made whole next : List B) (y : B)
    → made ++ places_from f (n + i) (drop i xs) ≡ whole → slice_get xs i ≡ Some x → y ≡ f (n + i) x → next ≡ made ++ y ∷ []
    → next ++ places_from f (n + (i + 1)) (drop (i + 1) xs) ≡ whole
counted_more f n i xs x made whole next y h p e g =
    let same : n + (i + 1) ≡ n + i + 1 = omega arith in
    ap (λ (k : ℕ). next ++ places_from f k (drop (i + 1) xs)) same ∙ places_more f (n + i) i xs x made whole next y h p e g

-- ---- precedences between the first places

within_each : (n : ℕ) (arcs : List Precedence) → AllByRecursion (Leads n) (within n arcs)
within_each n [] = tt
within_each n (a ∷ arcs) = by (is_within n a) refl (within_each n arcs)
  where
    two : (b c : Bool) → nat_lt a.from n ≡ b → nat_lt a.to n ≡ c → (b && c) ≡ true → Leads n a
    two true true e f h = record { of_from = grind (arith, nat_tests, e); of_to = grind (arith, nat_tests, f) }
    two true false e f h = absurd (cc h)
    two false c e f h = absurd (cc h)

    by : (b : Bool) → is_within n a ≡ b → AllByRecursion (Leads n) (within n arcs)
        → AllByRecursion (Leads n) (if b then a ∷ within n arcs else within n arcs)
    by true e rest = (two (nat_lt a.from n) (nat_lt a.to n) refl refl e, rest)
    by false e rest = rest

lead_more : (n : ℕ) (xs ys : List Precedence) → AllByRecursion (Leads n) xs → AllByRecursion (Leads n) ys → AllByRecursion (Leads n) (xs ++ ys)
lead_more n [] ys h k = k
lead_more n (x ∷ xs) ys h k = (h.0, lead_more n xs ys h.1 k)

pub drafted_lead : (n : ℕ) (arcs : List Precedence) (d : Draft) → All (Leads n) (drafted_arcs n arcs d)
drafted_lead n arcs d = All-from_recursion _ _ (lead_more n (within n d.front) (within n arcs ++ within n d.back) (within_each n d.front)
    (lead_more n (within n arcs) (within n d.back) (within_each n arcs) (within_each n d.back)))

-- one more, where it is one of them
pub within_more : (n i : ℕ) (arcs : List Precedence) (a : Precedence) (made next whole : List Precedence) (b : Bool)
    → made ++ within n (drop i arcs) ≡ whole → slice_get arcs i ≡ Some a → is_within n a ≡ b
    → next ≡ (if b then made ++ a ∷ [] else made) → next ++ within n (drop (i + 1) arcs) ≡ whole
within_more n i arcs a made next whole true h p e g =
    ap (λ (ys : List Precedence). ys ++ within n (drop (i + 1) arcs)) g ∙ append_assoc made (a ∷ []) (within n (drop (i + 1) arcs))
    ∙ (ap (λ (ys : List Precedence). made ++ ys) (sym (ap (within n) (drop_at arcs i a p)
    ∙ ap (λ (c : Bool). if c then a ∷ within n (drop (i + 1) arcs) else within n (drop (i + 1) arcs)) e)) ∙ h)
within_more n i arcs a made next whole false h p e g =
    ap (λ (ys : List Precedence). ys ++ within n (drop (i + 1) arcs)) g
    ∙ (ap (λ (ys : List Precedence). made ++ ys) (sym (ap (within n) (drop_at arcs i a p)
    ∙ ap (λ (c : Bool). if c then a ∷ within n (drop (i + 1) arcs) else within n (drop (i + 1) arcs)) e)) ∙ h)

-- ---- rows

module _ {A B : Type 0} (f : A → Option B) (i : ℕ) (xs : List A) (x : A) (at : slice_get xs i ≡ Some x) where
  -- what is made so far of those that are there, and the rest
  abbrev pub Made : ℕ → List B → Option (List B) → Type 0
  Made k made whole = option_map (λ (ys : List B). made ++ ys) (all_there (map f (drop k xs))) ≡ whole

  pub all_stopped : (made : List B) (whole : Option (List B)) → f x ≡ None → Made i made whole → None ≡ whole
  all_stopped made whole none h =
      sym (ap (λ (zs : List A). option_map (λ (ys : List B). made ++ ys) (all_there (map f zs))) (drop_at xs i x at)
      ∙ ap (λ (y : Option B). option_map (λ (ys : List B). made ++ ys) (all_there (y ∷ map f (drop (i + 1) xs)))) none) ∙ h

  mapped : (made : List B) (y : B) (rest : Option (List B)) → option_map (λ (ys : List B). (made ++ y ∷ []) ++ ys) rest
      ≡ option_map (λ (ys : List B). made ++ ys) (option_map (λ (ys : List B). y ∷ ys) rest)
  mapped made y None = refl
  mapped made y (Some ys) = ap (λ (zs : List B). Some zs) (append_assoc made (y ∷ []) ys)

  pub all_more : (made next : List B) (whole : Option (List B)) (y : B) → f x ≡ Some y → next ≡ made ++ y ∷ [] → Made i made whole
      → Made (i + 1) next whole
  all_more made next whole y some g h =
      ap (λ (us : List B). option_map (λ (ys : List B). us ++ ys) (all_there (map f (drop (i + 1) xs)))) g
      ∙ mapped made y (all_there (map f (drop (i + 1) xs)))
      ∙ (sym (ap (λ (zs : List A). option_map (λ (ys : List B). made ++ ys) (all_there (map f zs))) (drop_at xs i x at)
      ∙ ap (λ (z : Option B). option_map (λ (ys : List B). made ++ ys) (all_there (z ∷ map f (drop (i + 1) xs)))) some) ∙ h)

pub all_first : {A B : Type 0} (f : A → Option B) (xs : List A)
    → option_map (λ (ys : List B). [] ++ ys) (all_there (map f xs)) ≡ all_there (map f xs)
all_first f xs = same (all_there (map f xs))
  where
    same : {C : Type 0} (zs : Option (List C)) → option_map (λ (ys : List C). [] ++ ys) zs ≡ zs
    same None = refl
    same (Some zs) = refl

pub all_done : {A B : Type 0} (f : A → Option B) (i : ℕ) (xs : List A) (made : List B) (whole : Option (List B)) → length xs ≤ i
    → option_map (λ (ys : List B). made ++ ys) (all_there (map f (drop i xs))) ≡ whole → Some made ≡ whole
all_done {A} {B} f i xs made whole le h =
    ap (λ (ys : List B). Some ys) (sym (append-nil made))
    ∙ (sym (ap (λ (zs : List A). option_map (λ (ys : List B). made ++ ys) (all_there (map f zs))) (drop_past i xs le)) ∙ h)

-- what f gives of each number up to one
range_next : (k past : ℕ) → k < past → range_with_len k (past - k) ≡ k ∷ range_with_len (k + 1) (past - (k + 1))
range_next k past lt = let next : past - k ≡ suc (past - (k + 1)) = omega (arith, lt) in ap (range_with_len k) next

pub range_more : {B : Type 0} (f : ℕ → List B) (k past : ℕ) (made next whole : List B) → k < past
    → made ++ joined (map f (range_with_len k (past - k))) ≡ whole → next ≡ made ++ f k
    → next ++ joined (map f (range_with_len (k + 1) (past - (k + 1)))) ≡ whole
range_more {B} f k past made next whole lt h g =
    let rest = joined (map f (range_with_len (k + 1) (past - (k + 1)))) in
    ap (λ (ys : List B). ys ++ rest) g ∙ append_assoc made (f k) rest
    ∙ (ap (λ (js : List ℕ). made ++ joined (map f js)) (sym (range_next k past lt)) ∙ h)

pub range_done : {B : Type 0} (f : ℕ → List B) (k past : ℕ) (made whole : List B) → past ≤ k
    → made ++ joined (map f (range_with_len k (past - k))) ≡ whole → made ≡ whole
range_done {B} f k past made whole le h =
    let none : past - k ≡ 0 = omega (arith, le) in
    sym (append-nil made) ∙ ap (λ (js : List ℕ). made ++ joined (map f js)) (sym (ap (range_with_len k) none)) ∙ h
