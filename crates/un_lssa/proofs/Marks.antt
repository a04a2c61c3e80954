-- The names that are live where a block ends, by marks.
use Rattle.std.proofs.Common.{◌≡◌, ◌≢◌, ℕ, suc, ◌+◌, ◌<◌, ◌≤◌, ◌||◌, ◌++◌, Bool, true, false, nat_eq, List, [], ◌∷◌, map, filter, length}
use Rattle.std.proofs.Common.{set, drop, replicate, get_or, if◌then◌else◌, refl, sym, ap, ◌∙◌, arith, length-set}
use Rattle.std.specs.List.{range_with_len, list_any}
use Rattle.std.proofs.lemmas.Bool.{eqb-true}
use Rattle.std.proofs.lemmas.List.{drop_more, drop_all, get_or-set_same, get_or-set_other, length-replicate, get_or-replicate}
use Rattle.un_base.specs.declared.ids.NameId.{NameId}
use Rattle.un_ir.specs.declared.function.Term.{Term}
use Rattle.un_ir.specs.Live.{targets_of}
use Rattle.un_ir.specs.LinearOf.{live_at, is_among, name_of, live_after}
use Rattle.un_lssa.specs.Making.{marked_with, marked_at, names_of_marks}

abbrev at : List Bool → ℕ → Bool
at marks n = get_or marks n false

set_at : (marks : List Bool) (name n : ℕ) → n < length marks → at (set marks name true) n ≡ (nat_eq name n || at marks n)
set_at marks name n h = by (nat_eq name n) refl
  where
    by : (v : Bool) → nat_eq name n ≡ v → at (set marks name true) n ≡ (v || at marks n)
    by true e = let same : name ≡ n = eqb-true name n e in rw same (get_or-set_same marks n true false h)
    by false e = let other : n ≢ name = λ same. (let yes : nat_eq name n ≡ true = rw same (grind arith) in cc (sym e ∙ yes)) in
        get_or-set_other marks name n true false other

or_assoc : (a b c : Bool) → ((a || b) || c) ≡ (b || (a || c))
or_assoc true true c = refl
or_assoc true false c = refl
or_assoc false true c = refl
or_assoc false false c = refl

with_at : (marks : List Bool) (names : List NameId) (n : ℕ) → n < length marks
    → at (marked_with marks names) n ≡ (is_among names n || at marks n)
with_at marks [] n h = refl
with_at marks (name ∷ names) n h =
    let long : n < length (set marks name.0 true) = rw (length-set marks name.0 true) h in
    with_at (set marks name.0 true) names n long
    ∙ ap (λ (v : Bool). is_among names n || v) (set_at marks name.0 n h)
    ∙ sym (or_assoc (nat_eq name.0 n) (is_among names n) (at marks n))

with_length : (marks : List Bool) (names : List NameId) → length (marked_with marks names) ≡ length marks
with_length marks [] = refl
with_length marks (name ∷ names) = with_length (set marks name.0 true) names ∙ length-set marks name.0 true

pub at_length : (lists : List (List NameId)) (marks : List Bool) (cs : List ℕ) → length (marked_at lists marks cs) ≡ length marks
at_length lists marks [] = refl
at_length lists marks (c ∷ cs) = at_length lists (marked_with marks (live_at lists c)) cs ∙ with_length marks (live_at lists c)

at_at : (lists : List (List NameId)) (marks : List Bool) (cs : List ℕ) (n : ℕ) → n < length marks
    → at (marked_at lists marks cs) n ≡ (list_any (λ (c : ℕ). is_among (live_at lists c) n) cs || at marks n)
at_at lists marks [] n h = refl
at_at lists marks (c ∷ cs) n h =
    let long : n < length (marked_with marks (live_at lists c)) = rw (with_length marks (live_at lists c)) h in
    at_at lists (marked_with marks (live_at lists c)) cs n long
    ∙ ap (λ (v : Bool). list_any (λ (c : ℕ). is_among (live_at lists c) n) cs || v) (with_at marks (live_at lists c) n h)
    ∙ sym (or_assoc (is_among (live_at lists c) n) (list_any (λ (c : ℕ). is_among (live_at lists c) n) cs) (at marks n))

or_false : (a : Bool) → (a || false) ≡ a
or_false true = refl
or_false false = refl

-- names whose marks pass a test
names_filter : (p : ℕ → Bool) (k : ℕ) (marks : List Bool) → ((i : ℕ) → i < length marks → at marks i ≡ p (k + i))
    → names_of_marks k marks ≡ map name_of (filter p (range_with_len k (length marks)))
names_filter p k [] h = refl
names_filter p k (mark ∷ marks) h =
    let first : mark ≡ p k = h 0 (omega arith) ∙ ap p (let z : k + 0 ≡ k = omega arith in z) in
    let rest = names_filter p (k + 1) marks (λ i below. h (suc i) (omega arith) ∙ ap p (let z : k + suc i ≡ (k + 1) + i = omega arith in z))
    in
    rw (first, rest) (by (p k))
  where
    by : (v : Bool) → ((if v then name_of k ∷ [] else []) ++ map name_of (filter p (range_with_len (k + 1) (length marks))))
        ≡ map name_of (if v then k ∷ filter p (range_with_len (k + 1) (length marks)) else filter p (range_with_len (k + 1) (length marks)))
    by true = refl
    by false = refl

pub marks_live : (lists : List (List NameId)) (names b : ℕ) (term : Term) (marks : List Bool)
    → marks ≡ marked_at lists (replicate names false) (targets_of b term)
    → names_of_marks 0 marks ≡ live_after lists names b term
marks_live lists names b term marks is =
    let p : ℕ → Bool = λ (n : ℕ). list_any (λ (c : ℕ). is_among (live_at lists c) n) (targets_of b term) in
    let none = replicate names false in
    let all = marked_at lists none (targets_of b term) in
    let long : length all ≡ names = at_length lists none (targets_of b term) ∙ length-replicate names false in
    let each : (i : ℕ) → i < length all → at all i ≡ p (0 + i) = λ i h.
    (let below : i < names = rw (← long) h in
    let inside : i < length none = rw (length-replicate names false) below in
    let z : 0 + i ≡ i = omega arith in
    at_at lists none (targets_of b term) i inside ∙ ap (λ (v : Bool). p i || v) (get_or-replicate names i false false below)
    ∙ or_false (p i) ∙ ap p (sym z)) in
    ap (names_of_marks 0) is ∙ names_filter p 0 all each ∙ ap (λ (n : ℕ). map name_of (filter p (range_with_len 0 n))) long

-- ---- a loop over marks

pub mark_step : (marks : List Bool) (k : ℕ) (d : Bool) → k < length marks
    → names_of_marks k (drop k marks) ≡ (if get_or marks k d then name_of k ∷ [] else []) ++ names_of_marks (k + 1) (drop (k + 1) marks)
mark_step marks k d h = rw (drop_more marks k d h) refl

pub mark_end : (marks : List Bool) (k : ℕ) → length marks ≤ k → names_of_marks k (drop k marks) ≡ []
mark_end marks k h = rw (drop_all k marks h) refl
