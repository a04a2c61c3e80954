-- Laws of the ends that are noted beside sets.
use Rattle.std.proofs.Common.{ℕ, ◌≡◌, ◌≢◌, ◌<◌, ◌≤◌, ◌+◌, ◌-◌, ◌*◌, ◌^◌, ◌⊎◌, Bool, true, false, not, List, [], ◌∷◌, ◌++◌}
use Rattle.std.proofs.Common.{length, get_or, set, filter, nat_eq, nat_lt, nat_le, Ok, Err, OnOk, OnErr, refl, sym, ap, ◌∙◌, subst, arith, inl, inr}
use Rattle.std.proofs.lemmas.List.{get_or_append_left, get_or-set_same, get_or-set_other, get_or-map, length-map, length-set, length_push, set-get_or}
use Rattle.std.proofs.Math.Seq.{get_or-append_seam}
use Rattle.std.proofs.lemmas.Bool.{cases_lt}
use Rattle.std.proofs.lemmas.Bool.Decides.{nat_tests}
use Rattle.std.specs.declared.result.Result.{Result}
use Rattle.std.specs.Result.{is_err}
use Rattle.un_domains.specs.Domains.{value_at, values_of, IsDomain}
use Rattle.un_domains.specs.Levels.{MarkedWords}
use Rattle.un_domains.specs.Sets.{Sets, set_at, has, least, greatest, NoneEmpty}
use Rattle.un_domains.specs.SetLaws.{same_or_not, least-le, has-fold_max}
use Rattle.un_domains.specs.OrderLaws.{filter_all, same_test, has_least, has_greatest}
use Rattle.un_domains.specs.ShapeLaws.{bounds_some, bounds_lt, least_value, greatest_value, laid_at, cut_store, cut_is}
use Rattle.un_domains.specs.ShapeLaws.{mark_store, undo_store, spread_all}
use Rattle.un_domains.specs.Shapes.{places_of, row_of, set_of, sets_of, IsLaid, IsStore, IsPlacesCut}
use Rattle.un_domains.specs.Noted.{AreEnds, AreNoted, AreNotedAll, IsNote, IsWhole}
use Rattle.un_domains.specs.Cuts.{Contents, IsCut}
use Rattle.un_domains.specs.declared.cut.Cut.{Cut}
use Rattle.un_domains.specs.declared.cut.Cut.TheVariants.{Same}
use Rattle.un_domains.specs.declared.shape.Shape.{Shape}

-- ---- the ends of a set in words

module _ (h : Shape) (ws : List ℕ) (laid : IsLaid ws h) (domain : IsDomain h.first) (lo end : ℕ)
    (lo_is : lo ≡ get_or ws h.at 0) (end_is : end ≡ get_or ws (h.at + 1) 0) where
  pub ends_of_none : lo ≡ end → AreEnds (set_of ws h) 1 0
  ends_of_none e = record {
    none = λ z. (refl, refl);
    some = λ some. absurd (let lt = bounds_lt h ws laid domain some in omega (arith, lt, e, lo_is, end_is));
    small = (omega arith, omega arith);
  }

  pub within_some : lo ≢ end → (lo < end) × (0 < length (set_of ws h))
  within_some ne =
      let order = laid.tight.order in
      let apart : get_or ws h.at 0 ≢ get_or ws (h.at + 1) 0 = λ e. ne (lo_is ∙ (e ∙ sym end_is)) in
      let some = bounds_some (row_of ws h.at h.n) (get_or ws h.at 0) (get_or ws (h.at + 1) 0) laid.tight apart in (
        omega (arith, order, lo_is, end_is, ne),
        omega (arith, some, length-map (places_of ws h.at h.n) (value_at h.first)),
      )

  pub ends_of_some : (a b : ℕ) → lo ≢ end → a ≡ value_at h.first lo → b ≡ value_at h.first (end - 1) → a < 2 ^ 32 → b < 2 ^ 32
      → AreEnds (set_of ws h) a b
  ends_of_some a b ne a_is b_is a_small b_small = record {
    none = λ z. absurd (let some = (within_some ne).1 in omega (arith, some, z));
    some = λ some. (
      a_is ∙ (ap (value_at h.first) lo_is ∙ sym (least_value h ws laid domain some)),
      b_is ∙ (ap (λ (n : ℕ). value_at h.first (n - 1)) end_is ∙ sym (greatest_value h ws laid domain some)),
    );
    small = (a_small, b_small);
  }

-- ---- noted in a list

pub noted_none : AreNoted [] []
noted_none = record { long = refl; each = λ v lt. absurd (omega (arith, lt)) }

pub noted_more : (s : Sets) (es : List ℕ) (xs : List ℕ) (a b : ℕ) → AreNoted s es → AreEnds xs a b
    → AreNoted (s ++ xs ∷ []) ((es ++ a ∷ []) ++ b ∷ [])
noted_more s es xs a b noted ends = record {
  long = omega (arith, noted.long, length_push (es ++ a ∷ []) b, length_push es a, length_push s xs);
  each = λ v lt. elim (cases_lt v (length s)) [
    | inl below ↦ old v below
    | inr above ↦ last v (omega (arith, above, lt, length_push s xs))
  ];
}
  where
    old : (v : ℕ) → v < length s
        → AreEnds (set_at (s ++ xs ∷ []) v) (get_or ((es ++ a ∷ []) ++ b ∷ []) (2 * v) 0) (get_or ((es ++ a ∷ []) ++ b ∷ []) (2 * v + 1) 0)
    old v below =
        let at : (j : ℕ) → j < length es → get_or ((es ++ a ∷ []) ++ b ∷ []) j 0 ≡ get_or es j 0 =
        λ j lt. get_or_append_left (es ++ a ∷ []) (b ∷ []) 0 j (omega (arith, lt, length_push es a))
        ∙ get_or_append_left es (a ∷ []) 0 j lt in
        rw (
          get_or_append_left s (xs ∷ []) [] v below,
          at (2 * v) (omega (arith, below, noted.long)),
          at (2 * v + 1) (omega (arith, below, noted.long)),
        ) (noted.each v below)

    last : (v : ℕ) → v ≡ length s
        → AreEnds (set_at (s ++ xs ∷ []) v) (get_or ((es ++ a ∷ []) ++ b ∷ []) (2 * v) 0) (get_or ((es ++ a ∷ []) ++ b ∷ []) (2 * v + 1) 0)
    last v is =
        let first : get_or ((es ++ a ∷ []) ++ b ∷ []) (2 * v) 0 ≡ a =
        ap (λ (j : ℕ). get_or ((es ++ a ∷ []) ++ b ∷ []) j 0) (let e : 2 * v ≡ length es = omega (arith, is, noted.long) in e)
        ∙ (get_or_append_left (es ++ a ∷ []) (b ∷ []) 0 (length es) (omega (arith, length_push es a))
        ∙ get_or-append_seam es a [] 0) in
        let second : get_or ((es ++ a ∷ []) ++ b ∷ []) (2 * v + 1) 0 ≡ b =
        ap (λ (j : ℕ). get_or ((es ++ a ∷ []) ++ b ∷ []) j 0)
        (let e : 2 * v + 1 ≡ length (es ++ a ∷ []) = omega (arith, is, noted.long, length_push es a) in e)
        ∙ get_or-append_seam (es ++ a ∷ []) b [] 0 in
        let here : set_at (s ++ xs ∷ []) v ≡ xs = ap (λ (j : ℕ). set_at (s ++ xs ∷ []) j) is ∙ get_or-append_seam s xs [] [] in
        rw (here, first, second) ends

pub is_note : (v : ℕ) (xs : List ℕ) (a b : ℕ) (old new : MarkedWords) → 2 * v + 1 < length old.words → AreEnds xs a b
    → new.words ≡ set (set old.words (2 * v) a) (2 * v + 1) b → new.marked ≡ old.marked → IsNote v xs old new
is_note v xs a b old new within ends written marked = record {
  long = ap length written ∙ (length-set (set old.words (2 * v) a) (2 * v + 1) b ∙ length-set old.words (2 * v) a);
  marked = marked;
  here = rw (first, second) ends;
  others = λ w ne. (
    at (2 * w) (λ e. ne (omega (arith, e))) (λ e. omega (arith, e)),
    at (2 * w + 1) (λ e. omega (arith, e)) (λ e. ne (omega (arith, e))),
  );
}
  where
    first : get_or new.words (2 * v) 0 ≡ a
    first = ap (λ (us : List ℕ). get_or us (2 * v) 0) written
        ∙ (get_or-set_other (set old.words (2 * v) a) (2 * v + 1) (2 * v) b 0 (λ e. omega (arith, e))
        ∙ get_or-set_same old.words (2 * v) a 0 (omega (arith, within)))

    second : get_or new.words (2 * v + 1) 0 ≡ b
    second = ap (λ (us : List ℕ). get_or us (2 * v + 1) 0) written
        ∙ get_or-set_same (set old.words (2 * v) a) (2 * v + 1) b 0 (omega (arith, within, length-set old.words (2 * v) a))

    at : (j : ℕ) → j ≢ 2 * v → j ≢ 2 * v + 1 → get_or new.words j 0 ≡ get_or old.words j 0
    at j ne ne' = ap (λ (us : List ℕ). get_or us j 0) written
        ∙ (get_or-set_other (set old.words (2 * v) a) (2 * v + 1) j b 0 ne' ∙ get_or-set_other old.words (2 * v) j a 0 ne)

-- ---- after a cut, a mark, a way back

pub noted_cut : (hs : List Shape) (ws us es fs : MarkedWords) (v : ℕ) (h : Shape) (left : List ℕ) → v < length hs → h ≡ get_or hs v h
    → AreNotedAll hs ws es → sets_of hs us.words ≡ set (sets_of hs ws.words) v left → us.marked ≡ ws.marked
    → IsNote v (set_of us.words h) es fs → AreNotedAll hs us fs
noted_cut hs ws us es fs v h left below at noted sets marked note = record {
  now = record {
    long = omega (arith, note.long, noted.now.long, length-map hs (set_of us.words), length-map hs (set_of ws.words));
    each = λ w lt. elim (same_or_not w v) [ inl e ↦ here w e | inr ne ↦ away w ne lt ];
  };
  deep = ap length note.marked ∙ (noted.deep ∙ ap length (sym marked));
  before = λ i lt. subst (λ (m : List (List ℕ)). AreNoted (sets_of hs (get_or m i [])) (get_or fs.marked i [])) (sym marked)
      (subst (λ (m : List (List ℕ)). AreNoted (sets_of hs (get_or ws.marked i [])) (get_or m i [])) (sym note.marked)
      (noted.before i (let e = ap length marked in omega (arith, lt, e))));
}
  where
    here : (w : ℕ) → w ≡ v → AreEnds (set_at (sets_of hs us.words) w) (get_or fs.words (2 * w) 0) (get_or fs.words (2 * w + 1) 0)
    here w e =
        let mine : set_at (sets_of hs us.words) v ≡ set_of us.words h =
        get_or-map (set_of us.words) hs v h [] below ∙ ap (set_of us.words) (sym at) in
        subst (λ (u : ℕ). AreEnds (set_at (sets_of hs us.words) u) (get_or fs.words (2 * u) 0) (get_or fs.words (2 * u + 1) 0)) (sym e)
        (subst (λ (xs : List ℕ). AreEnds xs (get_or fs.words (2 * v) 0) (get_or fs.words (2 * v + 1) 0)) (sym mine) note.here)

    away : (w : ℕ) → w ≢ v → w < length (sets_of hs us.words)
        → AreEnds (set_at (sets_of hs us.words) w) (get_or fs.words (2 * w) 0) (get_or fs.words (2 * w + 1) 0)
    away w ne lt =
        let same : set_at (sets_of hs us.words) w ≡ set_at (sets_of hs ws.words) w =
        ap (λ (s : Sets). set_at s w) sets ∙ get_or-set_other (sets_of hs ws.words) v w left [] ne in
        let o = note.others w ne in
        rw (same, o.0, o.1) (noted.now.each w (omega (arith, lt, length-map hs (set_of us.words), length-map hs (set_of ws.words))))

pub noted_mark : (hs : List Shape) (ws us es fs : MarkedWords) → AreNotedAll hs ws es
    → us.marked ≡ ws.marked ++ ws.words ∷ [] → us.words ≡ ws.words → fs.marked ≡ es.marked ++ es.words ∷ [] → fs.words ≡ es.words
    → AreNotedAll hs us fs
noted_mark hs ws us es fs noted marked words marked' words' = record {
  now = subst (λ (x : List ℕ). AreNoted (sets_of hs x) fs.words) (sym words) (subst (AreNoted (sets_of hs ws.words)) (sym words') noted.now);
  deep = let a = ap length marked in let b = ap length marked' in
      omega (arith, a, b, length_push ws.marked ws.words, length_push es.marked es.words, noted.deep);
  before = λ i lt. elim (cases_lt i (length ws.marked)) [
    | inl below ↦ by i (set_old i below) (old_noted i below) (noted.before i below)
    | inr above ↦ (let e : i ≡ length ws.marked = (let a = ap length marked in omega (arith, above, lt, a, length_push ws.marked ws.words)) in
        by_last i (ap (λ (j : ℕ). get_or us.marked j []) e
        ∙ (ap (λ (m : List (List ℕ)). get_or m (length ws.marked) []) marked ∙ get_or-append_seam ws.marked ws.words [] []))
        (ap (λ (j : ℕ). get_or fs.marked j []) (let e' : i ≡ length es.marked = omega (arith, e, noted.deep) in e')
        ∙ (ap (λ (m : List (List ℕ)). get_or m (length es.marked) []) marked' ∙ get_or-append_seam es.marked es.words [] [])))
  ];
}
  where
    set_old : (i : ℕ) → i < length ws.marked → get_or us.marked i [] ≡ get_or ws.marked i []
    set_old i below = ap (λ (m : List (List ℕ)). get_or m i []) marked ∙ get_or_append_left ws.marked (ws.words ∷ []) [] i below

    old_noted : (i : ℕ) → i < length ws.marked → get_or fs.marked i [] ≡ get_or es.marked i []
    old_noted i below = ap (λ (m : List (List ℕ)). get_or m i []) marked'
        ∙ get_or_append_left es.marked (es.words ∷ []) [] i (omega (arith, below, noted.deep))

    by : (i : ℕ) → get_or us.marked i [] ≡ get_or ws.marked i [] → get_or fs.marked i [] ≡ get_or es.marked i []
        → AreNoted (sets_of hs (get_or ws.marked i [])) (get_or es.marked i [])
        → AreNoted (sets_of hs (get_or us.marked i [])) (get_or fs.marked i [])
    by i a b n = rw (a, b) n

    by_last : (i : ℕ) → get_or us.marked i [] ≡ ws.words → get_or fs.marked i [] ≡ es.words
        → AreNoted (sets_of hs (get_or us.marked i [])) (get_or fs.marked i [])
    by_last i a b = rw (a, b) noted.now

pub noted_undo : (hs : List Shape) (ws us es fs : MarkedWords) → AreNotedAll hs ws es
    → ws.marked ≡ us.marked ++ us.words ∷ [] → es.marked ≡ fs.marked ++ fs.words ∷ [] → AreNotedAll hs us fs
noted_undo hs ws us es fs noted marked marked' = record {
  now =
      let n = noted.before (length us.marked) (omega (arith, whole, length_push us.marked us.words)) in
      rw (sym here, sym here') n;
  deep = deep;
  before = λ i lt.
      let n = noted.before i (omega (arith, whole, length_push us.marked us.words, lt)) in
      let a : get_or ws.marked i [] ≡ get_or us.marked i [] =
      ap (λ (m : List (List ℕ)). get_or m i []) marked ∙ get_or_append_left us.marked (us.words ∷ []) [] i lt in
      let b : get_or es.marked i [] ≡ get_or fs.marked i [] =
      ap (λ (m : List (List ℕ)). get_or m i []) marked' ∙ get_or_append_left fs.marked (fs.words ∷ []) [] i (omega (arith, lt, deep)) in
      rw (sym a, sym b) n;
}
  where
    whole : length ws.marked ≡ length (us.marked ++ us.words ∷ [])
    whole = ap length marked

    deep : length fs.marked ≡ length us.marked
    deep = let a = ap length marked' in
        omega (arith, whole, a, length_push us.marked us.words, length_push fs.marked fs.words, noted.deep)

    here : get_or ws.marked (length us.marked) [] ≡ us.words
    here = ap (λ (m : List (List ℕ)). get_or m (length us.marked) []) marked ∙ get_or-append_seam us.marked us.words [] []

    here' : get_or es.marked (length us.marked) [] ≡ fs.words
    here' = ap (λ (j : ℕ). get_or es.marked j []) (sym deep)
        ∙ (ap (λ (m : List (List ℕ)). get_or m (length fs.marked) []) marked' ∙ get_or-append_seam fs.marked fs.words [] [])

-- ---- what they say

pub one_end : (xs : List ℕ) → length xs ≡ 1 → least xs ≡ greatest xs
one_end [] e = absurd (omega (arith, e))
one_end (y ∷ []) e = omega arith
one_end (y ∷ z ∷ xs) e = absurd (omega (arith, e))

pub ends_single : (xs : List ℕ) (a b : ℕ) → AreEnds xs a b → (1 < length xs → least xs < greatest xs)
    → nat_eq a b ≡ nat_eq (length xs) 1
ends_single xs a b ends spread = same_test (nat_eq a b) (nat_eq (length xs) 1)
    (λ h. let e : a ≡ b = grind (arith, nat_tests) in let one : length xs ≡ 1 = forth e in grind (arith, nat_tests, one))
    (λ h. let e : length xs ≡ 1 = grind (arith, nat_tests) in
    let s = ends.some (omega (arith, e)) in
    let same : a ≡ b = s.0 ∙ (one_end xs e ∙ sym s.1) in grind (arith, nat_tests, same))
  where
    forth : a ≡ b → length xs ≡ 1
    forth e = elim (cases_lt 1 (length xs)) [
      | inl two ↦ absurd (let s = ends.some (omega (arith, two)) in let lt = spread two in omega (arith, s.0, s.1, lt, e))
      | inr few ↦ elim (cases_lt 0 (length xs)) [
        | inl some ↦ omega (arith, some, few)
        | inr none ↦ absurd (let z = ends.none (omega (arith, none)) in omega (arith, z.0, z.1, e))
      ]
    ]

some_of_has : (xs : List ℕ) (x : ℕ) → has xs x ≡ true → 0 < length xs
some_of_has [] x h = absurd (cc h)
some_of_has (y ∷ ys) x h = omega arith

pub outside_ends : (xs : List ℕ) (a b x : ℕ) → AreEnds xs a b → (x < a) ⊎ (b < x) → has xs x ≡ false
outside_ends xs a b x ends out = by (has xs x) refl
  where
    by : (t : Bool) → has xs x ≡ t → has xs x ≡ false
    by false e = e
    by true e =
        let s = ends.some (some_of_has xs x e) in
        let low = least-le xs x e in
        let high = has-fold_max 0 xs x e in
        absurd (elim out [ inl lt ↦ omega (arith, lt, low, s.0) | inr gt ↦ omega (arith, gt, high, s.1) ])

pub end_has : (xs : List ℕ) (a b x : ℕ) → AreEnds xs a b → a ≤ x → x ≤ b → (x ≡ a) ⊎ (x ≡ b) → has xs x ≡ true
end_has xs a b x ends low high is = elim (cases_lt 0 (length xs)) [
  | inl some ↦ (let s = ends.some some in elim is [
    | inl e ↦ subst (λ (k : ℕ). has xs k ≡ true) (sym (e ∙ s.0)) (has_least xs some)
    | inr e ↦ subst (λ (k : ℕ). has xs k ≡ true) (sym (e ∙ s.1)) (has_greatest xs some)
  ])
  | inr none ↦ absurd (let z = ends.none (omega (arith, none)) in omega (arith, z.0, z.1, low, high))
]

-- ---- a whole store

-- one variable
module _ (hs : List Shape) (ws es : MarkedWords) (whole : IsWhole hs ws es) (s : Sets) (view : sets_of hs ws.words ≡ s) (v : ℕ)
    (below : v < length s) where
  pub ends_there : 2 * v + 1 < length es.words
  ends_there = let noted = whole.noted.now in let e = ap length view in omega (arith, noted.long, below, e)

  pub ends_are : AreEnds (set_at s v) (get_or es.words (2 * v) 0) (get_or es.words (2 * v + 1) 0)
  ends_are =
      let noted = whole.noted.now in
      let e = ap length view in
      subst (λ (t : Sets). AreEnds (set_at t v) (get_or es.words (2 * v) 0) (get_or es.words (2 * v + 1) 0)) view
      (noted.each v (omega (arith, below, e)))

  pub single_by_ends : nat_eq (get_or es.words (2 * v) 0) (get_or es.words (2 * v + 1) 0) ≡ nat_eq (length (set_at s v)) 1
  single_by_ends = ends_single (set_at s v) (get_or es.words (2 * v) 0) (get_or es.words (2 * v + 1) 0) ends_are
      (subst (λ (t : Sets). 1 < length (set_at t v) → least (set_at t v) < greatest (set_at t v)) view
      (spread_all hs ws.words ws.marked whole.store v))

-- a cut of one variable, and its ends noted
module _ (hs : List Shape) (ws us es : MarkedWords) (whole : IsWhole hs ws es) (v : ℕ) (h : Shape) (below : v < length hs)
    (at : h ≡ get_or hs v h) (q p : ℕ → Bool) (answer : Cut)
    (agree : (i : ℕ) → i < length (values_of h.first) → q i ≡ p (value_at h.first i)) (cut : IsPlacesCut q h.at h.n ws us answer) where
  after : IsStore hs us.words us.marked
  after = cut_store hs ws.words us.words ws.marked us.marked whole.store v h below at q p answer agree cut

  pub laid_after : (words : List ℕ) → words ≡ us.words → IsLaid words h
  laid_after words is = subst (λ (x : List ℕ). IsLaid x h) (sym is) (laid_at hs us.words us.marked after v h below at)

  pub whole_after : (fs : MarkedWords) (words : List ℕ) → words ≡ us.words → IsNote v (set_of words h) es fs → IsWhole hs us fs
  whole_after fs words is note =
      let c = cut_is hs ws.words us.words ws.marked us.marked whole.store v h below at q p answer agree cut in
      record {
        store = after;
        noted = noted_cut hs ws us es fs v h (filter p (set_at (sets_of hs ws.words) v)) below at whole.noted c.sets cut.marked
            (subst (λ (x : List ℕ). IsNote v (set_of x h) es fs) is note);
      }

pub whole_mark : {X E : Type 0} (hs : List Shape) (ws us es fs : MarkedWords) (r : Result X E) → IsWhole hs ws es
    → OnOk r (us.marked ≡ ws.marked ++ ws.words ∷ []) → us.words ≡ ws.words → OnErr r (us ≡ ws) → is_err r ≡ false
    → fs.marked ≡ es.marked ++ es.words ∷ [] → fs.words ≡ es.words → NoneEmpty (sets_of hs ws.words) → length ws.marked + 1 < 2 ^ 32
    → IsWhole hs us fs
whole_mark {E = E} hs ws us es fs (Ok x) whole ok words err fine marked' words' live few = record {
  store = mark_store {E = E} hs ws us (Ok x) ok words err live few whole.store;
  noted = noted_mark hs ws us es fs whole.noted ok words marked' words';
}
whole_mark hs ws us es fs (Err e) whole ok words err fine marked' words' live few = absurd (cc fine)

pub whole_undo : (hs : List Shape) (ws us es fs : MarkedWords) → IsWhole hs ws es
    → ws.marked ≡ us.marked ++ us.words ∷ [] → es.marked ≡ fs.marked ++ fs.words ∷ [] → IsWhole hs us fs
whole_undo hs ws us es fs whole marked marked' = record {
  store = (undo_store hs ws us marked whole.store).0;
  noted = noted_undo hs ws us es fs whole.noted marked marked';
}

-- ---- cuts that lose nothing

-- all values that are there pass
same_cut : (p : ℕ → Bool) (v : ℕ) (c : Contents) → v < length c.sets → 0 < length (set_at c.sets v)
    → ((y : ℕ) → has (set_at c.sets v) y ≡ true → p y ≡ true) → IsCut p v c c Same
same_cut p v c below some passes = record {
  sets = sym (ap (set c.sets v) (filter_all (set_at c.sets v) p passes) ∙ set-get_or c.sets v []);
  marked = refl;
  emptied = (λ x. absurd (cc x), λ none. absurd (omega (arith, none, some)));
  same = (λ x. (some, refl), λ x. refl);
}

module _ (v : ℕ) (c : Contents) (below : v < length c.sets) (a b x : ℕ) (ends : AreEnds (set_at c.sets v) a b) where
  some_between : a ≤ b → 0 < length (set_at c.sets v)
  some_between le = elim (cases_lt 0 (length (set_at c.sets v))) [
    | inl lt ↦ lt
    | inr none ↦ absurd (let z = ends.none (omega (arith, none)) in omega (arith, le, z.0, z.1))
  ]

  low : (y : ℕ) → has (set_at c.sets v) y ≡ true → a ≤ y
  low y t = let s = ends.some (some_of_has (set_at c.sets v) y t) in let le = least-le (set_at c.sets v) y t in omega (arith, s.0, le)

  high : (y : ℕ) → has (set_at c.sets v) y ≡ true → y ≤ b
  high y t = let s = ends.some (some_of_has (set_at c.sets v) y t) in let le = has-fold_max 0 (set_at c.sets v) y t in omega (arith, s.1, le)

  pub same_le : a ≤ b → b ≤ x → IsCut (λ y. nat_le y x) v c c Same
  same_le le last = same_cut (λ y. nat_le y x) v c below (some_between le)
      (λ y t. let top = high y t in grind (arith, nat_tests, top, last))

  pub same_gt : a ≤ b → x < a → IsCut (λ y. nat_lt x y) v c c Same
  same_gt le first = same_cut (λ y. nat_lt x y) v c below (some_between le)
      (λ y t. let bottom = low y t in grind (arith, nat_tests, bottom, first))

  pub same_eq : a ≡ b → a ≡ x → IsCut (λ y. nat_eq y x) v c c Same
  same_eq one is = same_cut (λ y. nat_eq y x) v c below (some_between (omega (arith, one)))
      (λ y t. let bottom = low y t in let top = high y t in grind (arith, nat_tests, bottom, top, one, is))

  pub same_drop : 0 < length (set_at c.sets v) → (x < a) ⊎ (b < x) → IsCut (λ y. not (nat_eq y x)) v c c Same
  same_drop some out = same_cut (λ y. not (nat_eq y x)) v c below some (λ y t. passes y (low y t) (high y t) out)
    where
      passes : (y : ℕ) → a ≤ y → y ≤ b → (x < a) ⊎ (b < x) → not (nat_eq y x) ≡ true
      passes y bottom top (inl lt) = let t : nat_eq y x ≡ false = grind (arith, nat_tests, bottom, lt) in ap not t
      passes y bottom top (inr gt) = let t : nat_eq y x ≡ false = grind (arith, nat_tests, top, gt) in ap not t
