-- The least cycles that keep some arcs, one arc after another.
use Rattle.std.proofs.Common.{◌≡◌, ◌≢◌, ℕ, ◌+◌, ◌-◌, ◌*◌, ◌<◌, ◌≤◌, ◌⊎◌, inl, inr, zero, suc, max, List, [], ◌∷◌, Option, length, get_or}
use Rattle.std.proofs.Common.{Some, None, refl, sym, ap, ◌∙◌, subst, arith, get_or-set_same, get_or-set_other}
use Rattle.std.specs.Prelude.{slice_index, slice_set}
use Rattle.std.proofs.lemmas.List.{length-set, set_past}
use Rattle.std.proofs.lemmas.Bool.{cases_lt}
use Rattle.std.proofs.lemmas.Option.{slice_get_cases}
use Rattle.un_domains.specs.SetLaws.{same_or_not}
use Rattle.un_ir.specs.declared.extended.ExtOp.{ExtOp}
use Rattle.un_model.specs.declared.model.Arc.{Arc}
use Rattle.un_bound.specs.Arcs.{LeadsOn, LeadOn}
use Rattle.un_bound.specs.Timings.{IsKept, cycle_in}
use Rattle.un_bound.specs.Lengths.{Choice, AreChosen, KeepFirst, AreEarliest, AreSmall, FromFirst, StartAtFirst, first_by}
use Rattle.un_model.specs.Instructions.{instruction_of}
use Rattle.un_isa.specs.declared.op.Op.{Op}

pub past_end : (xs : List ℕ) (k : ℕ) → length xs ≤ k → slice_index xs k ≡ 0
past_end [] k h = refl
past_end (x ∷ xs) zero h = absurd (omega arith)
past_end (x ∷ xs) (suc k) h = past_end xs k (omega arith)

-- ---- one arc more

module _ (may : Choice) (n : ℕ) (ops : List ExtOp) (arcs : List Arc) (lead : LeadOn n ops arcs) (i : ℕ) (cs : List ℕ) (a : Arc)
    (within : i < length arcs) (is : (d : Arc) → get_or arcs i d ≡ a) (h : AreEarliest may (length ops) n arcs i cs) (k : ℕ) where
  on : LeadsOn n ops a
  on = subst (LeadsOn n ops) (is a) (lead.each i a within)

  abbrev next : List ℕ
  next = slice_set cs (a.to.0 - n) k

  here : slice_index next (a.to.0 - n) ≡ k
  here = get_or-set_same cs (a.to.0 - n) k 0 (omega (arith, on.here, on.forward, on.within, h.long))

  other : (j : ℕ) → j ≢ a.to.0 - n → slice_index next j ≡ slice_index cs j
  other j ne = get_or-set_other cs (a.to.0 - n) j k 0 ne

  grows : cycle_in cs n a.to ≤ k → (j : ℕ) → slice_index cs j ≤ slice_index next j
  grows up j = elim (same_or_not j (a.to.0 - n)) [
    | inl e ↦ subst (λ (u : ℕ). slice_index cs u ≤ slice_index next u) (sym e) (rw here up)
    | inr ne ↦ rw (other j ne) (omega arith)
  ]

  earlier : (j : ℕ) (d : Arc) → j < i → (get_or arcs j d).from.0 - n ≢ a.to.0 - n
  earlier j d lt =
      let b : LeadsOn n ops (get_or arcs j d) = lead.each j d (omega arith) in
      let r : (get_or arcs j d).to.0 ≤ (get_or arcs i d).to.0 = lead.rising j i d lt within in
      let e : (get_or arcs i d).to.0 ≡ a.to.0 = ap (λ (x : Arc). x.to.0) (is d) in
      λ same. omega (arith, b.here, b.forward, r, e, same)

  pub step : may (a.to.0 - n) k → cycle_in cs n a.to ≤ k → cycle_in cs n a.from + a.gap ≤ k
      → ((m : ℕ) → may (a.to.0 - n) m → cycle_in cs n a.to ≤ m → cycle_in cs n a.from + a.gap ≤ m → k ≤ m)
      → AreEarliest may (length ops) n arcs (i + 1) (slice_set cs (a.to.0 - n) k)
  step ok up kept least = record { long = long; chosen = chosen; kept = keeps; least = smallest }
    where
      long : length next ≡ length ops
      long = length-set cs (a.to.0 - n) k ∙ h.long

      chosen : AreChosen may (length ops) next
      chosen j lt = elim (same_or_not j (a.to.0 - n)) [
        | inl e ↦ subst (λ (u : ℕ). may u (slice_index next u)) (sym e) (rw here ok)
        | inr ne ↦ rw (other j ne) (h.chosen j lt)
      ]

      from_other : a.from.0 - n ≢ a.to.0 - n
      from_other e = omega (arith, on.here, on.forward, e)

      newest : IsKept n next a
      newest = rw (here, other (a.from.0 - n) from_other) kept

      older : (j : ℕ) (d : Arc) → j < i → IsKept n next (get_or arcs j d)
      older j d lt =
          let b = get_or arcs j d in
          let e : slice_index next (b.from.0 - n) ≡ slice_index cs (b.from.0 - n) = other (b.from.0 - n) (earlier j d lt) in
          let g = grows up (b.to.0 - n) in
          let was : IsKept n cs b = h.kept j d lt in
          omega (arith, e, g, was)

      keeps : KeepFirst n arcs (i + 1) next
      keeps j d lt = elim (cases_lt j i) [
        | inl below ↦ older j d below
        | inr above ↦ let e : j ≡ i = omega arith in subst (IsKept n next) (sym (ap (λ (u : ℕ). get_or arcs u d) e ∙ is d)) newest
      ]

      smallest : (others : List ℕ) → AreChosen may (length ops) others → KeepFirst n arcs (i + 1) others
          → (m : ℕ) → slice_index next m ≤ slice_index others m
      smallest ys ch ke m =
          let below = h.least ys ch (λ j d lt. ke j d (omega arith)) in
          let last : IsKept n ys a = subst (IsKept n ys) (is a) (ke i a (omega arith)) in
          elim (same_or_not m (a.to.0 - n)) [
            | inl e ↦ subst (λ (u : ℕ). slice_index next u ≤ slice_index ys u) (sym e) (rw here (least (slice_index ys (a.to.0 - n))
                (ch (a.to.0 - n) (omega (arith, on.here, on.forward, on.within))) (below (a.to.0 - n))
                (omega (arith, below (a.from.0 - n), last))))
            | inr ne ↦ rw (other m ne) (below m)
          ]

-- ---- no arc yet

pub start_plain : (n : ℕ) (ops : List ExtOp) (arcs : List Arc) (cs : List ℕ) → length cs ≡ length ops → StartAtFirst cs ops
    → AreEarliest (FromFirst ops) (length ops) n arcs 0 cs
start_plain n ops arcs cs long at = record {
  long = long;
  chosen = λ k lt op is. omega (arith, at k op is);
  kept = λ j d lt. absurd (omega arith);
  least = λ ys ch ke k. elim (slice_get_cases ops k).1 [
    | inl there ↦ let g = there.2 in omega (arith, at k there.0 g, ch k there.1 there.0 g)
    | inr past ↦ omega (arith, past_end cs k (omega (arith, past.0, long)))
  ];
}

first_small : (instr : Option Op) → first_by instr ≤ 1
first_small None = omega arith
first_small (Some op) = omega arith

pub start_small : (ops : List ExtOp) (cs : List ℕ) → length cs ≡ length ops → StartAtFirst cs ops → AreSmall cs
start_small ops cs long at k = elim (slice_get_cases ops k).1 [
  | inl there ↦ let f = first_small (instruction_of there.0.kind 0) in omega (arith, at k there.0 there.2, f)
  | inr past ↦ omega (arith, past_end cs k (omega (arith, past.0, long)))
]

pub small_step : (n : ℕ) (ops : List ExtOp) (cs : List ℕ) (a : Arc) → LeadsOn n ops a → AreSmall cs
    → AreSmall (slice_set cs (a.to.0 - n) (max (cycle_in cs n a.to) (cycle_in cs n a.from + a.gap)))
small_step n ops cs a on small k = by (same_or_not k (a.to.0 - n)) (cases_lt (a.to.0 - n) (length cs))
  where
    by : (k ≡ a.to.0 - n) ⊎ (k ≢ a.to.0 - n) → (a.to.0 - n < length cs) ⊎ (length cs ≤ a.to.0 - n)
        → slice_index (slice_set cs (a.to.0 - n) (max (cycle_in cs n a.to) (cycle_in cs n a.from + a.gap))) k ≤ 1 + 255 * k
    by (inl e) (inl lt) =
        let s = get_or-set_same cs (a.to.0 - n) (max (cycle_in cs n a.to) (cycle_in cs n a.from + a.gap)) 0 lt in
        subst (λ (u : ℕ). slice_index (slice_set cs (a.to.0 - n) (max (cycle_in cs n a.to) (cycle_in cs n a.from + a.gap))) u ≤ 1 + 255 * u)
        (sym e) (omega (arith, s, small (a.to.0 - n), small (a.from.0 - n), on.here, on.forward, on.short))
    by (inl e) (inr le) = rw (set_past cs (a.to.0 - n) (max (cycle_in cs n a.to) (cycle_in cs n a.from + a.gap)) le) (small k)
    by (inr ne) side = rw (get_or-set_other cs (a.to.0 - n) k (max (cycle_in cs n a.to) (cycle_in cs n a.from + a.gap)) 0 ne) (small k)

-- without domains the cycle rises to what the arc asks for
pub plain_step : (n : ℕ) (ops : List ExtOp) (arcs : List Arc) → LeadOn n ops arcs → (i : ℕ) (cs : List ℕ) (a : Arc) → i < length arcs
    → ((d : Arc) → get_or arcs i d ≡ a) → AreEarliest (FromFirst ops) (length ops) n arcs i cs → (k : ℕ)
    → k ≡ max (cycle_in cs n a.to) (cycle_in cs n a.from + a.gap)
    → AreEarliest (FromFirst ops) (length ops) n arcs (i + 1) (slice_set cs (a.to.0 - n) k)
plain_step n ops arcs lead i cs a within is h k e =
    step (FromFirst ops) n ops arcs lead i cs a within is h k
    (λ op found. omega (arith, e, h.chosen (a.to.0 - n) (omega (arith, on.here, on.forward, on.within)) op found)) (omega (arith, e))
    (omega (arith, e)) (λ m may up kept. omega (arith, e, up, kept))
  where
    on : LeadsOn n ops a
    on = subst (LeadsOn n ops) (is a) (lead.each i a within)

pub plain_small : (n : ℕ) (ops : List ExtOp) (arcs : List Arc) → LeadOn n ops arcs → (i : ℕ) (cs : List ℕ) (a : Arc) → i < length arcs
    → ((d : Arc) → get_or arcs i d ≡ a) → AreSmall cs → (k : ℕ) → k ≡ max (cycle_in cs n a.to) (cycle_in cs n a.from + a.gap)
    → AreSmall (slice_set cs (a.to.0 - n) k)
plain_small n ops arcs lead i cs a within is small k e =
    rw e (small_step n ops cs a (subst (LeadsOn n ops) (is a) (lead.each i a within)) small)
