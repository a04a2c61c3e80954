-- The end of a block, and the operations that stand at it.
use Rattle.std.proofs.Common.{◌≡◌, ◌≢◌, ℕ, ◌+◌, ◌*◌, ◌-◌, ◌<◌, ◌≤◌, inl, inr, zero, suc, Bool, true, false, List, [], ◌∷◌, length, get_or}
use Rattle.std.proofs.Common.{Option, Some, None, refl, sym, ap, ◌∙◌, subst, arith, get_or-set_same, get_or-set_other}
use Rattle.std.specs.Prelude.{if◌then◌else◌, slice_get, slice_index, slice_set, All, IfSome}
use Rattle.std.proofs.lemmas.Option.{slice_get_cases}
use Rattle.un_domains.specs.SetLaws.{same_or_not}
use Rattle.un_isa.specs.declared.op.Op.{Op}
use Rattle.un_isa.specs.Does.{is_transfer}
use Rattle.un_ir.specs.declared.extended.ExtKind.{ExtKind}
use Rattle.un_ir.specs.declared.extended.ExtKind.TheVariants.{In, Out, Body, End, Copy, Enter, Leave}
use Rattle.un_ir.specs.declared.extended.ExtOp.{ExtOp}
use Rattle.un_model.specs.declared.model.Arc.{Arc}
use Rattle.un_bound.specs.Arcs.{MayLead, MayWait, LeadsOn, LeadOn}
use Rattle.un_bound.specs.Timings.{IsTimed, AtEach, IsKept, IsTiming, IsLeastLength}
use Rattle.un_bound.specs.Lengths.{Choice, AreChosen, KeepFirst, AreEarliest, FromFirst, first_by, first_cycle, end_by, end_after, IsEnd}
use Rattle.un_bound.specs.Lengths.{IsLeastEnd, AreSmall}
use Rattle.un_model.specs.Instructions.{instruction_of}
use Rattle.un_model.specs.Solutions.{IsPlacedAs}

-- ---- cycles with the block's end and its transfers at this end

abbrev pub last_by : ℕ → Option Op → ℕ → ℕ
last_by end None cycle = cycle
last_by end (Some op) cycle = if is_transfer op then end - 1 else cycle

abbrev pub place : ℕ → ExtKind → ℕ → ℕ
place end Out cycle = end
place end kind cycle = last_by end (instruction_of kind 0) cycle

abbrev pub placed : ℕ → List ExtOp → List ℕ → List ℕ
placed end [] cs = []
placed end (op ∷ ops) [] = place end op.kind 0 ∷ placed end ops []
placed end (op ∷ ops) (c ∷ cs) = place end op.kind c ∷ placed end ops cs

pub length-placed : (end : ℕ) (ops : List ExtOp) (cs : List ℕ) → length (placed end ops cs) ≡ length ops
length-placed end [] cs = refl
length-placed end (op ∷ ops) [] = ap suc (length-placed end ops [])
length-placed end (op ∷ ops) (c ∷ cs) = ap suc (length-placed end ops cs)

pub placed_at : (end : ℕ) (ops : List ExtOp) (cs : List ℕ) (k : ℕ) (op : ExtOp) → slice_get ops k ≡ Some op
    → slice_index (placed end ops cs) k ≡ place end op.kind (slice_index cs k)
placed_at end [] cs k op h = absurd (cc h)
placed_at end (o ∷ ops) [] zero op h = let e : o ≡ op = cc h in rw e refl
placed_at end (o ∷ ops) [] (suc k) op h = placed_at end ops [] k op h
placed_at end (o ∷ ops) (c ∷ cs) zero op h = let e : o ≡ op = cc h in rw e refl
placed_at end (o ∷ ops) (c ∷ cs) (suc k) op h = placed_at end ops cs k op h

-- ---- one operation

abbrev pub IsStartAtZero : ExtKind → ℕ → Type 0
IsStartAtZero In c = c ≡ 0
IsStartAtZero kind c = Unit {0}

instr_timed : (end c : ℕ) (instr : Option Op) → first_by instr ≤ c → end_by c instr ≤ end
    → IfSome instr (IsPlacedAs (last_by end instr c) end)
instr_timed end c None f e = tt
instr_timed end c (Some op) f e = by (is_transfer op) refl
  where
    by : (b : Bool) → is_transfer op ≡ b → IsPlacedAs (if is_transfer op then end - 1 else c) end op
    by true is = rw is ((omega arith, omega arith), omega arith)
    by false is = rw is ((omega arith, omega arith), tt)

pub timed : (end c : ℕ) (kind : ExtKind) → first_cycle kind ≤ c → end_after c kind ≤ end → IsStartAtZero kind c
    → IsTimed end (place end kind c) kind
timed end c In f e z = z
timed end c Out f e z = refl
timed end c (Body o) f e z = instr_timed end c (instruction_of (Body o) 0) f e
timed end c (End term) f e z = instr_timed end c (instruction_of (End term) 0) f e
timed end c (Copy node) f e z = instr_timed end c (instruction_of (Copy node) 0) f e
timed end c Enter f e z = instr_timed end c (instruction_of Enter 0) f e
timed end c Leave f e z = instr_timed end c (instruction_of Leave 0) f e

instr_first : (end c : ℕ) (instr : Option Op) → IfSome instr (IsPlacedAs c end) → first_by instr ≤ c
instr_first end c None h = omega arith
instr_first end c (Some op) h = omega (arith, h.0.0)

pub timed_first : (end c : ℕ) (kind : ExtKind) → IsTimed end c kind → first_cycle kind ≤ c
timed_first end c In h = omega arith
timed_first end c Out h = omega arith
timed_first end c (Body o) h = instr_first end c (instruction_of (Body o) 0) h
timed_first end c (End term) h = instr_first end c (instruction_of (End term) 0) h
timed_first end c (Copy node) h = instr_first end c (instruction_of (Copy node) 0) h
timed_first end c Enter h = instr_first end c (instruction_of Enter 0) h
timed_first end c Leave h = instr_first end c (instruction_of Leave 0) h

instr_end : (end b c : ℕ) (instr : Option Op) → b ≤ c → IfSome instr (IsPlacedAs c end) → end_by b instr ≤ end
instr_end end b c None le h = omega arith
instr_end end b c (Some op) le h = omega (arith, h.0.1)

pub timed_end : (end b c : ℕ) (kind : ExtKind) → b ≤ c → IsTimed end c kind → end_after b kind ≤ end
timed_end end b c In le h = omega arith
timed_end end b c Out le h = omega (arith, h)
timed_end end b c (Body o) le h = instr_end end b c (instruction_of (Body o) 0) le h
timed_end end b c (End term) le h = instr_end end b c (instruction_of (End term) 0) le h
timed_end end b c (Copy node) le h = instr_end end b c (instruction_of (Copy node) 0) le h
timed_end end b c Enter le h = instr_end end b c (instruction_of Enter 0) le h
timed_end end b c Leave le h = instr_end end b c (instruction_of Leave 0) le h

instr_stays : (end c : ℕ) (instr : Option Op) → IfSome instr (λ (op : Op). is_transfer op ≡ false) → last_by end instr c ≡ c
instr_stays end c None h = refl
instr_stays end c (Some op) h = rw h refl

pub stays : (end c : ℕ) (kind : ExtKind) → MayLead kind → place end kind c ≡ c
stays end c In h = refl
stays end c Out h = absurd h
stays end c (Body o) h = instr_stays end c (instruction_of (Body o) 0) h
stays end c (End term) h = instr_stays end c (instruction_of (End term) 0) h
stays end c (Copy node) h = instr_stays end c (instruction_of (Copy node) 0) h
stays end c Enter h = instr_stays end c (instruction_of Enter 0) h
stays end c Leave h = instr_stays end c (instruction_of Leave 0) h

instr_later : (end c : ℕ) (instr : Option Op) → end_by c instr ≤ end → c ≤ last_by end instr c
instr_later end c None h = omega arith
instr_later end c (Some op) h = by (is_transfer op) refl
  where
    by : (b : Bool) → is_transfer op ≡ b → c ≤ (if is_transfer op then end - 1 else c)
    by true is = rw is (omega arith)
    by false is = rw is (omega arith)

pub later : (end c : ℕ) (kind : ExtKind) → end_after c kind ≤ end → c ≤ place end kind c
later end c In h = omega arith
later end c Out h = h
later end c (Body o) h = instr_later end c (instruction_of (Body o) 0) h
later end c (End term) h = instr_later end c (instruction_of (End term) 0) h
later end c (Copy node) h = instr_later end c (instruction_of (Copy node) 0) h
later end c Enter h = instr_later end c (instruction_of Enter 0) h
later end c Leave h = instr_later end c (instruction_of Leave 0) h

-- ---- the operations of a block

pub within : (ops : List ExtOp) (k : ℕ) (op : ExtOp) → slice_get ops k ≡ Some op → k < length ops
within ops k op is = elim (slice_get_cases ops k).1 [ inl there ↦ there.1 | inr past ↦ absurd (cc (past.1, is)) ]

pub found : (ops : List ExtOp) (k : ℕ) → k < length ops → (op : ExtOp) × (slice_get ops k ≡ Some op)
found ops k lt = elim (slice_get_cases ops k).1 [ inl there ↦ (there.0, there.2) | inr past ↦ absurd (omega (arith, lt, past.0)) ]

waits : (op : ExtOp) → op.kind ≡ In → MayWait op.kind → ⊥
waits op kind h = rw kind at h

pub from_some : (P : ExtOp → Type 0) (ops : List ExtOp) (k : ℕ) (op : ExtOp) → slice_get ops k ≡ Some op → IfSome (slice_get ops k) P → P op
from_some P ops k op is h = rw is at h

module _ (may : Choice) (n : ℕ) (ops : List ExtOp) (arcs : List Arc) (lead : LeadOn n ops arcs) (cs : List ℕ)
    (h : AreEarliest may (length ops) n arcs (length arcs) cs) where
  -- a block's start stays at 0, since nothing that it waits for raises it
  start_at_zero : (k : ℕ) (op : ExtOp) → slice_get ops k ≡ Some op → op.kind ≡ In → may k 0 → slice_index cs k ≡ 0
  start_at_zero k op is kind ok =
      let low = h.least (slice_set cs k 0) chosen keeps k in
      let z : slice_index (slice_set cs k 0) k ≡ 0 = get_or-set_same cs k 0 0 (omega (arith, below, h.long)) in
      omega (arith, low, z)
    where
      below : k < length ops
      below = within ops k op is

      other : (j : ℕ) → j ≢ k → slice_index (slice_set cs k 0) j ≡ slice_index cs j
      other j ne = get_or-set_other cs k j 0 0 ne

      lower : (j : ℕ) → slice_index (slice_set cs k 0) j ≤ slice_index cs j
      lower j = elim (same_or_not j k) [
        | inl e ↦ subst (λ (u : ℕ). slice_index (slice_set cs k 0) u ≤ slice_index cs u) (sym e)
            (rw (get_or-set_same cs k 0 0 (omega (arith, below, h.long))) (omega arith))
        | inr ne ↦ rw (other j ne) (omega arith)
      ]

      chosen : AreChosen may (length ops) (slice_set cs k 0)
      chosen j lt = elim (same_or_not j k) [
        | inl e ↦ subst (λ (u : ℕ). may u (slice_index (slice_set cs k 0) u)) (sym e)
            (rw (get_or-set_same cs k 0 0 (omega (arith, below, h.long))) ok)
        | inr ne ↦ rw (other j ne) (h.chosen j lt)
      ]

      keeps : KeepFirst n arcs (length arcs) (slice_set cs k 0)
      keeps j d lt =
          let b = get_or arcs j d in
          let on : LeadsOn n ops b = lead.each j d lt in
          let ne : b.to.0 - n ≢ k = λ e. waits op kind (from_some (λ (o : ExtOp). MayWait o.kind) ops k op is
          (subst (λ (u : ℕ). IfSome (slice_get ops u) (λ (o : ExtOp). MayWait o.kind)) e on.to)) in
          let was : IsKept n cs b = h.kept j d lt in
          omega (arith, other (b.to.0 - n) ne, lower (b.from.0 - n), was)

  starts : ((k : ℕ) (op : ExtOp) → slice_get ops k ≡ Some op → op.kind ≡ In → may k 0)
      → (k : ℕ) (op : ExtOp) → slice_get ops k ≡ Some op → IsStartAtZero op.kind (slice_index cs k)
  starts zero_may k op is = by op.kind refl
    where
      by : (kind : ExtKind) → op.kind ≡ kind → IsStartAtZero kind (slice_index cs k)
      by In e = start_at_zero k op is e (zero_may k op is e)
      by Out e = tt
      by (Body o) e = tt
      by (End term) e = tt
      by (Copy node) e = tt
      by Enter e = tt
      by Leave e = tt

  -- with the end and the transfers at an end that is late enough they are a timing
  pub timing : (end : ℕ) → ((k : ℕ) (op : ExtOp) → slice_get ops k ≡ Some op → first_cycle op.kind ≤ slice_index cs k)
      → ((k : ℕ) (op : ExtOp) → slice_get ops k ≡ Some op → op.kind ≡ In → may k 0) → IsEnd end cs ops
      → IsTiming n ops arcs end (placed end ops cs)
  timing end first zero_may late = record { long = length-placed end ops cs; each = each; kept = kept }
    where
      each : AtEach (λ (cycle : ℕ) (op : ExtOp). IsTimed end cycle op.kind) (placed end ops cs) ops
      each k op is = rw (placed_at end ops cs k op is)
          (timed end (slice_index cs k) op.kind (first k op is) (late k op is) (starts zero_may k op is))

      kept : All (IsKept n (placed end ops cs)) arcs
      kept j d lt =
          let b = get_or arcs j d in
          let on : LeadsOn n ops b = lead.each j d lt in
          let f = found ops (b.from.0 - n) (omega (arith, on.here, on.forward, on.within)) in
          let t = found ops (b.to.0 - n) (omega (arith, on.here, on.forward, on.within)) in
          let may_lead : MayLead f.0.kind = from_some (λ (o : ExtOp). MayLead o.kind) ops (b.from.0 - n) f.0 f.1 on.from in
          let same : slice_index (placed end ops cs) (b.from.0 - n) ≡ slice_index cs (b.from.0 - n) =
          placed_at end ops cs (b.from.0 - n) f.0 f.1 ∙ stays end (slice_index cs (b.from.0 - n)) f.0.kind may_lead in
          let up : slice_index cs (b.to.0 - n) ≤ slice_index (placed end ops cs) (b.to.0 - n) =
          rw (placed_at end ops cs (b.to.0 - n) t.0 t.1) (later end (slice_index cs (b.to.0 - n)) t.0.kind (late (b.to.0 - n) t.0 t.1)) in
          let was : IsKept n cs b = h.kept j d lt in
          omega (arith, same, up, was)

  -- no timing whose cycles may be had has an earlier cycle
  pub at_most : (end : ℕ) (ys : List ℕ) → IsTiming n ops arcs end ys → AreChosen may (length ops) ys
      → (k : ℕ) → slice_index cs k ≤ slice_index ys k
  at_most end ys t ch = h.least ys ch (λ j d lt. t.kept j d lt)

  pub ends_by : (end : ℕ) (ys : List ℕ) → IsTiming n ops arcs end ys → AreChosen may (length ops) ys → IsEnd end cs ops
  ends_by end ys t ch k op is = timed_end end (slice_index cs k) (slice_index ys k) op.kind (at_most end ys t ch k) (t.each k op is)

pub plain_length : (n : ℕ) (ops : List ExtOp) (arcs : List Arc) (cs : List ℕ) (end : ℕ) → LeadOn n ops arcs
    → AreEarliest (FromFirst ops) (length ops) n arcs (length arcs) cs → IsLeastEnd end cs ops → IsLeastLength n ops arcs (end - 1)
plain_length n ops arcs cs end lead h e = record {
  reached = (end, placed end ops cs, timing (FromFirst ops) n ops arcs lead cs h end first zero_may e.met, refl);
  least = least;
}
  where
    first : (k : ℕ) (op : ExtOp) → slice_get ops k ≡ Some op → first_cycle op.kind ≤ slice_index cs k
    first k op is = h.chosen k (within ops k op is) op is

    zero_may : (k : ℕ) (op : ExtOp) → slice_get ops k ≡ Some op → op.kind ≡ In → FromFirst ops k 0
    zero_may k op is kind other found =
        let same : op ≡ other = cc (is, found) in
        subst (λ (o : ExtOp). first_cycle o.kind ≤ 0) same (rw kind (omega arith))

    may : (to : ℕ) (ys : List ℕ) → IsTiming n ops arcs to ys → AreChosen (FromFirst ops) (length ops) ys
    may to ys t k lt op is = timed_first to (slice_index ys k) op.kind (t.each k op is)

    least : (to : ℕ) (ys : List ℕ) → IsTiming n ops arcs to ys → end - 1 ≤ to - 1
    least to ys t =
        let le = e.least to (ends_by (FromFirst ops) n ops arcs lead cs h to ys t (may to ys t)) in
        omega (arith, le)

instr_small : (c : ℕ) (instr : Option Op) → end_by c instr ≤ c + 1
instr_small c None = omega arith
instr_small c (Some op) = omega arith

after_small : (c : ℕ) (kind : ExtKind) → end_after c kind ≤ c + 1
after_small c In = omega arith
after_small c Out = omega arith
after_small c (Body o) = instr_small c (instruction_of (Body o) 0)
after_small c (End term) = instr_small c (instruction_of (End term) 0)
after_small c (Copy node) = instr_small c (instruction_of (Copy node) 0)
after_small c Enter = instr_small c (instruction_of Enter 0)
after_small c Leave = instr_small c (instruction_of Leave 0)

pub small_end : (ops : List ExtOp) (cs : List ℕ) → AreSmall cs → IsEnd (2 + 255 * length ops) cs ops
small_end ops cs small k op is = omega (arith, small k, within ops k op is, after_small (slice_index cs k) op.kind)
