-- The least end of a block in a box.
use Rattle.std.proofs.Common.{◌≡◌, ℕ, ◌+◌, ◌-◌, ◌≤◌, ◌<◌, ◌⊎◌, inl, inr, Bool, true, false, List, Option, Some, None, length, get_or, refl}
use Rattle.std.proofs.Common.{sym, ap, ◌∙◌, subst, arith}
use Rattle.std.specs.Prelude.{if◌then◌else◌, slice_get, slice_index, IfSome}
use Rattle.std.proofs.lemmas.Option.{slice_get_cases}
use Rattle.un_base.specs.declared.ids.VarId.{VarId}
use Rattle.un_isa.specs.declared.op.Op.{Op}
use Rattle.un_isa.specs.Does.{is_transfer}
use Rattle.un_ir.specs.declared.extended.ExtKind.{ExtKind}
use Rattle.un_ir.specs.declared.extended.ExtKind.TheVariants.{In, Out, Body, End, Copy, Enter, Leave}
use Rattle.un_ir.specs.declared.extended.ExtOp.{ExtOp}
use Rattle.un_domains.specs.Sets.{Sets}
use Rattle.un_model.specs.declared.model.Arc.{Arc}
use Rattle.un_model.specs.declared.model.OpVars.{OpVars}
use Rattle.un_ir.specs.Kinds.{is_mandatory}
use Rattle.un_model.specs.Instructions.{instruction_of}
use Rattle.un_model.specs.Solutions.{IsPlacedAs, IsLast}
use Rattle.un_bound.specs.Arcs.{LeadOn}
use Rattle.un_bound.specs.Timings.{IsTimed}
use Rattle.un_bound.specs.Lengths.{AreChosen, KeepFirst, AreEarliest, IsEnd, IsLeastEnd, first_cycle}
use Rattle.un_bound.specs.Relaxations.{Times, IsValue, InOwnSet, IsRelaxed}
use Rattle.un_bound.specs.Choices.{IsNext, own_var, IsOwnValue, InSets, IsKnown, AreKnown, FitsBefore, MayStop, IsLeastStop}
use Rattle.un_bound.proofs.Placed.{last_by, place, placed, placed_at, within, timed_first, timing, ends_by}

-- ---- a member's cycles are chosen from the sets

own_value : (s : Sets) (end : VarId) (stop c : ℕ) (op : ExtOp) (v : OpVars) → IsValue s end stop → IsTimed stop c op.kind
    → InOwnSet s c op v → IsOwnValue s (own_var end op.kind v) c
own_value s end stop c op v value t own = by op.kind refl
  where
    by : (kind : ExtKind) → op.kind ≡ kind → IsOwnValue s (own_var end op.kind v) c
    by In e = rw e tt
    by Out e =
        let at : c ≡ stop = rw e at t in
        rw e (subst (IsValue s end) (sym at) value)
    by (Body o) e = rw e (own (rw e refl))
    by (End term) e = rw e (own (rw e refl))
    by (Copy node) e = rw e tt
    by Enter e = rw e tt
    by Leave e = rw e tt

last_value : (s : Sets) (stop c : ℕ) (v : OpVars) (instr : Option Op) → IfSome instr (IsPlacedAs c stop)
    → IfSome v.cycle (λ (x : VarId). IsValue s x c)
    → IfSome instr (λ (op : Op). is_transfer op ≡ true → IfSome v.cycle (λ (x : VarId). IsValue s x (stop - 1)))
last_value s stop c v None t own = tt
last_value s stop c v (Some op) t own = λ is.
    let last : IsLast c stop (is_transfer op) = t.1 in
    let e : c + 1 ≡ stop = rw is at last in
    let same : c ≡ stop - 1 = omega (arith, e) in
    subst (λ (n : ℕ). IfSome v.cycle (λ (x : VarId). IsValue s x n)) same own

fits : (s : Sets) (stop c : ℕ) (kind : ExtKind) (v : OpVars) → IsTimed stop c kind
    → (is_mandatory kind ≡ true → IfSome v.cycle (λ (x : VarId). IsValue s x c)) → FitsBefore s stop kind v
fits s stop c In v t own = tt
fits s stop c Out v t own = tt
fits s stop c (Body o) v t own = last_value s stop c v (instruction_of (Body o) 0) t (own refl)
fits s stop c (End term) v t own = last_value s stop c v (instruction_of (End term) 0) t (own refl)
fits s stop c (Copy node) v t own = tt
fits s stop c Enter v t own = tt
fits s stop c Leave v t own = tt

module _ (s : Sets) (count n : ℕ) (end : VarId) (ops : List ExtOp) (vars : List OpVars) (arcs : List Arc)
    (known : AreKnown count end ops vars) where
  chosen : (times : Times) → IsRelaxed s n end ops vars arcs times → AreChosen (InSets s end ops vars) (length ops) times.cycles
  chosen times r k lt op v p q = (
    timed_first times.end (slice_index times.cycles k) op.kind (r.timing.each k op p),
    own_value s end times.end (slice_index times.cycles k) op v r.stop (r.timing.each k op p) (r.cycles k op v p q),
  )

  keeps : (times : Times) → IsRelaxed s n end ops vars arcs times → KeepFirst n arcs (length arcs) times.cycles
  keeps times r j d lt = r.timing.kept j d lt

  may_stop : (times : Times) → IsRelaxed s n end ops vars arcs times → MayStop s end ops vars times.end
  may_stop times r = record {
    own = r.stop;
    fits = λ k op v p q. fits s times.end (slice_index times.cycles k) op.kind v (r.timing.each k op p) (r.cycles k op v p q);
  }

  -- where the sets have no such cycles there is no member
  pub none_settled : ((others : List ℕ) → AreChosen (InSets s end ops vars) (length ops) others → KeepFirst n arcs (length arcs) others → ⊥)
      → IsLeastStop s n end ops vars arcs None
  none_settled none times r = none times.cycles (chosen times r) (keeps times r)

  pub none_started : ((others : List ℕ) → AreChosen (InSets s end ops vars) (length ops) others → ⊥)
      → IsLeastStop s n end ops vars arcs None
  none_started none times r = none times.cycles (chosen times r)

  module _ (lead : LeadOn n ops arcs) (cs : List ℕ) (h : AreEarliest (InSets s end ops vars) (length ops) n arcs (length arcs) cs)
      (low : ℕ) (least : IsLeastEnd low cs ops) where
    late_enough : (times : Times) → IsRelaxed s n end ops vars arcs times → low ≤ times.end
    late_enough times r = least.least times.end
        (ends_by (InSets s end ops vars) n ops arcs lead cs h times.end times.cycles r.timing (chosen times r))

    pub no_stop : IsNext (MayStop s end ops vars) low None → IsLeastStop s n end ops vars arcs None
    no_stop none times r = none times.end (may_stop times r) (late_enough times r)

    abbrev earliest : ℕ → Times
    earliest stop = record { end = stop; cycles = placed stop ops cs }

    set_instr : (stop c : ℕ) (instr : Option Op) (v : OpVars) → IfSome v.cycle (λ (x : VarId). IsValue s x c)
        → IfSome instr (λ (op : Op). is_transfer op ≡ true → IfSome v.cycle (λ (x : VarId). IsValue s x (stop - 1)))
        → IfSome v.cycle (λ (x : VarId). IsValue s x (last_by stop instr c))
    set_instr stop c None v own f = own
    set_instr stop c (Some op) v own f = by (is_transfer op) refl
      where
        by : (b : Bool) → is_transfer op ≡ b
            → IfSome v.cycle (λ (x : VarId). IsValue s x (if is_transfer op then stop - 1 else c))
        by true e = rw e (f e)
        by false e = rw e own

    no_var : (var : Option VarId) (c : ℕ) → ((x : VarId) → var ≡ Some x → ⊥) → IfSome var (λ (x : VarId). IsValue s x c)
    no_var None c none = tt
    no_var (Some x) c none = absurd (none x refl)

    set_kind : (stop c : ℕ) (kind : ExtKind) (v : OpVars) → IsKnown count kind v.cycle → IsOwnValue s (own_var end kind v) c
        → FitsBefore s stop kind v → is_mandatory kind ≡ true → IfSome v.cycle (λ (x : VarId). IsValue s x (place stop kind c))
    set_kind stop c In v k own f m = no_var v.cycle (place stop In c) (λ x e. rw e at k)
    set_kind stop c Out v k own f m = no_var v.cycle (place stop Out c) (λ x e. rw e at k)
    set_kind stop c (Body o) v k own f m = set_instr stop c (instruction_of (Body o) 0) v own f
    set_kind stop c (End term) v k own f m = set_instr stop c (instruction_of (End term) 0) v own f
    set_kind stop c (Copy node) v k own f m = absurd (cc m)
    set_kind stop c Enter v k own f m = absurd (cc m)
    set_kind stop c Leave v k own f m = absurd (cc m)

    var_of : (k : ℕ) (op : ExtOp) → slice_get ops k ≡ Some op → (v : OpVars) × (slice_get vars k ≡ Some v)
    var_of k op p = found_var (slice_get_cases vars k).1
      where
        found_var : ((x : OpVars) × (k < length vars) × (slice_get vars k ≡ Some x) × (get_or vars k x ≡ x))
            ⊎ ((length vars ≤ k) × (slice_get vars k ≡ None)) → (v : OpVars) × (slice_get vars k ≡ Some v)
        found_var (inl there) = (there.0, there.2)
        found_var (inr past) = absurd (omega (arith, past.0, within ops k op p, known.long))

    first : (k : ℕ) (op : ExtOp) → slice_get ops k ≡ Some op → first_cycle op.kind ≤ slice_index cs k
    first k op p = let v = var_of k op p in (h.chosen k (within ops k op p) op v.0 p v.1).0

    zero_may : (k : ℕ) (op : ExtOp) → slice_get ops k ≡ Some op → op.kind ≡ In → InSets s end ops vars k 0
    zero_may k op p kind other v po q =
        let same : op ≡ other = cc (p, po) in
        let e : other.kind ≡ In = ap (λ (o : ExtOp). o.kind) (sym same) ∙ kind in
        rw e (omega arith, tt)

    late : (stop : ℕ) → low ≤ stop → IsEnd stop cs ops
    late stop le k op p = omega (arith, least.met k op p, le)

    member : (stop : ℕ) → low ≤ stop → MayStop s end ops vars stop → IsRelaxed s n end ops vars arcs (earliest stop)
    member stop le may = record {
      timing = timing (InSets s end ops vars) n ops arcs lead cs h stop first zero_may (late stop le);
      stop = may.own;
      cycles = λ k op v p q m. rw (placed_at stop ops cs k op p)
          (set_kind stop (slice_index cs k) op.kind v (known.each k op v p q) (h.chosen k (within ops k op p) op v p q).1
          (may.fits k op v p q) m);
    }

    pub a_stop : (stop : ℕ) → IsNext (MayStop s end ops vars) low (Some stop) → IsLeastStop s n end ops vars arcs (Some stop)
    a_stop stop next = (
      (earliest stop, member stop next.0 next.1, refl),
      λ times r. next.2 times.end (may_stop times r) (late_enough times r),
    )

    pub stops : (r : Option ℕ) → IsNext (MayStop s end ops vars) low r → IsLeastStop s n end ops vars arcs r
    stops None next = no_stop next
    stops (Some stop) next = a_stop stop next
