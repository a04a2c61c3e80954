-- The next values of sets, and the variables in which operations have theirs.
use Rattle.std.proofs.Common.{◌≡◌, ◌≢◌, ℕ, ◌+◌, ◌-◌, ◌≤◌, ◌<◌, inl, inr, true, false, List, [], Option, Some, None, length, get_or, refl}
use Rattle.std.proofs.Common.{sym, subst, arith, get_or-set_same, get_or-set_other}
use Rattle.std.specs.Prelude.{slice_get, slice_index, slice_set, IfSome}
use Rattle.std.proofs.lemmas.Bool.{cases_lt}
use Rattle.std.proofs.lemmas.Option.{slice_get-get_or, get_or_from_slice_get}
use Rattle.un_base.specs.declared.ids.VarId.{VarId}
use Rattle.un_isa.specs.declared.op.Op.{Op}
use Rattle.un_isa.specs.Does.{is_transfer}
use Rattle.un_ir.specs.declared.extended.ExtKind.{ExtKind}
use Rattle.un_ir.specs.declared.extended.ExtKind.TheVariants.{In, Out, Body, End, Copy, Enter, Leave}
use Rattle.un_ir.specs.declared.extended.ExtOp.{ExtOp}
use Rattle.un_domains.specs.Sets.{Sets}
use Rattle.un_model.specs.declared.model.Arc.{Arc}
use Rattle.un_model.specs.declared.model.OpVars.{OpVars}
use Rattle.un_model.specs.Instructions.{instruction_of}
use Rattle.un_bound.specs.Arcs.{MayWait, LeadsOn, LeadOn}
use Rattle.un_bound.specs.Timings.{IsKept}
use Rattle.un_bound.specs.Lengths.{Choice, AreChosen, KeepFirst, AreEarliest, first_cycle}
use Rattle.un_bound.specs.Relaxations.{IsValue}
use Rattle.un_bound.specs.Choices.{IsNext, own_var, IsOwnValue, InSets, IsKnown, IsRaised, FitsBefore, TransfersFit}
use Rattle.un_bound.proofs.Earliest.{past_end, step}

no_vars : OpVars
no_vars = record { instr = None; cycle = None; choices = [] }

-- a next value of the own set from the first cycle on is a next one of the operation
pub next_chosen : (s : Sets) (end : VarId) (ops : List ExtOp) (vars : List OpVars) (k : ℕ) (op : ExtOp) (v : OpVars) (x : VarId)
    (at low : ℕ) (r : Option ℕ) → slice_get ops k ≡ Some op → slice_get vars k ≡ Some v → own_var end op.kind v ≡ Some x
    → first_cycle op.kind ≤ at → ((n : ℕ) → InSets s end ops vars k n → low ≤ n → at ≤ n) → low ≤ at → IsNext (IsValue s x) at r
    → IsNext (InSets s end ops vars k) low r
next_chosen s end ops vars k op v x at low None p q e first up le h = λ n may ge. h n (own n may) (up n may ge)
  where
    own : (n : ℕ) → InSets s end ops vars k n → IsValue s x n
    own n may = rw e at (may op v p q).1
next_chosen s end ops vars k op v x at low (Some r) p q e first up le h =
    (omega (arith, h.0, le), here, λ n may ge. h.2 n (own n may) (up n may ge))
  where
    own : (n : ℕ) → InSets s end ops vars k n → IsValue s x n
    own n may = rw e at (may op v p q).1

    value : IsOwnValue s (own_var end op.kind v) r
    value = rw e h.1

    both : (first_cycle op.kind ≤ r) × IsOwnValue s (own_var end op.kind v) r
    both = (omega (arith, h.0, first), value)

    here : InSets s end ops vars k r
    here o w po qw =
        let same : op ≡ o = cc (p, po) in
        let alike : v ≡ w = cc (q, qw) in
        subst (λ (u : OpVars). (first_cycle o.kind ≤ r) × IsOwnValue s (own_var end o.kind u) r) alike
        (subst (λ (u : ExtOp). (first_cycle u.kind ≤ r) × IsOwnValue s (own_var end u.kind v) r) same both)

-- without a variable the first cycle is the next one
pub next_free : (s : Sets) (end : VarId) (ops : List ExtOp) (vars : List OpVars) (k : ℕ) (op : ExtOp) (v : OpVars)
    → slice_get ops k ≡ Some op → slice_get vars k ≡ Some v → own_var end op.kind v ≡ None
    → IsNext (InSets s end ops vars k) 0 (Some (first_cycle op.kind))
next_free s end ops vars k op v p q e = (omega arith, here, λ n may ge. (may op v p q).0)
  where
    both : (first_cycle op.kind ≤ first_cycle op.kind) × IsOwnValue s (own_var end op.kind v) (first_cycle op.kind)
    both = (omega arith, rw e tt)

    here : InSets s end ops vars k (first_cycle op.kind)
    here o w po qw =
        let same : op ≡ o = cc (p, po) in
        let alike : v ≡ w = cc (q, qw) in
        subst (λ (u : OpVars). (first_cycle o.kind ≤ first_cycle op.kind) × IsOwnValue s (own_var end o.kind u) (first_cycle op.kind)) alike
        (subst (λ (u : ExtOp). (first_cycle u.kind ≤ first_cycle op.kind) × IsOwnValue s (own_var end u.kind v) (first_cycle op.kind)) same
        both)

-- what waits has a variable
pub has_var : (count : ℕ) (end : VarId) (kind : ExtKind) (v : OpVars) → MayWait kind → IsKnown count kind v.cycle
    → own_var end kind v ≡ None → ⊥
has_var count end In v w known e = w
has_var count end Out v w known e = cc e
has_var count end (Body o) v w known e = rw e at known
has_var count end (End term) v w known e = rw e at known
has_var count end (Copy node) v w known e = w
has_var count end Enter v w known e = w
has_var count end Leave v w known e = w

-- and the store has it
pub var_known : (count : ℕ) (end : VarId) (kind : ExtKind) (v : OpVars) (x : VarId) → end.0 < count → IsKnown count kind v.cycle
    → own_var end kind v ≡ Some x → x.0 < count
var_known count end In v x stop known e = absurd (cc e)
var_known count end Out v x stop known e = let same : end ≡ x = cc e in subst (λ (y : VarId). y.0 < count) same stop
var_known count end (Body o) v x stop known e = rw e at known
var_known count end (End term) v x stop known e = rw e at known
var_known count end (Copy node) v x stop known e = absurd (cc e)
var_known count end Enter v x stop known e = absurd (cc e)
var_known count end Leave v x stop known e = absurd (cc e)

pub cycle_known : (count : ℕ) (kind : ExtKind) (v : OpVars) (op : Op) (x : VarId) → IsKnown count kind v.cycle
    → instruction_of kind 0 ≡ Some op → v.cycle ≡ Some x → x.0 < count
cycle_known count In v op x known i e = absurd (cc i)
cycle_known count Out v op x known i e = absurd (cc i)
cycle_known count (Body o) v op x known i e = rw e at known
cycle_known count (End term) v op x known i e = rw e at known
cycle_known count (Copy node) v op x known i e = absurd (cc i)
cycle_known count Enter v op x known i e = absurd (cc i)
cycle_known count Leave v op x known i e = absurd (cc i)

-- a late enough cycle is not before the first
pub first_after : (s : Sets) (end : VarId) (ops : List ExtOp) (vars : List OpVars) (k c at : ℕ) → length vars ≡ length ops
    → k < length ops → InSets s end ops vars k c → c ≤ at → IfSome (slice_get ops k) (λ (op : ExtOp). first_cycle op.kind ≤ at)
first_after s end ops vars k c at long lt may le =
    let v = slice_get-get_or vars k no_vars (omega (arith, long, lt)) in
    by (slice_get ops k) refl v
  where
    by : (o : Option ExtOp) → slice_get ops k ≡ o → slice_get vars k ≡ Some (get_or vars k no_vars)
        → IfSome o (λ (op : ExtOp). first_cycle op.kind ≤ at)
    by None e v = tt
    by (Some op) e v = omega (arith, (may op (get_or vars k no_vars) e v).0, le)

-- one operation more is started
pub next_more : (may : Choice) (i : ℕ) (cs : List ℕ) (x : ℕ) → i < length cs
    → ((k : ℕ) → k < i → IsNext (may k) 0 (Some (slice_index cs k))) → IsNext (may i) 0 (Some x)
    → (k : ℕ) → k < i + 1 → IsNext (may k) 0 (Some (slice_index (slice_set cs i x) k))
next_more may i cs x lt h new k below = elim (cases_lt k i) [
  | inl less ↦ let ne : k ≢ i = omega arith in rw (get_or-set_other cs i k x 0 ne) (h k less)
  | inr ge ↦ let e : k ≡ i = omega arith in
      subst (λ (u : ℕ). IsNext (may u) 0 (Some (slice_index (slice_set cs i x) u))) (sym e) (rw (get_or-set_same cs i x 0 lt) new)
]

-- where all are started and no arc is kept yet
pub started : (may : Choice) (n : ℕ) (ops : List ExtOp) (arcs : List Arc) (cs : List ℕ) → length cs ≡ length ops
    → ((k : ℕ) → k < length ops → IsNext (may k) 0 (Some (slice_index cs k))) → AreEarliest may (length ops) n arcs 0 cs
started may n ops arcs cs long at = record {
  long = long;
  chosen = λ k lt. (at k lt).1;
  kept = λ j d lt. absurd (omega arith);
  least = λ ys ch ke k. elim (cases_lt k (length ops)) [
    | inl lt ↦ (at k lt).2 (slice_index ys k) (ch k lt) (omega arith)
    | inr ge ↦ omega (arith, past_end cs k (omega (arith, ge, long)))
  ];
}

-- ---- one arc more

module _ (may : Choice) (n : ℕ) (ops : List ExtOp) (arcs : List Arc) (lead : LeadOn n ops arcs) (i : ℕ) (cs : List ℕ) (a : Arc)
    (lt : i < length arcs) (is : (d : Arc) → get_or arcs i d ≡ a) (h : AreEarliest may (length ops) n arcs i cs) where
  pub raised : (next : List ℕ) → IsRaised may n a cs next true → AreEarliest may (length ops) n arcs (i + 1) next
  raised next (k, nx, e) = subst (AreEarliest may (length ops) n arcs (i + 1)) (sym e)
      (step may n ops arcs lead i cs a lt is h k nx.1 (omega (arith, nx.0)) (omega (arith, nx.0))
      (λ m ok up kept. nx.2 m ok (omega (arith, up, kept))))

  pub none_raised : (next : List ℕ) → IsRaised may n a cs next false → (others : List ℕ) → AreChosen may (length ops) others
      → KeepFirst n arcs (length arcs) others → ⊥
  none_raised next none ys ch ke =
      let on : LeadsOn n ops a = subst (LeadsOn n ops) (is a) (lead.each i a lt) in
      let below = h.least ys ch (λ j d less. ke j d (omega (arith, less, lt))) in
      let kept : IsKept n ys a = subst (IsKept n ys) (is a) (ke i a lt) in
      none (slice_index ys (a.to.0 - n)) (ch (a.to.0 - n) (omega (arith, on.here, on.forward, on.within)))
      (omega (arith, below (a.to.0 - n), below (a.from.0 - n), kept))

-- ---- transfers

pub fits_none : (s : Sets) (end : ℕ) (kind : ExtKind) (v : OpVars) → instruction_of kind 0 ≡ None → FitsBefore s end kind v
fits_none s end kind v e = rw e tt

pub fits_free : (s : Sets) (end : ℕ) (kind : ExtKind) (v : OpVars) (op : Op) → instruction_of kind 0 ≡ Some op → v.cycle ≡ None
    → FitsBefore s end kind v
fits_free s end kind v op e f = rw (e, f) (λ t. tt)

pub fits_other : (s : Sets) (end : ℕ) (kind : ExtKind) (v : OpVars) (op : Op) → instruction_of kind 0 ≡ Some op
    → is_transfer op ≡ false → FitsBefore s end kind v
fits_other s end kind v op e f = rw e (λ t. absurd (cc (t, f)))

pub fits_value : (s : Sets) (end : ℕ) (kind : ExtKind) (v : OpVars) (op : Op) (x : VarId) → instruction_of kind 0 ≡ Some op
    → v.cycle ≡ Some x → IsValue s x (end - 1) → FitsBefore s end kind v
fits_value s end kind v op x e f h = rw (e, f) (λ t. h)

pub value_fits : (s : Sets) (end : ℕ) (kind : ExtKind) (v : OpVars) (op : Op) (x : VarId) → instruction_of kind 0 ≡ Some op
    → v.cycle ≡ Some x → is_transfer op ≡ true → FitsBefore s end kind v → IsValue s x (end - 1)
value_fits s end kind v op x e f t h = (rw (e, f) at h) t

pub fits_more : (s : Sets) (end : ℕ) (ops : List ExtOp) (vars : List OpVars) (i : ℕ) (d : ExtOp) (e : OpVars)
    → ((k : ℕ) (op : ExtOp) (v : OpVars) → k < i → slice_get ops k ≡ Some op → slice_get vars k ≡ Some v → FitsBefore s end op.kind v)
    → FitsBefore s end (get_or ops i d).kind (get_or vars i e)
    → (k : ℕ) (op : ExtOp) (v : OpVars) → k < i + 1 → slice_get ops k ≡ Some op → slice_get vars k ≡ Some v → FitsBefore s end op.kind v
fits_more s end ops vars i d e h new k op v lt p q = elim (cases_lt k i) [
  | inl less ↦ h k op v less p q
  | inr ge ↦ let same : k ≡ i = omega arith in
      let o : get_or ops i d ≡ op = subst (λ (u : ℕ). get_or ops u d ≡ op) same (get_or_from_slice_get ops k op d p) in
      let w : get_or vars i e ≡ v = subst (λ (u : ℕ). get_or vars u e ≡ v) same (get_or_from_slice_get vars k v e q) in
      subst (λ (u : OpVars). FitsBefore s end op.kind u) w (subst (λ (u : ExtOp). FitsBefore s end u.kind (get_or vars i e)) o new)
]

pub misfit : (s : Sets) (end : ℕ) (ops : List ExtOp) (vars : List OpVars) (i : ℕ) (d : ExtOp) (e : OpVars) → i < length ops
    → i < length vars → TransfersFit s ops vars end → FitsBefore s end (get_or ops i d).kind (get_or vars i e)
misfit s end ops vars i d e lt less h = h i (get_or ops i d) (get_or vars i e) (slice_get-get_or ops i d lt)
    (slice_get-get_or vars i e less)
