-- A terminator that goes on issues in its block's last cycle: behind it come copies that do nothing, and the block's end.
use Rattle.std.proofs.Common.{◌≡◌, ◌≢◌, ℕ, suc, ◌+◌, Bool, true, false, List, [], ◌∷◌, ◌++◌, Option, Some, None, refl, sym, ap, subst, ◌∙◌}
use Rattle.std.proofs.Common.{arith}
use Rattle.std.specs.Prelude.{◌==◌, if◌then◌else◌, All, slice_get}
use Rattle.std.specs.Option.{option_to_list}
use Rattle.std.proofs.lemmas.List.Elements.{All-nil, All-cons, All-head, All-tail}
use Rattle.un_isa.specs.Facts.{is_source}
use Rattle.un_isa.specs.declared.op.Op.{Op}
use Rattle.un_isa.specs.declared.op.Op.TheVariants.{Enter as EnterOp, Leave as LeaveOp}
use Rattle.un_isa.specs.Fit.{IsFit}
use Rattle.un_isa.specs.Does.{is_transfer}
use Rattle.un_isa.proofs.DoesLaws.{source_stays as source_goes_on, copy_stays}
use Rattle.un_ir.specs.declared.function.Term.TheVariants.{Fall, Jump, Branch, Ret}
use Rattle.un_ir.specs.declared.extended.NodeCopy.TheVariants.{D, D2, U, U2}
use Rattle.un_ir.specs.declared.extended.ExtKind.{ExtKind}
use Rattle.un_ir.specs.declared.extended.ExtKind.TheVariants.{In, Out, Body, End, Copy, Enter, Leave}
use Rattle.un_ir.specs.declared.extended.ExtOp.{ExtOp}
use Rattle.un_ir.specs.declared.extended.ExtBlock.{ExtBlock}
use Rattle.un_ir.specs.declared.extended.Ext.{Ext}
use Rattle.un_ir.specs.Extended.{is_copy, is_end, is_inner, Parts, IsMadeOf, IsGoodKind}
use Rattle.un_ir.specs.Linear.{is_in, is_out}
use Rattle.un_model.specs.declared.schedule.Issue.{Issue}
use Rattle.un_model.specs.Instructions.{instruction_of}
use Rattle.un_model.proofs.Transfers.{copy_copies, transfer_latency}
use Rattle.un_baseline.specs.declared.plan.Purpose.{Purpose}
use Rattle.un_baseline.specs.declared.plan.Purpose.TheVariants.{Unread}
use Rattle.un_baseline.specs.declared.plan.Definer.{Definer}
use Rattle.un_baseline.specs.declared.plan.Definer.TheVariants.{Other}
use Rattle.un_baseline.specs.declared.plan.Setting.{Setting}
use Rattle.un_baseline.specs.declared.plan.Progress.{Progress}
use Rattle.un_baseline.specs.Plans.{planned_issue, planned_cycle}
use Rattle.un_baseline.specs.SpillEverywhere.{purpose_of, purpose_of_out, purpose_at, first_copy, second_copy, operand_copy, truth_copy}
use Rattle.un_baseline.specs.SpillEverywhere.{first_alts, after_move, next_cycle, step_of, progress_of, progress_after}
use Rattle.un_baseline.proofs.SpillSteps.{EachOp}
use Rattle.un_baseline.proofs.Fronts.{IsFrontKind, AreFront, issues_from}
use Rattle.un_baseline.proofs.Layouts.{each_weaker}
use Rattle.un_baseline.proofs.Shapes.{each_append}

-- ---- what holds of each operation

pub each_of_at : (Q : ExtOp → Type 0) (ops : List ExtOp) → ((k : ℕ) (op : ExtOp) → slice_get ops k ≡ Some op → Q op) → EachOp Q ops
each_of_at Q [] h = tt
each_of_at Q (op ∷ ops) h = (h 0 op refl, each_of_at Q ops (λ k o at. h (suc k) o at))

pub each_of_all : (Q : ExtOp → Type 0) (ops : List ExtOp) → All Q ops → EachOp Q ops
each_of_all Q [] h = tt
each_of_all Q (op ∷ ops) h = (All-head Q op ops h, each_of_all Q ops (All-tail Q op ops h))

pub each_left : (Q : ExtOp → Type 0) (xs ys : List ExtOp) → EachOp Q (xs ++ ys) → EachOp Q xs
each_left Q [] ys h = tt
each_left Q (x ∷ xs) ys h = (h.0, each_left Q xs ys h.1)

pub each_right : (Q : ExtOp → Type 0) (xs ys : List ExtOp) → EachOp Q (xs ++ ys) → EachOp Q ys
each_right Q [] ys h = h
each_right Q (x ∷ xs) ys h = each_right Q xs ys h.1

-- an operation of the source may stand in a text
abbrev pub IsSourceKind : ExtKind → Type 0
IsSourceKind (Body o) = is_source o.op ≡ true
IsSourceKind _ = Unit {0}

abbrev pub SourceOp : ExtOp → Type 0
SourceOp op = IsSourceKind op.kind

pub source_kind : (kind : ExtKind) (op : ExtOp) → IsGoodKind kind op → IsSourceKind kind
source_kind In op h = tt
source_kind Out op h = tt
source_kind (Body o) op h = h.op
source_kind (End term) op h = tt
source_kind (Copy node) op h = tt
source_kind Enter op h = tt
source_kind Leave op h = tt

-- ---- where terminators stand

-- a copy, or the block's end
abbrev pub IsLate : ExtKind → Type 0
IsLate (Copy node) = Unit {0}
IsLate Out = Unit {0}
IsLate _ = ⊥

abbrev LateOp : ExtOp → Type 0
LateOp op = IsLate op.kind

abbrev pub EndsOnce : ExtKind → List ExtOp → Type 0
EndsOnce (End term) ops = EachOp LateOp ops
EndsOnce _ ops = Unit {0}

-- behind a terminator come copies and the block's end alone
abbrev pub AreEnded : List ExtOp → Type 0
AreEnded [] = Unit {0}
AreEnded (op ∷ ops) = EndsOnce op.kind ops × AreEnded ops

abbrev GoesBefore : ExtOp → Type 0
GoesBefore op = is_end op.kind ≡ false

once_unless : (kind : ExtKind) (ops : List ExtOp) → is_end kind ≡ false → EndsOnce kind ops
once_unless (End term) ops h = absurd (cc h)
once_unless _ ops h = tt

once_late : (kind : ExtKind) (ops : List ExtOp) → EachOp LateOp ops → EndsOnce kind ops
once_late (End term) ops h = h
once_late _ ops h = tt

start_before : (kind : ExtKind) → is_in kind ≡ true → is_end kind ≡ false
start_before (End term) h = absurd (cc h)
start_before _ h = refl

inner_before : (kind : ExtKind) → is_inner kind ≡ true → is_end kind ≡ false
inner_before (End term) h = absurd (cc h)
inner_before _ h = refl

late_before : (kind : ExtKind) → IsLate kind → is_end kind ≡ false
late_before (End term) h = absurd h
late_before _ h = refl

copy_late : (kind : ExtKind) → is_copy kind ≡ true → IsLate kind
copy_late (Copy node) h = tt
copy_late Out h = tt
copy_late In h = absurd (cc h)
copy_late (Body o) h = absurd (cc h)
copy_late (End term) h = absurd (cc h)
copy_late Enter h = absurd (cc h)
copy_late Leave h = absurd (cc h)

out_late : (kind : ExtKind) → is_out kind ≡ true → IsLate kind
out_late (Copy node) h = tt
out_late Out h = tt
out_late In h = absurd (cc h)
out_late (Body o) h = absurd (cc h)
out_late (End term) h = absurd (cc h)
out_late Enter h = absurd (cc h)
out_late Leave h = absurd (cc h)

ended_append : (xs ys : List ExtOp) → EachOp GoesBefore xs → AreEnded ys → AreEnded (xs ++ ys)
ended_append [] ys h k = k
ended_append (x ∷ xs) ys h k = (once_unless x.kind (xs ++ ys) h.0, ended_append xs ys h.1 k)

ended_late : (ops : List ExtOp) → EachOp LateOp ops → AreEnded ops
ended_late [] h = tt
ended_late (op ∷ ops) h = (once_unless op.kind ops (late_before op.kind h.0), ended_late ops h.1)

pub made_ended : (ops : List ExtOp) (p : Parts) → IsMadeOf ops p → AreEnded ops
made_ended ops p h =
    let tail = p.late ++ p.out ∷ [] in
    let late : EachOp LateOp tail = each_append LateOp p.late (p.out ∷ [])
    (each_weaker (λ (op : ExtOp). is_copy op.kind ≡ true) LateOp (λ op c. copy_late op.kind c) p.late
    (each_of_all (λ (op : ExtOp). is_copy op.kind ≡ true) p.late h.late)) (out_late p.out.kind h.out, tt) in
    let inner = each_weaker (λ (op : ExtOp). is_inner op.kind ≡ true) GoesBefore (λ op c. inner_before op.kind c) p.inner
    (each_of_all (λ (op : ExtOp). is_inner op.kind ≡ true) p.inner h.inner) in
    let behind = option_to_list p.ending ++ tail in
    subst AreEnded (sym h.whole) (
      once_unless p.start.kind (p.inner ++ behind) (start_before p.start.kind h.start),
      ended_append p.inner behind inner (by p.ending tail late),
    )
  where
    by : (ending : Option ExtOp) (tail : List ExtOp) → EachOp LateOp tail → AreEnded (option_to_list ending ++ tail)
    by None tail late = ended_late tail late
    by (Some op) tail late = (once_late op.kind tail late, ended_late tail late)

-- no terminator stands before what is no copy
pub none_ends : (xs : List ExtOp) (y : ExtOp) (ys : List ExtOp) → (IsLate y.kind → ⊥) → AreEnded (xs ++ y ∷ ys) → EachOp GoesBefore xs
none_ends [] y ys other h = tt
none_ends (x ∷ xs) y ys other h = (by x.kind h.0, none_ends xs y ys other h.1)
  where
    by : (kind : ExtKind) → EndsOnce kind (xs ++ y ∷ ys) → is_end kind ≡ false
    by (End term) late = absurd (other (each_right LateOp xs (y ∷ ys) late).0)
    by In late = refl
    by Out late = refl
    by (Body o) late = refl
    by (Copy node) late = refl
    by Enter late = refl
    by Leave late = refl

-- ---- transfers

pub source_stays : (o : Op) → is_source o ≡ true → o ≢ LeaveOp
source_stays o h e = let f : is_source LeaveOp ≡ true = ap is_source (sym e) ∙ h in cc f

pub source_never_enters : (o : Op) → is_source o ≡ true → o ≢ EnterOp
source_never_enters o h e = let f : is_source EnterOp ≡ true = ap is_source (sym e) ∙ h in cc f

not_both : (o q : Op) → o ≡ q → is_transfer o ≡ false → is_transfer q ≡ true → ⊥
not_both o q e f h = let z : false ≡ true = sym f ∙ ap is_transfer e ∙ h in cc z

frame_still : (op o : Op) (idle : Bool) → is_transfer op ≡ false → (if idle then None else Some op) ≡ Some o → is_transfer o ≡ true → ⊥
frame_still op o true f h t = absurd (cc h)
frame_still op o false f h t = not_both op o (let e : op ≡ o = cc h in e) f t

-- what is no terminator issues no transfer
pub calm_instr : (kind : ExtKind) (n : ℕ) → IsSourceKind kind → is_end kind ≡ false → (o : Op) → instruction_of kind n ≡ Some o
    → is_transfer o ≡ true → ⊥
calm_instr In n source calm o h t = absurd (cc h)
calm_instr Out n source calm o h t = absurd (cc h)
calm_instr (Body src) n source calm o h t = not_both src.op o (let e : src.op ≡ o = cc h in e) (source_goes_on src.op source) t
calm_instr (End term) n source calm o h t = absurd (cc calm)
calm_instr (Copy node) n source calm o h t = not_both o o refl (copy_stays o (copy_copies n o h)) t
calm_instr Enter n source calm o h t = frame_still EnterOp o (n == 0) refl h t
calm_instr Leave n source calm o h t = frame_still LeaveOp o (n == 0) refl h t

abbrev pub LeavesLast : ℕ → Issue → Type 0
LeavesLast last i = (o : Op) → i.instr ≡ Some o → is_transfer o ≡ true → i.cycle + 1 ≡ last

module _ (e : Ext) (fit : IsFit e.table) (block : ExtBlock) (s : Setting) (b end : ℕ) where
  abbrev made : ℕ → Progress → Purpose → ExtOp → ExtKind → Issue
  made n p purpose op kind = planned_issue b end n op (step_of e block s p purpose op kind)

  pub none_leave : (n : ℕ) (p : Progress) (ops : List ExtOp) → EachOp GoesBefore ops → EachOp SourceOp ops
      → All (λ (i : Issue). (o : Op) → i.instr ≡ Some o → is_transfer o ≡ true → ⊥) (issues_from e block s b end n p ops)
  none_leave n p [] calm source = All-nil (λ (i : Issue). (o : Op) → i.instr ≡ Some o → is_transfer o ≡ true → ⊥)
  none_leave n p (op ∷ ops) calm source =
      let purpose = purpose_at s.term (op ∷ ops) in
      let next = progress_of e block s p purpose op op.kind in
      let st = step_of e block s p purpose op op.kind in
      All-cons (λ (i : Issue). (o : Op) → i.instr ≡ Some o → is_transfer o ≡ true → ⊥) (planned_issue b end n op st)
      (issues_from e block s b end (n + 1) next ops) (λ o h t. calm_instr op.kind st.instr source.0 calm.0 o h t)
      (none_leave (n + 1) next ops calm.1 source.1)

  -- ---- behind a terminator the cycle stays

  record StaysAt (p : Progress) (purpose : Purpose) (op : ExtOp) (kind : ExtKind) : Type 0 where
    cycle : (progress_of e block s p purpose op kind).cycle ≡ p.cycle
    definer : (progress_of e block s p purpose op kind).definer ≡ Other

  stays_by : (p : Progress) (purpose : Purpose) (op : ExtOp) (kind : ExtKind) → IsLate kind → p.definer ≡ Other → purpose ≡ Unread
      → StaysAt p purpose op kind
  stays_by p purpose op (Copy D) late other unread = record {
    cycle = ap (λ (d : Definer). after_move e.table p.cycle (first_copy e.names block.live_in s p d)) other;
    definer = other;
  }
  stays_by p purpose op (Copy D2) late other unread = record {
    cycle = ap (λ (d : Definer). after_move e.table p.cycle (second_copy p (first_alts op.operands) d)) other;
    definer = other;
  }
  stays_by p purpose op (Copy U) late other unread = record {
    cycle = ap (λ (x : Purpose). next_cycle e.table p.cycle (operand_copy e.table s p (first_alts op.operands) x) x U) unread;
    definer = other;
  }
  stays_by p purpose op (Copy U2) late other unread = record {
    cycle = ap (λ (x : Purpose). next_cycle e.table p.cycle (truth_copy p (first_alts op.operands) x) x U2) unread;
    definer = other;
  }
  stays_by p purpose op Out late other unread = record { cycle = refl; definer = refl }
  stays_by p purpose op In late other unread = absurd late
  stays_by p purpose op (Body o) late other unread = absurd late
  stays_by p purpose op (End term) late other unread = absurd late
  stays_by p purpose op Enter late other unread = absurd late
  stays_by p purpose op Leave late other unread = absurd late

  unread_by : (kind : ExtKind) (following : Purpose) → IsLate kind → following ≡ Unread → purpose_of_out s.term ≡ Unread
      → purpose_of s.term kind following ≡ Unread
  unread_by (Copy node) following late h out = h
  unread_by Out following late h out = out
  unread_by In following late h out = absurd late
  unread_by (Body o) following late h out = absurd late
  unread_by (End term) following late h out = absurd late
  unread_by Enter following late h out = absurd late
  unread_by Leave following late h out = absurd late

  unread_at : (ops : List ExtOp) → EachOp LateOp ops → purpose_of_out s.term ≡ Unread → purpose_at s.term ops ≡ Unread
  unread_at [] late out = refl
  unread_at (op ∷ ops) late out = unread_by op.kind (purpose_at s.term ops) late.0 (unread_at ops late.1 out) out

  stays_at : (p : Progress) (ops : List ExtOp) → p.definer ≡ Other → EachOp LateOp ops → purpose_of_out s.term ≡ Unread
      → (progress_after e block s p ops).cycle ≡ p.cycle
  stays_at p [] other late out = refl
  stays_at p (op ∷ ops) other late out =
      let purpose = purpose_at s.term (op ∷ ops) in
      let here = stays_by p purpose op op.kind late.0 other (unread_at (op ∷ ops) late out) in
      stays_at (progress_of e block s p purpose op op.kind) ops here.definer late.1 out ∙ here.cycle

  -- ---- jumps

  jump_by : (n : ℕ) (p : Progress) (purpose : Purpose) (op : ExtOp) (kind : ExtKind) (ops : List ExtOp) → op.kind ≡ kind
      → IsFrontKind s.is_entry kind → EndsOnce kind ops → IsSourceKind kind → purpose_of_out s.term ≡ Unread
      → LeavesLast (progress_after e block s (progress_of e block s p purpose op kind) ops).cycle (made n p purpose op kind)
  jump_by n p purpose op (End Fall) ops is front once source out = absurd front
  jump_by n p purpose op (End (Ret value)) ops is front once source out = absurd front
  jump_by n p purpose op (End (Jump to)) ops is front once source out = λ o h t.
      let at : (made n p purpose op (End (Jump to))).cycle ≡ p.cycle = ap (λ (k : ExtKind). planned_cycle end k p.cycle) is in
      let stay = stays_at (progress_of e block s p purpose op (End (Jump to))) ops refl once out in
      let quick = transfer_latency e.table fit (Jump to) in
      omega arith
  jump_by n p purpose op (End (Branch pred true to)) ops is front once source out = λ o h t.
      let at : (made n p purpose op (End (Branch pred true to))).cycle ≡ p.cycle = ap (λ (k : ExtKind). planned_cycle end k p.cycle) is in
      let stay = stays_at (progress_of e block s p purpose op (End (Branch pred true to))) ops refl once out in
      let quick = transfer_latency e.table fit (Branch pred true to) in
      omega arith
  jump_by n p purpose op (End (Branch pred false to)) ops is front once source out = λ o h t.
      let at : (made n p purpose op (End (Branch pred false to))).cycle ≡ p.cycle = ap (λ (k : ExtKind). planned_cycle end k p.cycle) is in
      let stay = stays_at (progress_of e block s p purpose op (End (Branch pred false to))) ops refl once out in
      let quick = transfer_latency e.table fit (Branch pred false to) in
      omega arith
  jump_by n p purpose op kind ops is front once source out = λ o h t.
      absurd (calm_instr op.kind (step_of e block s p purpose op kind).instr (subst IsSourceKind (sym is) source) (ap is_end is) o h t)

  pub jumps_last : (n : ℕ) (p : Progress) (ops : List ExtOp) → AreFront s.is_entry ops → AreEnded ops → EachOp SourceOp ops
      → purpose_of_out s.term ≡ Unread
      → All (LeavesLast (progress_after e block s p ops).cycle) (issues_from e block s b end n p ops)
  jumps_last n p [] front ended source out = All-nil (LeavesLast p.cycle)
  jumps_last n p (op ∷ ops) front ended source out =
      let purpose = purpose_at s.term (op ∷ ops) in
      let next = progress_of e block s p purpose op op.kind in
      All-cons (LeavesLast (progress_after e block s next ops).cycle) (made n p purpose op op.kind)
      (issues_from e block s b end (n + 1) next ops)
      (jump_by n p purpose op op.kind ops refl front.0 ended.0 source.0 out)
      (jumps_last (n + 1) next ops front.1.1 ended.1 source.1 out)
