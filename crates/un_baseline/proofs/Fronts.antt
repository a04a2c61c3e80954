-- The operations of a block up to its return, or all of a block that does not return, issue one after another.
use Rattle.std.proofs.Common.{◌≡◌, ◌≢◌, ℕ, ◌+◌, ◌≤◌, Bool, true, false, List, [], ◌∷◌, Option, Some, None, refl, ap, subst, ◌∙◌, arith}
use Rattle.std.specs.Prelude.{◌==◌, if◌then◌else◌, All}
use Rattle.std.proofs.lemmas.List.Elements.{All-nil, All-cons}
use Rattle.un_base.specs.declared.ids.NameId.{NameId}
use Rattle.un_base.specs.declared.ids.TempId.{TempId}
use Rattle.un_isa.specs.declared.op.Op.{Op}
use Rattle.un_isa.specs.declared.op.Op.TheVariants.{Mov, Spill, Reload, P2R, R2P, Jump as JumpOp, Enter as EnterOp}
use Rattle.un_isa.specs.declared.table.Table.{Table}
use Rattle.un_isa.specs.Tables.{latency_of}
use Rattle.un_ir.specs.declared.function.Kind.{Kind}
use Rattle.un_ir.specs.declared.function.Kind.TheVariants.{General, Pred}
use Rattle.un_ir.specs.declared.function.Term.{Term}
use Rattle.un_ir.specs.declared.function.Term.TheVariants.{Fall, Jump, Branch, Ret}
use Rattle.un_ir.specs.declared.extended.NodeCopy.{NodeCopy}
use Rattle.un_ir.specs.declared.extended.NodeCopy.TheVariants.{D, D2, U, U2}
use Rattle.un_ir.specs.declared.extended.ExtKind.{ExtKind}
use Rattle.un_ir.specs.declared.extended.ExtKind.TheVariants.{In, Out, Body, End, Copy, Enter, Leave}
use Rattle.un_ir.specs.declared.extended.ExtOp.{ExtOp}
use Rattle.un_ir.specs.declared.extended.ExtBlock.{ExtBlock}
use Rattle.un_ir.specs.declared.extended.Ext.{Ext}
use Rattle.un_ir.specs.Extended.{name_kind}
use Rattle.un_model.specs.declared.schedule.Issue.{Issue}
use Rattle.un_model.specs.Instructions.{copy_of, instruction_of}
use Rattle.un_model.specs.Pairs.{pairs_from}
use Rattle.un_baseline.specs.declared.plan.Purpose.{Purpose}
use Rattle.un_baseline.specs.declared.plan.Purpose.TheVariants.{Operands, Link, Returned, Unread}
use Rattle.un_baseline.specs.declared.plan.Definer.{Definer}
use Rattle.un_baseline.specs.declared.plan.Definer.TheVariants.{Start, Assigns, Other}
use Rattle.un_baseline.specs.declared.plan.Setting.{Setting}
use Rattle.un_baseline.specs.declared.plan.Progress.{Progress}
use Rattle.un_baseline.specs.declared.plan.Move.{Move}
use Rattle.un_baseline.specs.Plans.{Step, planned_issue, planned_cycle}
use Rattle.un_baseline.specs.SpillEverywhere.{purpose_at, no_move, spilled_to, kept_by_kind, first_copy, second_copy, first_alts, copy_move}
use Rattle.un_baseline.specs.SpillEverywhere.{after_move, next_cycle, step_of, progress_of, steps_of, progress_after}
use Rattle.un_baseline.proofs.SpillSteps.{EachOp}
use Rattle.un_baseline.proofs.Timing.{Rise, nothing, still, enters, issues}

-- ---- purposes

-- copies of operands are for an operation, or for nothing
abbrev pub IsCalm : Purpose → Type 0
IsCalm Operands = Unit {0}
IsCalm Unread = Unit {0}
IsCalm _ = ⊥

-- a copy issues in the cycle that has come, and the next comes after its latency; or it does nothing
pub data Moves (t : Table) (now next : ℕ) (m : Move) : Type 0 where
  rests : m ≡ no_move → next ≡ now → Moves t now next m
  goes : (o : Op) → copy_of m.instr ≡ Some o → o ≢ EnterOp → m.cycle ≡ now → next ≡ now + latency_of t o → Moves t now next m

spill_moves : (t : Table) (slot : Option ℕ) (now : ℕ) → Moves t now (after_move t now (spilled_to slot now)) (spilled_to slot now)
spill_moves t None now = rests refl refl
spill_moves t (Some slot) now = goes Spill refl (λ e. cc e) refl refl

kept_moves : (t : Table) (kind : Kind) (name : NameId) (now : ℕ)
    → Moves t now (after_move t now (kept_by_kind kind name now)) (kept_by_kind kind name now)
kept_moves t General name now = goes Spill refl (λ e. cc e) refl refl
kept_moves t Pred name now = goes P2R refl (λ e. cc e) refl refl

first_moves : (t : Table) (names : List Kind) (live_in : List NameId) (s : Setting) (p : Progress) (d : Definer)
    → Moves t p.cycle (after_move t p.cycle (first_copy names live_in s p d)) (first_copy names live_in s p d)
first_moves t names live_in s p Start = spill_moves t _ p.cycle
first_moves t names live_in s p (Assigns name) = kept_moves t (name_kind names name) name p.cycle
first_moves t names live_in s p Other = rests refl refl

second_moves : (t : Table) (p : Progress) (alts : List TempId) (d : Definer)
    → Moves t p.cycle (after_move t p.cycle (second_copy p alts d)) (second_copy p alts d)
second_moves t p alts Start = rests refl refl
second_moves t p alts (Assigns name) = goes Spill refl (λ e. cc e) refl refl
second_moves t p alts Other = rests refl refl

pub copy_moves : (e : Ext) (live_in : List NameId) (s : Setting) (p : Progress) (purpose : Purpose) (alts : List TempId)
    (node : NodeCopy) → IsCalm purpose
    → (let m = copy_move e live_in s p purpose alts node in Moves e.table p.cycle (next_cycle e.table p.cycle m purpose node) m)
copy_moves e live_in s p purpose alts D calm = first_moves e.table e.names live_in s p p.definer
copy_moves e live_in s p purpose alts D2 calm = second_moves e.table p alts p.definer
copy_moves e live_in s p Operands alts U calm = goes Reload refl (λ h. cc h) refl refl
copy_moves e live_in s p Unread alts U calm = rests refl refl
copy_moves e live_in s p Link alts U calm = absurd calm
copy_moves e live_in s p Returned alts U calm = absurd calm
copy_moves e live_in s p Operands alts U2 calm = goes R2P refl (λ h. cc h) refl refl
copy_moves e live_in s p Unread alts U2 calm = rests refl refl
copy_moves e live_in s p Link alts U2 calm = absurd calm
copy_moves e live_in s p Returned alts U2 calm = absurd calm

-- ---- operations

-- neither Leave nor a return; Enter stands in the entry alone
abbrev pub IsFrontKind : Bool → ExtKind → Type 0
IsFrontKind entry Enter = entry ≡ true
IsFrontKind entry Leave = ⊥
IsFrontKind entry (Body o) = o.op ≢ EnterOp
IsFrontKind entry (End Fall) = ⊥
IsFrontKind entry (End (Ret value)) = ⊥
IsFrontKind entry _ = Unit {0}

abbrev pub IsEnter : ExtKind → Type 0
IsEnter Enter = Unit {0}
IsEnter _ = ⊥

-- no Enter comes after Enter
abbrev pub EntersOnce : ExtKind → List ExtOp → Type 0
EntersOnce Enter ops = EachOp (λ (op : ExtOp). IsEnter op.kind → ⊥) ops
EntersOnce _ ops = Unit {0}

abbrev pub AreFront : Bool → List ExtOp → Type 0
AreFront entry [] = Unit {0}
AreFront entry (op ∷ ops) = IsFrontKind entry op.kind × (EntersOnce op.kind ops × AreFront entry ops)

-- in a block that does not return no copies are for a return; nor are they before a return's Leave
abbrev pub AreCalm : Term → List ExtOp → Type 0
AreCalm term [] = Unit {0}
AreCalm term (op ∷ ops) = IsCalm (purpose_at term (op ∷ ops)) × AreCalm term ops

never_by : (a b c d f : Bool) → (if a then Some Mov else (if b then Some Spill else (if c then Some Reload else
    (if d then Some P2R else (if f then Some R2P else None))))) ≢ Some EnterOp
never_by true b c d f h = cc h
never_by false true c d f h = cc h
never_by false false true d f h = cc h
never_by false false false true f h = cc h
never_by false false false false true h = cc h
never_by false false false false false h = cc h

copy_never_enters : (n : ℕ) → copy_of n ≢ Some EnterOp
copy_never_enters n h = never_by (n == 1) (n == 2) (n == 3) (n == 4) (n == 5) h

not_enter : (entry : Bool) (kind : ExtKind) (n : ℕ) → (IsEnter kind → ⊥) → IsFrontKind entry kind → instruction_of kind n ≢ Some EnterOp
not_enter entry In n other front h = cc h
not_enter entry Out n other front h = cc h
not_enter entry (Body o) n other front h = let e : o.op ≡ EnterOp = cc h in front e
not_enter entry (End Fall) n other front h = cc h
not_enter entry (End (Jump to)) n other front h = cc h
not_enter entry (End (Branch pred true to)) n other front h = cc h
not_enter entry (End (Branch pred false to)) n other front h = cc h
not_enter entry (End (Ret value)) n other front h = cc h
not_enter entry (Copy node) n other front h = copy_never_enters n h
not_enter entry Enter n other front h = other tt
not_enter entry Leave n other front h = absurd front

module _ (e : Ext) (block : ExtBlock) (s : Setting) (b end : ℕ) where
  -- the issues of operations from number n on
  abbrev pub issues_from : ℕ → Progress → List ExtOp → List Issue
  issues_from n p ops = pairs_from (planned_issue b end) n ops (steps_of e block s p ops)

  never_enter : (n : ℕ) (p : Progress) (ops : List ExtOp) → EachOp (λ (op : ExtOp). IsEnter op.kind → ⊥) ops → AreFront s.is_entry ops
      → All (λ (j : Issue). j.instr ≢ Some EnterOp) (issues_from n p ops)
  never_enter n p [] other front = All-nil (λ (j : Issue). j.instr ≢ Some EnterOp)
  never_enter n p (op ∷ ops) other front =
      let purpose = purpose_at s.term (op ∷ ops) in
      All-cons (λ (j : Issue). j.instr ≢ Some EnterOp) (planned_issue b end n op (step_of e block s p purpose op op.kind)) (issues_from
      (n + 1) (progress_of e block s p purpose op op.kind) ops)
      (not_enter s.is_entry op.kind (step_of e block s p purpose op op.kind).instr other.0 front.0)
      (never_enter (n + 1) (progress_of e block s p purpose op op.kind) ops other.1 front.1.1)

  module _ (first high : ℕ) where
    issues_then : (i : Issue) (is : List Issue) (o : Op) (now next : ℕ) → i.instr ≡ Some o → o ≢ EnterOp → i.cycle ≡ now
        → next ≡ now + latency_of e.table o → Rise e.table first high next is
        → Rise e.table first high now (i ∷ is)
    issues_then i is o now next io ne at after h =
        let low : next ≡ i.cycle + latency_of e.table o = omega arith in
        issues o io ne (omega arith) (subst (λ (x : ℕ). Rise e.table first high x is) low h)

    issues_next : (i : Issue) (is : List Issue) (o : Op) (now : ℕ) → i.instr ≡ Some o → o ≢ EnterOp → i.cycle ≡ now
        → Rise e.table first high (now + latency_of e.table o) is → Rise e.table first high now (i ∷ is)
    issues_next i is o now io ne at h = issues_then i is o now (now + latency_of e.table o) io ne at refl h

    copy_then : (n : ℕ) (op : ExtOp) (node : NodeCopy) (st : Step) (m : Move) (now next : ℕ) (is : List Issue) → op.kind ≡ Copy node
        → st.instr ≡ m.instr → st.cycle ≡ m.cycle → Moves e.table now next m
        → Rise e.table first high next is → Rise e.table first high now (planned_issue b end n op st ∷ is)
    copy_then n op node st m now next is kind instr cycle (rests still' same) h =
        still (ap (λ (k : ExtKind). instruction_of k st.instr) kind ∙ ap copy_of (instr
        ∙ ap (λ (x : Move). x.instr) still')) (subst (λ (x : ℕ). Rise e.table first high x is) same h)
    copy_then n op node st m now next is kind instr cycle (goes o is_o ne at after) h =
        issues_then (planned_issue b end n op st) is o now next (ap (λ (k : ExtKind). instruction_of k st.instr) kind
        ∙ ap copy_of instr ∙ is_o) ne
        (ap (λ (k : ExtKind). planned_cycle end k st.cycle) kind ∙ cycle ∙ at) after h

    front_step : (n : ℕ) (p : Progress) (purpose : Purpose) (op : ExtOp) (kind : ExtKind) (is : List Issue) → op.kind ≡ kind
        → IsFrontKind s.is_entry kind → IsCalm purpose
        → (s.is_entry ≡ true → 1 + latency_of e.table EnterOp ≤ first) → (IsEnter kind → All (λ (j : Issue). j.instr ≢ Some EnterOp) is)
        → Rise e.table first high (progress_of e block s p purpose op kind).cycle is
        → Rise e.table first high p.cycle (planned_issue b end n op (step_of e block s p purpose op kind) ∷ is)
    front_step n p purpose op In is kind front calm early once h = still (ap (λ (k : ExtKind). instruction_of k 0) kind) h
    front_step n p purpose op Out is kind front calm early once h = still (ap (λ (k : ExtKind). instruction_of k 0) kind) h
    front_step n p purpose op (Body o) is kind front calm early once h =
        issues_then _ is o.op p.cycle (p.cycle + latency_of e.table o.op) (ap (λ (k : ExtKind). instruction_of k 0) kind) front (ap (λ
        (k : ExtKind). planned_cycle end k p.cycle) kind) refl h
    front_step n p purpose op (End Fall) is kind front calm early once h = absurd front
    front_step n p purpose op (End (Jump to)) is kind front calm early once h =
        issues_then _ is JumpOp p.cycle (p.cycle + latency_of e.table JumpOp) (ap (λ (k : ExtKind). instruction_of k 0) kind)
        (λ q. cc q) (ap (λ (k : ExtKind). planned_cycle end k p.cycle) kind) refl h
    front_step n p purpose op (End (Branch pred true to)) is kind front calm early once h =
        issues_next _ is _ p.cycle (ap (λ (k : ExtKind). instruction_of k 0) kind) (λ q. cc q)
        (ap (λ (k : ExtKind). planned_cycle end k p.cycle) kind) h
    front_step n p purpose op (End (Branch pred false to)) is kind front calm early once h =
        issues_next _ is _ p.cycle (ap (λ (k : ExtKind). instruction_of k 0) kind) (λ q. cc q)
        (ap (λ (k : ExtKind). planned_cycle end k p.cycle) kind) h
    front_step n p purpose op (End (Ret value)) is kind front calm early once h = absurd front
    front_step n p purpose op (Copy node) is kind front calm early once h =
        let m = copy_move e block.live_in s p purpose (first_alts op.operands) node in
        copy_then n op node (step_of e block s p purpose op (Copy node)) m p.cycle
        (next_cycle e.table p.cycle m purpose node) is kind refl refl (copy_moves e block.live_in s p purpose
        (first_alts op.operands) node calm) h
    front_step n p purpose op Enter is kind front calm early once h =
        enters (ap (λ (k : ExtKind). instruction_of k 1) kind)
        (let at : planned_cycle end op.kind 1 ≡ 1 = ap (λ (k : ExtKind). planned_cycle end k 1) kind in omega arith)
        (let at : planned_cycle end op.kind 1 ≡ 1 = ap (λ (k : ExtKind). planned_cycle end k 1) kind in let le = early front in omega arith)
        (once tt) h
    front_step n p purpose op Leave is kind front calm early once h = absurd front

  once_by : (n : ℕ) (p : Progress) (ops : List ExtOp) (kind : ExtKind) → EntersOnce kind ops → AreFront s.is_entry ops → IsEnter kind
      → All (λ (j : Issue). j.instr ≢ Some EnterOp) (issues_from n p ops)
  once_by n p ops Enter once front is = never_enter n p ops once front
  once_by n p ops In once front is = absurd is
  once_by n p ops Out once front is = absurd is
  once_by n p ops (Body o) once front is = absurd is
  once_by n p ops (End term) once front is = absurd is
  once_by n p ops (Copy node) once front is = absurd is
  once_by n p ops Leave once front is = absurd is

  pub front_rises : (first n : ℕ) (p : Progress) (ops : List ExtOp) → AreFront s.is_entry ops → AreCalm s.term ops
      → (s.is_entry ≡ true → 1 + latency_of e.table EnterOp ≤ first)
      → Rise e.table first (progress_after e block s p ops).cycle p.cycle (issues_from n p ops)
  front_rises first n p [] front calm early = nothing (omega arith)
  front_rises first n p (op ∷ ops) front calm early =
      let purpose = purpose_at s.term (op ∷ ops) in
      let next = progress_of e block s p purpose op op.kind in
      front_step first (progress_after e block s next ops).cycle n p purpose op op.kind (issues_from
      (n + 1) next ops) refl front.0 calm.0 early
      (once_by (n + 1) next ops op.kind front.1.0 front.1.1)
      (front_rises first (n + 1) next ops front.1.1 calm.1 early)
