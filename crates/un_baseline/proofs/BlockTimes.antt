-- The times of a block of the plan: when each instruction issues, and that each comes behind those before it.
use Rattle.std.proofs.Common.{◌≡◌, ◌≢◌, ℕ, ◌+◌, ◌<◌, ◌≤◌, Bool, true, false, List, [], ◌∷◌, ◌++◌, length, get_or, append-nil, Option, Some}
use Rattle.std.proofs.Common.{None, refl, sym, ap, subst, ◌∙◌, arith}
use Rattle.std.specs.Prelude.{◌==◌, if◌then◌else◌, All, AllPairs}
use Rattle.std.proofs.lemmas.List.Elements.{All-nil, All-cons}
use Rattle.std.proofs.lemmas.List.Kept.{AllPairs-cons}
use Rattle.un_isa.specs.declared.op.Op.{Op}
use Rattle.un_isa.specs.declared.op.Op.TheVariants.{Mov, Spill, Reload, P2R, R2P, Jumpr, Enter as EnterOp, Leave as LeaveOp}
use Rattle.un_isa.specs.declared.table.Table.{Table}
use Rattle.un_isa.specs.Fit.{IsFit}
use Rattle.un_isa.specs.Tables.{latency_of}
use Rattle.un_isa.specs.Does.{is_transfer}
use Rattle.un_ir.specs.declared.function.Term.{Term}
use Rattle.un_ir.specs.declared.function.Term.TheVariants.{Fall, Jump, Branch, Ret}
use Rattle.un_base.specs.declared.ids.NameId.{NameId}
use Rattle.un_ir.specs.declared.extended.NodeCopy.TheVariants.{D, D2, U, U2}
use Rattle.un_ir.specs.declared.extended.ExtKind.{ExtKind}
use Rattle.un_ir.specs.declared.extended.ExtKind.TheVariants.{In, Out, Body, End, Copy, Enter, Leave}
use Rattle.un_ir.specs.declared.extended.ExtOp.{ExtOp}
use Rattle.un_ir.specs.declared.extended.ExtBlock.{ExtBlock}
use Rattle.un_ir.specs.declared.extended.Ext.{Ext}
use Rattle.un_model.specs.declared.schedule.Issue.{Issue}
use Rattle.un_model.specs.Congruences.{term_of}
use Rattle.un_model.specs.Instructions.{instruction_of}
use Rattle.un_baseline.specs.declared.plan.Purpose.{Purpose}
use Rattle.un_baseline.specs.declared.plan.Purpose.TheVariants.{Operands, Link, Returned, Unread}
use Rattle.un_baseline.specs.declared.plan.Move.{Move}
use Rattle.un_baseline.specs.declared.plan.Setting.{Setting}
use Rattle.un_baseline.specs.declared.plan.Progress.{Progress}
use Rattle.un_baseline.specs.Plans.{planned_issue, planned_issues}
use Rattle.un_baseline.specs.SpillEverywhere.{purpose_of_out, purpose_of, purpose_at, first_alts, copy_move, next_cycle, step_of}
use Rattle.un_baseline.specs.SpillEverywhere.{progress_of, progress_after, setting_of, first_progress, first_cycle, leave_cycle, end_cycle}
use Rattle.un_baseline.specs.SpillEverywhere.{block_end, block_plan}
use Rattle.un_baseline.proofs.OneAtATime.{AreSeparated}
use Rattle.un_baseline.proofs.SpillSteps.{EachOp, EachBlockOp}
use Rattle.un_baseline.proofs.Timing.{Rise, still, enters, issues, pairs_nil, IsBetween, idle, entering, within, all_between, rise_bound}
use Rattle.un_baseline.proofs.Fronts.{IsCalm, AreFront, IsFrontKind, issues_from, front_rises}
use Rattle.un_baseline.proofs.Tails.{IsReading, first_one, second_one, AreForLink, IsIn, free, inside, IsTail, none_there as none_there_yet}
use Rattle.un_baseline.proofs.Tails.{reload_there, leave_there, return_there, IsEnd, return_end}
use Rattle.un_baseline.proofs.Layouts.{GoesOn, Returns, IsLaidOut, AreLaidOut, onward, back, purpose_split, issues_split, each_weaker}
use Rattle.un_baseline.proofs.Layouts.{each_of_all, are_calm, early_by}
use Rattle.un_baseline.proofs.Shapes.{each_append, link_reads}
use Rattle.un_baseline.proofs.BlockShapes.{goes_by, unread_out}
use Rattle.un_baseline.proofs.Terminators.{IsLate, IsSourceKind, SourceOp, source_stays, AreEnded, LeavesLast, none_ends, none_leave}
use Rattle.un_baseline.proofs.Terminators.{jumps_last, each_left}

-- ---- in turn

-- what comes behind an instruction waits for its latency, but for Enter
abbrev pub IsInTurn : Table → Issue → Issue → Type 0
IsInTurn t i j = (o q : Op) → i.instr ≡ Some o → o ≢ EnterOp → j.instr ≡ Some q → q ≢ EnterOp → i.cycle + latency_of t o ≤ j.cycle

pub no_op : (i : Issue) (o : Op) → i.instr ≡ None → i.instr ≡ Some o → ⊥
no_op i o a b = let e : None ≡ Some o = sym a ∙ b in cc e

same_op : (i : Issue) (o q : Op) → i.instr ≡ Some o → i.instr ≡ Some q → o ≡ q
same_op i o q a b = let e : Some o ≡ Some q = sym a ∙ b in cc e

behind_turn : (t : Table) (first low high : ℕ) (i j : Issue) (p : Op) → i.instr ≡ Some p → i.cycle + latency_of t p ≤ low
    → IsBetween t first low high j → IsInTurn t i j
behind_turn t first low high i j p is le (idle e) o q io ne jq nq = absurd (no_op j q e jq)
behind_turn t first low high i j p is le (entering e one lt) o q io ne jq nq = absurd (nq (same_op j q EnterOp jq e))
behind_turn t first low high i j p is le (within r e other lo hi) o q io ne jq nq =
    let same = same_op i p o is io in subst (λ (x : Op). i.cycle + latency_of t x ≤ j.cycle) same (omega arith)

pub rise_turns : (t : Table) (first high low : ℕ) (is : List Issue) → Rise t first high low is → AllPairs (IsInTurn t) is
rise_turns t first high low [] h = pairs_nil (IsInTurn t)
rise_turns t first high low (i ∷ is) (still e h) =
    AllPairs-cons (IsInTurn t) i is (λ k d lt o q io ne jq nq. absurd (no_op i o e io)) (rise_turns t first high low is h)
rise_turns t first high low (i ∷ is) (enters e one lt other h) =
    AllPairs-cons (IsInTurn t) i is (λ k d lt' o q io ne jq nq. absurd (ne (same_op i o EnterOp io e))) (rise_turns t first high low is h)
rise_turns t first high low (i ∷ is) (issues p e other lo h) =
    let next = i.cycle + latency_of t p in
    let between = all_between t first high next is h in
    AllPairs-cons (IsInTurn t) i is (λ k d lt. behind_turn t first next high i (get_or is k d) p e (omega arith) (between k d lt))
    (rise_turns t first high next is h)

-- ---- the times of a block

-- Enter is done by `first`; what comes before Leave issues from then on and is done by `now`; what comes behind it are reloads
-- before the cycle `left`, Leave in that cycle or later, and the return in the cycle before the end
pub data IsTimed (t : Table) (first now left end : ℕ) (i : Issue) : Type 0 where
  none_there : i.instr ≡ None → IsTimed t first now left end i
  entered : i.instr ≡ Some EnterOp → 1 ≤ i.cycle → i.cycle + latency_of t EnterOp ≤ first → IsTimed t first now left end i
  early : (o : Op) → i.instr ≡ Some o → o ≢ EnterOp → o ≢ LeaveOp → first ≤ i.cycle → i.cycle + latency_of t o ≤ now
      → (is_transfer o ≡ true → i.cycle + 1 ≡ end) → IsTimed t first now left end i
  reloads : i.instr ≡ Some Reload → now ≤ i.cycle → i.cycle + latency_of t Reload ≤ end → i.cycle ≤ left → IsTimed t first now left end i
  leaves : i.instr ≡ Some LeaveOp → left ≤ i.cycle → i.cycle + latency_of t LeaveOp ≤ end → IsTimed t first now left end i
  returns : i.instr ≡ Some Jumpr → left < i.cycle → i.cycle + 1 ≡ end → IsTimed t first now left end i

pub record BlockTimes (t : Table) (first end : ℕ) (is : List Issue) : Type 0 where
  pub front : List Issue
  pub tail : List Issue
  pub now : ℕ
  pub left : ℕ
  pub whole : is ≡ front ++ tail
  pub front_timed : All (IsTimed t first now left end) front
  pub turns : AllPairs (IsInTurn t) front
  pub by_now : All (λ (i : Issue). (o : Op) → i.instr ≡ Some o → i.cycle + latency_of t o ≤ now) front
  pub tail_timed : All (IsTimed t first now left end) tail
  pub from_now : All (λ (i : Issue). (o : Op) → i.instr ≡ Some o → now ≤ i.cycle) tail
  pub separated : AllPairs (AreSeparated t) tail
  pub entered_by : first ≤ now
  pub now_left : now ≤ left
  pub now_end : now ≤ end

pub differ : (i : Issue) (o q : Op) → i.instr ≡ Some o → i.instr ≡ Some q → o ≢ q → ⊥
differ i o q a b ne = let e : Some o ≡ Some q = sym a ∙ b in ne (cc e)

-- what is not Enter comes behind it
pub behind_first : (t : Table) (first now left end : ℕ) → first ≤ now → now ≤ left → (j : Issue) (q : Op) → IsTimed t first now left end j
    → j.instr ≡ Some q → q ≢ EnterOp → first ≤ j.cycle
behind_first t first now left end a b j q (none_there e) is other = absurd (no_op j q e is)
behind_first t first now left end a b j q (entered e one lt) is other = absurd (differ j q EnterOp is e other)
behind_first t first now left end a b j q (early o e x y lo hi last) is other = lo
behind_first t first now left end a b j q (reloads e lo hi le) is other = omega arith
behind_first t first now left end a b j q (leaves e lo hi) is other = omega arith
behind_first t first now left end a b j q (returns e lo hi) is other = omega arith

-- ---- what issues before Leave

front_timed : (t : Table) (first now left end : ℕ) (i : Issue) → IsBetween t first first now i → i.instr ≢ Some LeaveOp
    → ((o : Op) → i.instr ≡ Some o → is_transfer o ≡ true → i.cycle + 1 ≡ end) → IsTimed t first now left end i
front_timed t first now left end i (idle e) stays last = none_there e
front_timed t first now left end i (entering e one le) stays last = entered e one le
front_timed t first now left end i (within o e ne lo hi) stays last =
    early o e ne (λ leave. stays (e ∙ ap (λ (x : Op). Some x) leave)) lo hi (last o e)

all_timed : (t : Table) (first now left end : ℕ) (is : List Issue) → All (IsBetween t first first now) is
    → All (λ (i : Issue). i.instr ≢ Some LeaveOp) is → All (λ (i : Issue). (o : Op) → i.instr ≡ Some o → is_transfer o ≡ true
    → i.cycle + 1 ≡ end) is → All (IsTimed t first now left end) is
all_timed t first now left end is between stays last = λ k d lt. front_timed t first now left end (get_or is k d) (between k d lt)
    (stays k d lt) (last k d lt)

between_by : (t : Table) (first now : ℕ) (i : Issue) → first ≤ now → IsBetween t first first now i → (o : Op) → i.instr ≡ Some o
    → i.cycle + latency_of t o ≤ now
between_by t first now i le (idle e) o io = absurd (no_op i o e io)
between_by t first now i le (entering e one lt) o io =
    let same = same_op i EnterOp o e io in subst (λ (x : Op). i.cycle + latency_of t x ≤ now) same (omega arith)
between_by t first now i le (within r e ne lo hi) o io =
    let same = same_op i r o e io in subst (λ (x : Op). i.cycle + latency_of t x ≤ now) same hi

-- no Leave issues before Leave
copy_stays : (a b c d f : Bool) → (if a then Some Mov else (if b then Some Spill else (if c then Some Reload else
    (if d then Some P2R else (if f then Some R2P else None))))) ≢ Some LeaveOp
copy_stays true b c d f h = cc h
copy_stays false true c d f h = cc h
copy_stays false false true d f h = cc h
copy_stays false false false true f h = cc h
copy_stays false false false false true h = cc h
copy_stays false false false false false h = cc h

enter_stays : (idle : Bool) → (if idle then None else Some EnterOp) ≢ Some LeaveOp
enter_stays true h = cc h
enter_stays false h = cc h

never_leaves : (entry : Bool) (kind : ExtKind) (n : ℕ) → IsFrontKind entry kind → IsSourceKind kind → instruction_of kind n ≢ Some LeaveOp
never_leaves entry In n front source h = cc h
never_leaves entry Out n front source h = cc h
never_leaves entry (Body o) n front source h = source_stays o.op source (let e : o.op ≡ LeaveOp = cc h in e)
never_leaves entry (End Fall) n front source h = cc h
never_leaves entry (End (Jump to)) n front source h = cc h
never_leaves entry (End (Branch pred true to)) n front source h = cc h
never_leaves entry (End (Branch pred false to)) n front source h = cc h
never_leaves entry (End (Ret value)) n front source h = cc h
never_leaves entry (Copy node) n front source h = copy_stays (n == 1) (n == 2) (n == 3) (n == 4) (n == 5) h
never_leaves entry Enter n front source h = enter_stays (n == 0) h
never_leaves entry Leave n front source h = absurd front

module _ (e : Ext) (block : ExtBlock) (s : Setting) (b end : ℕ) where
  none_leaves : (n : ℕ) (p : Progress) (ops : List ExtOp) → AreFront s.is_entry ops → EachOp SourceOp ops
      → All (λ (i : Issue). i.instr ≢ Some LeaveOp) (issues_from e block s b end n p ops)
  none_leaves n p [] front source = All-nil (λ (i : Issue). i.instr ≢ Some LeaveOp)
  none_leaves n p (op ∷ ops) front source =
      let purpose = purpose_at s.term (op ∷ ops) in
      let next = progress_of e block s p purpose op op.kind in
      let st = step_of e block s p purpose op op.kind in
      All-cons (λ (i : Issue). i.instr ≢ Some LeaveOp) (planned_issue b end n op st) (issues_from e block s b end (n + 1) next ops)
      (never_leaves s.is_entry op.kind st.instr front.0 source.0) (none_leaves (n + 1) next ops front.1.1 source.1)

-- ---- what issues from Leave on

tail_timed : (t : Table) (first now left last end : ℕ) (i : Issue) → left < last → last + 1 ≡ end → IsIn t now end i → IsTail left last i
    → IsTimed t first now left end i
tail_timed t first now left last end i lt final there (none_there_yet e) = none_there e
tail_timed t first now left last end i lt final (free e) (reload_there f le) = none_there e
tail_timed t first now left last end i lt final (inside o e lo hi) (reload_there f le) =
    let same = same_op i o Reload e f in reloads f lo (subst (λ (x : Op). i.cycle + latency_of t x ≤ end) same hi) le
tail_timed t first now left last end i lt final (free e) (leave_there f ge lt') = none_there e
tail_timed t first now left last end i lt final (inside o e lo hi) (leave_there f ge lt') =
    let same = same_op i o LeaveOp e f in leaves f ge (subst (λ (x : Op). i.cycle + latency_of t x ≤ end) same hi)
tail_timed t first now left last end i lt final there (return_there f at) = returns f (omega arith) (omega arith)

in_by : (t : Table) (now end : ℕ) (i : Issue) → IsIn t now end i → (o : Op) → i.instr ≡ Some o → now ≤ i.cycle
in_by t now end i (free e) o io = absurd (no_op i o e io)
in_by t now end i (inside r e lo hi) o io = lo

-- ---- from Leave on the cycle stays

abbrev pub IsTailKind : ExtKind → Type 0
IsTailKind Leave = Unit {0}
IsTailKind (Copy U) = Unit {0}
IsTailKind (Copy U2) = Unit {0}
IsTailKind (End (Ret value)) = Unit {0}
IsTailKind Out = Unit {0}
IsTailKind _ = ⊥

abbrev pub TailOp : ExtOp → Type 0
TailOp op = IsTailKind op.kind

abbrev IsTailPurpose : Purpose → Type 0
IsTailPurpose Operands = ⊥
IsTailPurpose _ = Unit {0}

reading_tail : (kind : ExtKind) → IsReading kind → IsTailKind kind
reading_tail kind (first_one h) = subst IsTailKind (sym h) tt
reading_tail kind (second_one h) = subst IsTailKind (sym h) tt

out_purpose : (term : Term) → IsTailPurpose (purpose_of_out term)
out_purpose Fall = tt
out_purpose (Jump to) = tt
out_purpose (Branch pred sense to) = tt
out_purpose (Ret None) = tt
out_purpose (Ret (Some name)) = tt

module _ (e : Ext) (block : ExtBlock) (s : Setting) (b end : ℕ) where
  tail_purpose_by : (kind : ExtKind) (following : Purpose) → IsTailKind kind → IsTailPurpose following
      → IsTailPurpose (purpose_of s.term kind following)
  tail_purpose_by Leave following tail h = tt
  tail_purpose_by (Copy node) following tail h = h
  tail_purpose_by (End (Ret value)) following tail h = tt
  tail_purpose_by Out following tail h = out_purpose s.term
  tail_purpose_by (End Fall) following tail h = absurd tail
  tail_purpose_by (End (Jump to)) following tail h = absurd tail
  tail_purpose_by (End (Branch pred sense to)) following tail h = absurd tail
  tail_purpose_by In following tail h = absurd tail
  tail_purpose_by (Body o) following tail h = absurd tail
  tail_purpose_by Enter following tail h = absurd tail

  tail_purpose : (ops : List ExtOp) → EachOp TailOp ops → IsTailPurpose (purpose_at s.term ops)
  tail_purpose [] tail = tt
  tail_purpose (op ∷ ops) tail = tail_purpose_by op.kind (purpose_at s.term ops) tail.0 (tail_purpose ops tail.1)

  copy_stays_at : (p : Progress) (purpose : Purpose) (m : Move) → IsTailPurpose purpose
      → (next_cycle e.table p.cycle m purpose U ≡ p.cycle) × (next_cycle e.table p.cycle m purpose U2 ≡ p.cycle)
  copy_stays_at p Operands m h = absurd h
  copy_stays_at p Link m h = (refl, refl)
  copy_stays_at p Returned m h = (refl, refl)
  copy_stays_at p Unread m h = (refl, refl)

  tail_stays_by : (p : Progress) (purpose : Purpose) (op : ExtOp) (kind : ExtKind) → IsTailKind kind → IsTailPurpose purpose
      → (progress_of e block s p purpose op kind).cycle ≡ p.cycle
  tail_stays_by p purpose op Leave tail h = refl
  tail_stays_by p purpose op (Copy U) tail h = (copy_stays_at p purpose (copy_move e block.live_in s p purpose (first_alts op.operands)
      U) h).0
  tail_stays_by p purpose op (Copy U2) tail h = (copy_stays_at p purpose (copy_move e block.live_in s p purpose (first_alts op.operands)
      U2) h).1
  tail_stays_by p purpose op (End (Ret value)) tail h = refl
  tail_stays_by p purpose op Out tail h = refl
  tail_stays_by p purpose op (Copy D) tail h = absurd tail
  tail_stays_by p purpose op (Copy D2) tail h = absurd tail
  tail_stays_by p purpose op (End Fall) tail h = absurd tail
  tail_stays_by p purpose op (End (Jump to)) tail h = absurd tail
  tail_stays_by p purpose op (End (Branch pred sense to)) tail h = absurd tail
  tail_stays_by p purpose op In tail h = absurd tail
  tail_stays_by p purpose op (Body o) tail h = absurd tail
  tail_stays_by p purpose op Enter tail h = absurd tail

  pub tail_stays : (p : Progress) (ops : List ExtOp) → EachOp TailOp ops → (progress_after e block s p ops).cycle ≡ p.cycle
  tail_stays p [] tail = refl
  tail_stays p (op ∷ ops) tail =
      let purpose = purpose_at s.term (op ∷ ops) in
      tail_stays (progress_of e block s p purpose op op.kind) ops tail.1
      ∙ tail_stays_by p purpose op op.kind tail.0 (tail_purpose (op ∷ ops) tail)

  pub progress_split : (p : Progress) (ops more : List ExtOp) → purpose_at s.term more ≡ Unread
      → progress_after e block s p (ops ++ more) ≡ progress_after e block s (progress_after e block s p ops) more
  progress_split p [] more h = refl
  progress_split p (op ∷ ops) more h =
      let part = purpose_at s.term (op ∷ ops) in
      ap (λ (x : Purpose). progress_after e block s (progress_of e block s p (purpose_of s.term op.kind x) op op.kind) (ops ++ more))
      (purpose_split e block s b end ops more h)
      ∙ progress_split (progress_of e block s p part op op.kind) ops more h

-- from Leave on
pub tail_ops : (leave : ExtOp) (us : List ExtOp) (op : ExtOp) (late : List ExtOp) (out : ExtOp) (value : Option NameId) → leave.kind ≡ Leave
    → AreForLink us → op.kind ≡ End (Ret value) → EachOp (λ (o : ExtOp). IsReading o.kind) late → out.kind ≡ Out
    → EachOp TailOp (leave ∷ (us ++ (op ∷ (late ++ out ∷ []))))
tail_ops leave us op late out value is_leave for is_return is_late is_out =
    let readings : (os : List ExtOp) → EachOp (λ (o : ExtOp). IsReading o.kind) os → EachOp TailOp os = λ os h.
    each_weaker (λ (o : ExtOp). IsReading o.kind) TailOp (λ o r. reading_tail o.kind r) os h in (
      subst IsTailKind (sym is_leave) tt,
      each_append TailOp us (op ∷ (late ++ out ∷ [])) (readings us (link_reads us for)) (
        subst IsTailKind (sym is_return) tt,
        each_append TailOp late (out ∷ []) (readings late is_late) (subst IsTailKind (sym is_out) tt, tt),
      ),
    )

-- ---- blocks

no_return : (entry : Bool) (block : ExtBlock) → AreFront entry block.ops → purpose_of_out (term_of block.ops) ≡ Unread
no_return entry block front = unread_out (term_of block.ops) (goes_by entry block.ops front)

module _ (e : Ext) (fit : IsFit e.table) where
  abbrev block_issues : Bool → ExtBlock → ℕ → ℕ → ℕ → List Issue
  block_issues entry block b end n = issues_from e block (setting_of e entry block) b end n (first_progress e entry) block.ops

  onward_times : (entry : Bool) (block : ExtBlock) (b end n : ℕ) → GoesOn entry block → EachOp SourceOp block.ops → AreEnded block.ops
      → (progress_after e block (setting_of e entry block) (first_progress e entry) block.ops).cycle ≡ end
      → BlockTimes e.table (first_cycle e.table entry) end (block_issues entry block b end n)
  onward_times entry block b end n h source ended at =
      let s = setting_of e entry block in
      let first = first_progress e entry in
      let list = block_issues entry block b end n in
      let calm = are_calm s.term entry block.ops h.front (each_of_all (λ (o : ExtOp). o.kind ≡ Out → IsCalm (purpose_of_out s.term))
      (λ o is. h.calm) block.ops) in
      let rises = subst (λ (high : ℕ). Rise e.table first.cycle high first.cycle list) at
      (front_rises e block s b end first.cycle n first block.ops h.front calm (early_by e.table entry)) in
      let between = all_between e.table first.cycle end first.cycle list rises in
      let bound = rise_bound e.table first.cycle end first.cycle list rises in
      let jumps = subst (λ (last : ℕ). All (LeavesLast last) list) at
      (jumps_last e fit block s b end n first block.ops h.front ended source (no_return entry block h.front)) in
      record {
        front = list;
        tail = [];
        now = end;
        left = end;
        whole = sym (append-nil list);
        front_timed = all_timed e.table first.cycle end end end list between (none_leaves e block s b end n first block.ops h.front source)
            jumps;
        turns = rise_turns e.table first.cycle end first.cycle list rises;
        by_now = λ k d lt. between_by e.table first.cycle end (get_or list k d) bound (between k d lt);
        tail_timed = All-nil (IsTimed e.table first.cycle end end end);
        from_now = All-nil (λ (i : Issue). (o : Op) → i.instr ≡ Some o → end ≤ i.cycle);
        separated = pairs_nil (AreSeparated e.table);
        entered_by = bound;
        now_left = omega arith;
        now_end = omega arith;
      }

  back_times : (entry : Bool) (block : ExtBlock) (b end n : ℕ) → Returns entry block → EachOp SourceOp block.ops → AreEnded block.ops
      → block_end e.table (term_of block.ops) (progress_after e block (setting_of e entry block) (first_progress e entry)
      block.ops).cycle ≡ end
      → BlockTimes e.table (first_cycle e.table entry) end (block_issues entry block b end n)
  back_times entry block b end n h source ended at =
      let s = setting_of e entry block in
      let first = first_progress e entry in
      let more = h.leave ∷ (h.us ++ (h.op ∷ (h.late ++ h.out ∷ []))) in
      let calm = are_calm s.term entry h.front h.is_front (each_weaker (λ (o : ExtOp). o.kind ≢ Out) (λ (o : ExtOp). o.kind ≡ Out
      → IsCalm (purpose_of_out s.term)) (λ o no_out is. absurd (no_out is)) h.front h.no_out) in
      let behind = progress_after e block s first h.front in
      let now = behind.cycle in
      let list = issues_from e block s b end n first h.front in
      let rest = issues_from e block s b end (n + length h.front) behind more in
      let left = leave_cycle e.table (Ret h.value) now in
      let last = end_cycle e.table (Ret h.value) now in
      let rises = front_rises e block s b end first.cycle n first h.front h.is_front calm (early_by e.table entry) in
      let between = all_between e.table first.cycle now first.cycle list rises in
      let bound = rise_bound e.table first.cycle now first.cycle list rises in
      let unread : purpose_at s.term more ≡ Unread = ap (λ (x : ExtKind). purpose_of s.term x (purpose_at s.term (h.us ++ (h.op ∷
      (h.late ++ h.out ∷ []))))) h.is_leave in
      let stays = tail_stays e block s b end behind more (tail_ops h.leave h.us h.op h.late h.out h.value h.is_leave h.for_link h.is_return
      h.is_late h.is_out) in
      let past : (progress_after e block s first block.ops).cycle ≡ now = ap (λ (ops : List ExtOp). (progress_after e block s first
      ops).cycle)
      h.whole ∙ ap (λ (p : Progress). p.cycle) (progress_split e block s b end first h.front more unread) ∙ stays in
      let final : block_end e.table (Ret h.value) now ≡ end = sym (ap (λ (t : Term). block_end e.table t now) h.term)
      ∙ sym (ap (block_end e.table (term_of block.ops)) past) ∙ at in
      let tail = subst (λ (high : ℕ). IsEnd left last e.table now high rest) final (return_end left last e block s b end h.value h.term
      (n + length h.front) behind h.leave h.us h.op h.late h.out refl refl (fit.latencies LeaveOp).0 h.is_leave h.for_link h.is_return
      h.is_late h.is_out) in
      let quick = (fit.latencies Jumpr).2 in
      let leaving = (fit.latencies LeaveOp).0 in
      let calm_front = none_ends h.front h.leave (h.us ++ (h.op ∷ (h.late ++ h.out ∷ []))) (λ late. subst IsLate h.is_leave late)
      (subst AreEnded h.whole ended) in
      let front_source = each_left SourceOp h.front more (subst (EachOp SourceOp) h.whole source) in
      let jumps = none_leave e fit block s b end n first h.front calm_front front_source in
      record {
        front = list;
        tail = rest;
        now = now;
        left = left;
        whole = ap (issues_from e block s b end n first) h.whole ∙ issues_split e block s b end n first h.front more unread;
        front_timed = all_timed e.table first.cycle now left end list between (none_leaves e block s b end n first h.front h.is_front
            front_source) (λ k d lt o io transfer. absurd (jumps k d lt o io transfer));
        turns = rise_turns e.table first.cycle now first.cycle list rises;
        by_now = λ k d lt. between_by e.table first.cycle now (get_or list k d) bound (between k d lt);
        tail_timed = λ k d lt. tail_timed e.table first.cycle now left last end (get_or rest k d) (omega arith) (omega arith)
            (tail.ins k d lt) (tail.kinds k d lt);
        from_now = λ k d lt. in_by e.table now end (get_or rest k d) (tail.ins k d lt);
        separated = tail.pairs;
        entered_by = bound;
        now_left = omega arith;
        now_end = omega arith;
      }

  pub block_times_of : (entry : Bool) (block : ExtBlock) (b n : ℕ) → IsLaidOut entry block → EachOp SourceOp block.ops → AreEnded block.ops
      → BlockTimes e.table (first_cycle e.table entry) (block_plan e entry block).end (block_issues entry block b (block_plan e entry
      block).end n)
  block_times_of entry block b n (onward h) source ended =
      onward_times entry block b (block_plan e entry block).end n h source ended (sym (h.ends (progress_after e block (setting_of e entry
      block) (first_progress e entry) block.ops).cycle e.table))
  block_times_of entry block b n (back h) source ended = back_times entry block b (block_plan e entry block).end n h source ended refl

-- the times of all blocks, of which the first has the number b and its first operation the number n
abbrev pub AreTimed : Ext → Bool → ℕ → ℕ → List ExtBlock → Type 0
AreTimed e entry b n [] = Unit {0}
AreTimed e entry b n (block ∷ blocks) = (let p = block_plan e entry block in BlockTimes e.table (first_cycle e.table entry) p.end
    (planned_issues b n block p)) × AreTimed e false (b + 1) (n + length block.ops) blocks

abbrev pub AreEndedBlocks : List ExtBlock → Type 0
AreEndedBlocks [] = Unit {0}
AreEndedBlocks (block ∷ blocks) = AreEnded block.ops × AreEndedBlocks blocks

pub are_timed : (e : Ext) → IsFit e.table → (entry : Bool) (b n : ℕ) (blocks : List ExtBlock) → AreLaidOut entry blocks
    → EachBlockOp SourceOp blocks → AreEndedBlocks blocks → AreTimed e entry b n blocks
are_timed e fit entry b n [] laid source ended = tt
are_timed e fit entry b n (block ∷ blocks) laid source ended = (
  block_times_of e fit entry block b n laid.0 source.0 ended.0,
  are_timed e fit false (b + 1) (n + length block.ops) blocks laid.1 source.1 ended.1,
)
