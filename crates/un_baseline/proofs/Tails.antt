-- The end of a block that returns: its result is reloaded, then the address, then Leave and the return issue.
use Rattle.std.proofs.Common.{◌≡◌, ℕ, zero, suc, ◌+◌, ◌<◌, ◌≤◌, ◌⊎◌, inl, inr, ⊎_elim, true, false, List, [], ◌∷◌, ◌++◌, get_or, Option}
use Rattle.std.proofs.Common.{Some, None, refl, sym, ap, subst, ◌∙◌, arith}
use Rattle.std.specs.Prelude.{◌==◌, All, AllPairs}
use Rattle.std.proofs.lemmas.Bool.Decides.{nat_tests}
use Rattle.std.proofs.lemmas.List.Elements.{All-nil, All-cons, All-weaker}
use Rattle.std.proofs.lemmas.List.Kept.{AllPairs-cons}
use Rattle.un_base.specs.declared.ids.NameId.{NameId}
use Rattle.un_isa.specs.declared.op.Op.{Op}
use Rattle.un_isa.specs.declared.op.Op.TheVariants.{Reload, Jumpr, Leave as LeaveOp}
use Rattle.un_isa.specs.declared.table.Table.{Table}
use Rattle.un_isa.specs.Tables.{latency_of}
use Rattle.un_ir.specs.declared.function.Term.{Term}
use Rattle.un_ir.specs.declared.function.Term.TheVariants.{Ret}
use Rattle.un_ir.specs.declared.extended.NodeCopy.TheVariants.{U, U2}
use Rattle.un_ir.specs.declared.extended.ExtKind.{ExtKind}
use Rattle.un_ir.specs.declared.extended.ExtKind.TheVariants.{Out, End, Copy, Leave}
use Rattle.un_ir.specs.declared.extended.ExtOp.{ExtOp}
use Rattle.un_ir.specs.declared.extended.ExtBlock.{ExtBlock}
use Rattle.un_ir.specs.declared.extended.Ext.{Ext}
use Rattle.un_model.specs.declared.schedule.Issue.{Issue}
use Rattle.un_model.specs.Instructions.{instruction_of}
use Rattle.un_baseline.specs.declared.plan.Purpose.{Purpose}
use Rattle.un_baseline.specs.declared.plan.Purpose.TheVariants.{Link, Returned, Unread}
use Rattle.un_baseline.specs.declared.plan.Setting.{Setting}
use Rattle.un_baseline.specs.declared.plan.Progress.{Progress}
use Rattle.un_baseline.specs.Plans.{planned_issue, planned_cycle}
use Rattle.un_baseline.specs.SpillEverywhere.{purpose_of, purpose_of_out, purpose_at, result_wait, leave_cycle, end_cycle, block_end}
use Rattle.un_baseline.specs.SpillEverywhere.{step_of, progress_of}
use Rattle.un_baseline.proofs.OneAtATime.{AreSeparated}
use Rattle.un_baseline.proofs.SpillSteps.{EachOp}
use Rattle.un_baseline.proofs.Timing.{pairs_nil}
use Rattle.un_baseline.proofs.Fronts.{issues_from}

-- ---- intervals

-- an instruction issues and is done between two cycles, or there is none
pub data IsIn (t : Table) (low high : ℕ) (i : Issue) : Type 0 where
  free : i.instr ≡ None → IsIn t low high i
  inside : (o : Op) → i.instr ≡ Some o → low ≤ i.cycle → i.cycle + latency_of t o ≤ high → IsIn t low high i

pub wider : (t : Table) (low high low' high' : ℕ) (i : Issue) → low' ≤ low → high ≤ high' → IsIn t low high i → IsIn t low' high' i
wider t low high low' high' i a b (free e) = free e
wider t low high low' high' i a b (inside o e x y) = inside o e (omega arith) (omega arith)

same_op : (i : Issue) (o q : Op) → i.instr ≡ Some o → i.instr ≡ Some q → o ≡ q
same_op i o q a b = let e : Some o ≡ Some q = sym a ∙ b in cc

no_op : (i : Issue) (o : Op) → i.instr ≡ None → i.instr ≡ Some o → ⊥
no_op i o a b = let e : None ≡ Some o = sym a ∙ b in cc

pub before_separated : (t : Table) (low high low' high' : ℕ) (i j : Issue) → high ≤ low' → IsIn t low high i → IsIn t low' high' j
    → AreSeparated t i j
before_separated t low high low' high' i j le (free e) k = λ o q block io jq. absurd (no_op i o e io)
before_separated t low high low' high' i j le (inside p e x y) (free f) = λ o q block io jq. absurd (no_op j q f jq)
before_separated t low high low' high' i j le (inside p e x y) (inside r f z w) = λ o q block io jq.
    let same = same_op i o p io e in inl (subst (λ (k : Op). i.cycle + latency_of t k ≤ j.cycle) (sym same) (omega arith))

pub after_separated : (t : Table) (low high low' high' : ℕ) (i j : Issue) → high' ≤ low → IsIn t low high i → IsIn t low' high' j
    → AreSeparated t i j
after_separated t low high low' high' i j le (free e) k = λ o q block io jq. absurd (no_op i o e io)
after_separated t low high low' high' i j le (inside p e x y) (free f) = λ o q block io jq. absurd (no_op j q f jq)
after_separated t low high low' high' i j le (inside p e x y) (inside r f z w) = λ o q block io jq.
    let same = same_op j q r jq f in inr (subst (λ (k : Op). j.cycle + latency_of t k ≤ i.cycle) (sym same) (omega arith))

pub free_separated : (t : Table) (i j : Issue) → i.instr ≡ None → AreSeparated t i j
free_separated t i j e o q block io jq = absurd (no_op i o e io)

pub separated_free : (t : Table) (i j : Issue) → j.instr ≡ None → AreSeparated t i j
separated_free t i j e o q block io jq = absurd (no_op j q e jq)

-- ---- which instructions these are

-- a reload by the cycle of Leave, Leave, or a return in the last cycle, or nothing
pub data IsTail (left last : ℕ) (i : Issue) : Type 0 where
  none_there : i.instr ≡ None → IsTail left last i
  reload_there : i.instr ≡ Some Reload → i.cycle ≤ left → IsTail left last i
  leave_there : i.instr ≡ Some LeaveOp → left ≤ i.cycle → i.cycle < last → IsTail left last i
  return_there : i.instr ≡ Some Jumpr → i.cycle ≡ last → IsTail left last i

-- ---- operations behind a return

-- a copy of an operand
pub data IsReading (kind : ExtKind) : Type 0 where
  first_one : kind ≡ Copy U → IsReading kind
  second_one : kind ≡ Copy U2 → IsReading kind

-- the copies of the operand that reads the address
pub data AreForLink : List ExtOp → Type 0 where
  without : AreForLink []
  one_copy : {u : ExtOp} → u.kind ≡ Copy U → AreForLink (u ∷ [])
  two_copies : {u v : ExtOp} → u.kind ≡ Copy U → v.kind ≡ Copy U2 → AreForLink (u ∷ v ∷ [])

zero_or_more : (n : ℕ) → (n ≡ 0) ⊎ (1 ≤ n)
zero_or_more zero = inl refl
zero_or_more (suc n) = inr (omega arith)

module _ (e : Ext) (block : ExtBlock) (s : Setting) (b end : ℕ) where
  abbrev issue_at : ℕ → Progress → Purpose → ExtOp → ExtKind → Issue
  issue_at n p purpose op kind = planned_issue b end n op (step_of e block s p purpose op kind)

  -- copies that do nothing: of no result, or behind its first copy
  abbrev IsPast : Progress → Purpose → Type 0
  IsPast q purpose = (purpose ≡ Unread) ⊎ ((purpose ≡ Returned) × (1 ≤ q.operands))

  record QuietStep (q : Progress) (purpose : Purpose) (n : ℕ) (op : ExtOp) : Type 0 where
    instr : (issue_at n q purpose op op.kind).instr ≡ None
    cycle : (progress_of e block s q purpose op op.kind).cycle ≡ q.cycle
    copies : q.operands ≤ (progress_of e block s q purpose op op.kind).operands

  not_zero : (n : ℕ) → 1 ≤ n → (n == 0) ≡ false
  not_zero n le = grind (arith, nat_tests)

  unread_step : (q : Progress) (n : ℕ) (op : ExtOp) (kind : ExtKind) → op.kind ≡ kind → IsReading kind → QuietStep q Unread n op
  unread_step q n op kind is (first_one h) =
      let k : op.kind ≡ Copy U = is ∙ h in
      record {
        instr = ap (λ (x : ExtKind). instruction_of x (step_of e block s q Unread op x).instr) k;
        cycle = ap (λ (x : ExtKind). (progress_of e block s q Unread op x).cycle) k;
        copies = let c = ap (λ (x : ExtKind). (progress_of e block s q Unread op x).operands) k in omega arith;
      }
  unread_step q n op kind is (second_one h) =
      let k : op.kind ≡ Copy U2 = is ∙ h in
      record {
        instr = ap (λ (x : ExtKind). instruction_of x (step_of e block s q Unread op x).instr) k;
        cycle = ap (λ (x : ExtKind). (progress_of e block s q Unread op x).cycle) k;
        copies = let c = ap (λ (x : ExtKind). (progress_of e block s q Unread op x).operands) k in omega arith;
      }

  returned_step : (q : Progress) (n : ℕ) (op : ExtOp) (kind : ExtKind) → 1 ≤ q.operands → op.kind ≡ kind → IsReading kind
      → QuietStep q Returned n op
  returned_step q n op kind le is (first_one h) =
      let k : op.kind ≡ Copy U = is ∙ h in
      let z = not_zero q.operands le in
      record {
        instr = ap (λ (x : ExtKind). instruction_of x (step_of e block s q Returned op x).instr) k ∙ rw z refl;
        cycle = ap (λ (x : ExtKind). (progress_of e block s q Returned op x).cycle) k;
        copies = let c = ap (λ (x : ExtKind). (progress_of e block s q Returned op x).operands) k in omega arith;
      }
  returned_step q n op kind le is (second_one h) =
      let k : op.kind ≡ Copy U2 = is ∙ h in
      record {
        instr = ap (λ (x : ExtKind). instruction_of x (step_of e block s q Returned op x).instr) k;
        cycle = ap (λ (x : ExtKind). (progress_of e block s q Returned op x).cycle) k;
        copies = let c = ap (λ (x : ExtKind). (progress_of e block s q Returned op x).operands) k in omega arith;
      }

  quiet_step : (q : Progress) (purpose : Purpose) (n : ℕ) (op : ExtOp) → IsPast q purpose → IsReading op.kind → QuietStep q purpose n op
  quiet_step q purpose n op (inl h) reading = subst (λ (x : Purpose). QuietStep q x n op) (sym h) (unread_step q n op op.kind refl reading)
  quiet_step q purpose n op (inr h) reading = subst (λ (x : Purpose). QuietStep q x n op) (sym h.0)
      (returned_step q n op op.kind h.1 refl reading)

  -- what follows copies of operands is what they are for
  reading_purpose : (op : ExtOp) (ops : List ExtOp) (kind : ExtKind) → op.kind ≡ kind → IsReading kind
      → purpose_at s.term (op ∷ ops) ≡ purpose_at s.term ops
  reading_purpose op ops kind is (first_one h) = ap (λ (x : ExtKind). purpose_of s.term x (purpose_at s.term ops)) (is ∙ h)
  reading_purpose op ops kind is (second_one h) = ap (λ (x : ExtKind). purpose_of s.term x (purpose_at s.term ops)) (is ∙ h)

  late_purpose : (late : List ExtOp) (out : ExtOp) → EachOp (λ (op : ExtOp). IsReading op.kind) late → out.kind ≡ Out
      → purpose_at s.term (late ++ out ∷ []) ≡ purpose_of_out s.term
  late_purpose [] out h is = ap (λ (x : ExtKind). purpose_of s.term x Unread) is
  late_purpose (op ∷ late) out h is = reading_purpose op (late ++ out ∷ []) op.kind refl h.0 ∙ late_purpose late out h.1 is

  out_quiet : (n : ℕ) (q : Progress) (purpose : Purpose) (out : ExtOp) → out.kind ≡ Out → (issue_at n q purpose out out.kind).instr ≡ None
  out_quiet n q purpose out is = ap (λ (x : ExtKind). instruction_of x (step_of e block s q purpose out x).instr) is

  -- copies behind the first do nothing, nor does the block's end
  late_quiet : (n : ℕ) (q : Progress) (late : List ExtOp) (out : ExtOp) → EachOp (λ (op : ExtOp). IsReading op.kind) late → out.kind ≡ Out
      → (purpose_of_out s.term ≡ Unread) ⊎ ((purpose_of_out s.term ≡ Returned) × (1 ≤ q.operands))
      → All (λ (j : Issue). j.instr ≡ None) (issues_from e block s b end n q (late ++ out ∷ []))
  late_quiet n q [] out h is past =
      All-cons (λ (j : Issue). j.instr ≡ None) (issue_at n q (purpose_at s.term (out ∷ [])) out out.kind) [] (out_quiet n q
      (purpose_at s.term (out ∷ [])) out is) (All-nil (λ (j : Issue). j.instr ≡ None))
  late_quiet n q (op ∷ late) out h is past =
      let purpose = purpose_at s.term (op ∷ (late ++ out ∷ [])) in
      let for : purpose ≡ purpose_of_out s.term = reading_purpose op (late ++ out ∷ []) op.kind refl h.0 ∙ late_purpose late out h.1 is in
      let here : IsPast q purpose = ⊎_elim (λ (u : purpose_of_out s.term ≡ Unread). inl (for
      ∙ u)) (λ (r : (purpose_of_out s.term ≡ Returned) × (1 ≤ q.operands)). inr (for ∙ r.0, r.1)) past in
      let step = quiet_step q purpose n op here h.0 in
      let next = progress_of e block s q purpose op op.kind in
      let more = step.copies in
      All-cons (λ (j : Issue). j.instr ≡ None) (issue_at n q purpose op op.kind) (issues_from e block s b end (n + 1) next
      (late ++ out ∷ []))
      step.instr
      (late_quiet (n + 1) next late out h.1 is (⊎_elim (λ (u : purpose_of_out s.term ≡ Unread). inl u) (λ (r :
      (purpose_of_out s.term ≡ Returned) × (1 ≤ q.operands)). let le = r.1 in inr (r.0, omega arith)) past))

-- ---- issues of a block's end

pub record IsEnd (left last : ℕ) (t : Table) (low high : ℕ) (is : List Issue) : Type 0 where
  pub ins : All (IsIn t low high) is
  pub pairs : AllPairs (AreSeparated t) is
  pub kinds : All (IsTail left last) is

end_cons : (left last : ℕ) (t : Table) (low high : ℕ) (x : Issue) (is : List Issue) → IsIn t low high x → IsTail left last x
    → All (AreSeparated t x) is → IsEnd left last t low high is → IsEnd left last t low high (x ∷ is)
end_cons left last t low high x is here kind cross h = record {
  ins = All-cons (IsIn t low high) x is here h.ins;
  pairs = AllPairs-cons (AreSeparated t) x is cross h.pairs;
  kinds = All-cons (IsTail left last) x is kind h.kinds;
}

end_idle : (left last : ℕ) (t : Table) (low high : ℕ) (is : List Issue) → All (λ (j : Issue). j.instr ≡ None) is
    → IsEnd left last t low high is
end_idle left last t low high [] h = record {
  ins = All-nil (IsIn t low high);
  pairs = pairs_nil (AreSeparated t);
  kinds = All-nil
      (IsTail left last);
}
end_idle left last t low high (x ∷ is) h =
    let here = h 0 x (omega arith) in
    end_cons left last t low high x is (free here) (none_there here) (λ k d lt. free_separated t x (get_or is k d) here)
    (end_idle left last t low high is (λ k d lt. h (suc k) d (omega arith)))

end_wider : (left last : ℕ) (t : Table) (low high low' high' : ℕ) (is : List Issue) → low' ≤ low → high ≤ high'
    → IsEnd left last t low high is → IsEnd left last t low' high' is
end_wider left last t low high low' high' is a c h = record {
  ins = All-weaker (IsIn t low high) (IsIn t low' high') (λ i x. wider t low high low' high' i a c x) is h.ins;
  pairs = h.pairs;
  kinds = h.kinds;
}

module _ (left last : ℕ) (e : Ext) (block : ExtBlock) (s : Setting) (b end : ℕ) where
  abbrev made : ℕ → Progress → Purpose → ExtOp → ExtKind → Issue
  made n p purpose op kind = planned_issue b end n op (step_of e block s p purpose op kind)

  reload_in : (n : ℕ) (q : Progress) (op : ExtOp) → q.cycle ≤ left → q.operands ≡ 0 → op.kind ≡ Copy U
      → IsIn e.table q.cycle (q.cycle + latency_of e.table Reload) (made n q Returned op op.kind) × IsTail left last
      (made n q Returned op op.kind)
  reload_in n q op le zero_copies is =
      let z : (q.operands == 0) ≡ true = rw zero_copies refl in
      let instr : (made n q Returned op op.kind).instr ≡ Some Reload = ap (λ (x : ExtKind). instruction_of x
      (step_of e block s q Returned op x).instr) is ∙ rw z refl in
      let at : (made n q Returned op op.kind).cycle ≡ q.cycle = ap (λ (x : ExtKind). planned_cycle end x
      (step_of e block s q Returned op x).cycle) is ∙ rw z refl in
      (inside Reload instr (omega arith) (omega arith), reload_there instr (omega arith))

  abbrev late_from : ℕ → Progress → List ExtOp → ExtOp → List Issue
  late_from n q late out = issues_from e block s b end n q (late ++ out ∷ [])

  late_step : (n : ℕ) (q : Progress) (purpose : Purpose) (op : ExtOp) (late : List ExtOp) (out : ExtOp) → q.cycle ≤ left
      → q.operands ≡ 0 → purpose_of_out s.term ≡ Returned → EachOp (λ (op : ExtOp). IsReading op.kind) late → out.kind ≡ Out
      → purpose ≡ Returned → IsReading op.kind
      → ((next : Progress) → next.cycle ≤ left → next.operands ≡ 0
      → IsEnd left last e.table next.cycle (next.cycle + latency_of e.table Reload) (late_from (n + 1) next late out))
      → IsEnd left last e.table q.cycle (q.cycle + latency_of e.table Reload) (made n q purpose op op.kind ∷ late_from (n + 1)
      (progress_of e block s q purpose op op.kind) late out)
  late_step n q purpose op late out le zero_copies ret h is for (first_one k) rest =
      let low = q.cycle in
      let high = q.cycle + latency_of e.table Reload in
      let next = progress_of e block s q purpose op op.kind in
      let reload = subst (λ (x : Purpose). IsIn e.table low high (made n q x op op.kind) × IsTail left last (made n q x op op.kind))
      (sym for) (reload_in n q op le zero_copies k) in
      let count : next.operands ≡ q.operands + 1 = ap (λ (x : ExtKind). (progress_of e block s q purpose op x).operands) k in
      let quiet = late_quiet e block s b end (n + 1) next late out h is (inr (ret, omega arith)) in
      end_cons left last e.table low high (made n q purpose op op.kind) (late_from (n + 1) next late out) reload.0 reload.1
      (λ j d lt. separated_free e.table (made n q purpose op op.kind) (get_or (late_from (n + 1) next late out) j d) (quiet j d lt))
      (end_idle left last e.table low high (late_from (n + 1) next late out) quiet)
  late_step n q purpose op late out le zero_copies ret h is for (second_one k) rest =
      let low = q.cycle in
      let high = q.cycle + latency_of e.table Reload in
      let next = progress_of e block s q purpose op op.kind in
      let none : (made n q purpose op op.kind).instr ≡ None = ap (λ (x : ExtKind). instruction_of x
      (step_of e block s q purpose op x).instr) k
      ∙ ap (λ (x : Purpose). instruction_of (Copy U2) (step_of e block s q x op (Copy U2)).instr) for in
      let count : next.operands ≡ q.operands = ap (λ (x : ExtKind). (progress_of e block s q purpose op x).operands) k in
      let cycle : next.cycle ≡ q.cycle = ap (λ (x : ExtKind). (progress_of e block s q purpose op x).cycle) k
      ∙ ap (λ (x : Purpose). (progress_of e block s q x op (Copy U2)).cycle) for in
      end_cons left last e.table low high (made n q purpose op op.kind) (late_from (n + 1) next late out) (free none) (none_there none)
      (λ j d lt. free_separated e.table (made n q purpose op op.kind) (get_or (late_from (n + 1) next late out) j d) none)
      (subst (λ (c : ℕ). IsEnd left last e.table c (c + latency_of e.table Reload) (late_from (n + 1) next late out)) cycle (rest next
      (omega arith) (count ∙ zero_copies)))

  -- the copies of what the block's end reads, and the end
  late_end : (n : ℕ) (q : Progress) (late : List ExtOp) (out : ExtOp) → q.cycle ≤ left → q.operands ≡ 0
      → purpose_of_out s.term ≡ Returned → EachOp (λ (op : ExtOp). IsReading op.kind) late → out.kind ≡ Out
      → IsEnd left last e.table q.cycle (q.cycle + latency_of e.table Reload) (late_from n q late out)
  late_end n q [] out le zero_copies ret h is =
      end_idle left last e.table q.cycle (q.cycle + latency_of e.table Reload) (late_from n q [] out)
      (All-cons (λ (j : Issue). j.instr ≡ None) (made n q (purpose_at s.term (out ∷ [])) out out.kind) []
      (out_quiet e block s b end n q (purpose_at s.term (out ∷ [])) out is) (All-nil (λ (j : Issue). j.instr ≡ None)))
  late_end n q (op ∷ late) out le zero_copies ret h is =
      late_step n q (purpose_at s.term (op ∷ (late ++ out ∷ []))) op late out le zero_copies ret h.1 is
      (reading_purpose e block s b end op (late ++ out ∷ []) op.kind refl h.0 ∙ late_purpose e block s b end late out h.1 is ∙ ret) h.0
      (λ next le' z. late_end (n + 1) next late out le' z ret h.1 is)

  -- the same for a return with a result or without
  returned_or_not : (value : Option NameId) → s.term ≡ Ret value → (n : ℕ) (q : Progress) (late : List ExtOp) (out : ExtOp)
      → q.cycle ≤ left → q.operands ≡ 0 → EachOp (λ (op : ExtOp). IsReading op.kind) late → out.kind ≡ Out
      → IsEnd left last e.table q.cycle (q.cycle + result_wait e.table (Ret value)) (late_from n q late out)
  returned_or_not (Some name) ret n q late out le z h is = late_end n q late out le z (ap purpose_of_out ret) h is
  returned_or_not None ret n q late out le z h is =
      end_idle left last e.table q.cycle (q.cycle + 0) (late_from n q late out) (late_quiet e block s b end n q late out h is (inl
      (ap purpose_of_out ret)))

  -- the reload of the address
  link_in : (value : Option NameId) → s.term ≡ Ret value → (n : ℕ) (q : Progress) (op : ExtOp)
      → q.cycle + result_wait e.table (Ret value) ≤ left → op.kind ≡ Copy U
      → (let from = q.cycle + result_wait e.table (Ret value) in IsIn e.table from (from + latency_of e.table Reload)
      (made n q Link op op.kind)) × IsTail left last (made n q Link op op.kind)
  link_in value ret n q op le is =
      let instr : (made n q Link op op.kind).instr ≡ Some Reload = ap (λ (x : ExtKind). instruction_of x
      (step_of e block s q Link op x).instr) is in
      let at : (made n q Link op op.kind).cycle ≡ q.cycle + result_wait e.table (Ret value) =
      ap (λ (x : ExtKind). planned_cycle end x (step_of e block s q Link op x).cycle) is
      ∙ ap (λ (t : Term). q.cycle + result_wait e.table t) ret in
      (inside Reload instr (omega arith) (omega arith), reload_there instr (omega arith))

  -- the return itself
  jump_in : (value : Option NameId) (n : ℕ) (q : Progress) (purpose : Purpose) (op : ExtOp)
      → end_cycle e.table (Ret value) q.cycle ≡ last → op.kind ≡ End (Ret value)
      → (let from = end_cycle e.table (Ret value) q.cycle in IsIn e.table from (from + latency_of e.table Jumpr)
      (made n q purpose op op.kind)) × IsTail left last (made n q purpose op op.kind)
  jump_in value n q purpose op final is =
      let instr : (made n q purpose op op.kind).instr ≡ Some Jumpr = ap (λ (x : ExtKind). instruction_of x
      (step_of e block s q purpose op x).instr) is in
      let at : (made n q purpose op op.kind).cycle ≡ end_cycle e.table (Ret value) q.cycle = ap (λ (x : ExtKind). planned_cycle end x
      (step_of e block s q purpose op x).cycle) is in
      (inside Jumpr instr (omega arith) (omega arith), return_there instr (omega arith))

  leave_in : (value : Option NameId) → s.term ≡ Ret value → (n : ℕ) (q : Progress) (purpose : Purpose) (op : ExtOp)
      → left ≤ leave_cycle e.table (Ret value) q.cycle → leave_cycle e.table (Ret value) q.cycle < last → op.kind ≡ Leave
      → (let from = leave_cycle e.table (Ret value) q.cycle in IsIn e.table from (from + latency_of e.table LeaveOp)
      (made n q purpose op op.kind)) × IsTail left last (made n q purpose op op.kind)
  leave_in value ret n q purpose op ge lt is =
      let instr : (made n q purpose op op.kind).instr ≡ Some LeaveOp = ap (λ (x : ExtKind). instruction_of x
      (step_of e block s q purpose op x).instr) is in
      let at : (made n q purpose op op.kind).cycle ≡ leave_cycle e.table (Ret value) q.cycle =
      ap (λ (x : ExtKind). planned_cycle end x (step_of e block s q purpose op x).cycle) is
      ∙ ap (λ (t : Term). leave_cycle e.table t q.cycle) ret in
      (inside LeaveOp instr (omega arith) (omega arith), leave_there instr (omega arith) (omega arith))

  -- ---- the stages, from the last on

  abbrev IsSide : ℕ → ℕ → ℕ → ℕ → Issue → Type 0
  IsSide low mid from high j = IsIn e.table low mid j ⊎ IsIn e.table from high j

  side_separated : (low mid from high a c : ℕ) (x j : Issue) → IsIn e.table a c x → mid ≤ a → c ≤ from → IsSide low mid from high j
      → AreSeparated e.table x j
  side_separated low mid from high a c x j at le ge side =
      ⊎_elim (λ (h : IsIn e.table low mid j). after_separated e.table a c low mid x j le at h) (λ
      (h : IsIn e.table from high j). before_separated e.table a c from high x j ge at h) side

  side_wider : (low mid mid' from high : ℕ) (j : Issue) → mid ≤ mid' → IsSide low mid from high j → IsSide low mid' from high j
  side_wider low mid mid' from high j le side = ⊎_elim (λ (h : IsIn e.table low mid j). inl (wider e.table low mid low mid' j
      (omega arith) le h)) (λ (h : IsIn e.table from high j). inr h) side

  -- the issues lie between two cycles and leave a gap between two others
  pub record IsStage (low mid from high : ℕ) (is : List Issue) : Type 0 where
    pub ended : IsEnd left last e.table low high is
    pub sides : All (IsSide low mid from high) is

  stage_cons : (low mid from high a c : ℕ) (x : Issue) (is : List Issue) → IsIn e.table a c x → IsTail left last x → low ≤ a → mid ≤ a
      → a ≤ c → c ≤ from → from ≤ high → IsStage low mid from high is
      → IsStage low c from high (x ∷ is)
  stage_cons low mid from high a c x is at kind la ma ac cf fh h = record {
    ended = end_cons left last e.table low high x is (wider e.table a c low high x la (omega arith) at) kind
        (All-weaker (IsSide low mid from high) (AreSeparated e.table x)
        (λ j side. side_separated low mid from high a c x j at ma cf side) is h.sides) h.ended;
    sides = All-cons (IsSide low c from high) x is (inl (wider e.table a c low c x la (omega arith) at))
        (All-weaker (IsSide low mid from high) (IsSide low c from high) (λ j side. side_wider low mid c from high j
        (omega arith) side) is h.sides);
  }

  stage_idle : (low mid from high : ℕ) (x : Issue) (is : List Issue) → x.instr ≡ None → IsStage low mid from high is
      → IsStage low mid from high (x ∷ is)
  stage_idle low mid from high x is none h = record {
    ended = end_cons left last e.table low high x is (free none) (none_there none) (λ k d lt. free_separated e.table x
        (get_or is k d) none) h.ended;
    sides = All-cons (IsSide low mid from high) x is (inl (free none)) h.sides;
  }

  -- the cycles at which the address is reloaded, Leave and the return issue and the block ends
  abbrev pub link_at : Option NameId → ℕ → ℕ
  link_at value now = now + result_wait e.table (Ret value)

  abbrev pub leave_at : Option NameId → ℕ → ℕ
  leave_at value now = leave_cycle e.table (Ret value) now

  abbrev pub jump_at : Option NameId → ℕ → ℕ
  jump_at value now = end_cycle e.table (Ret value) now

  abbrev pub end_at : Option NameId → ℕ → ℕ
  end_at value now = block_end e.table (Ret value) now

  jump_stage : (value : Option NameId) → s.term ≡ Ret value
      → (n now : ℕ) (q : Progress) (op : ExtOp) (late : List ExtOp) (out : ExtOp) → left ≡ leave_at value now
      → last ≡ jump_at value now → q.cycle ≡ now → op.kind ≡ End (Ret value)
      → EachOp (λ (op : ExtOp). IsReading op.kind) late → out.kind ≡ Out
      → IsStage now (link_at value now) (jump_at value now) (end_at value now) (issues_from e block s b end n q (op ∷ (late ++ out ∷ [])))
  jump_stage value ret n now q op late out le la at is h is_out =
      let purpose = purpose_at s.term (op ∷ (late ++ out ∷ [])) in
      let next = progress_of e block s q purpose op op.kind in
      let cycle : next.cycle ≡ now = ap (λ (x : ExtKind). (progress_of e block s q purpose op x).cycle) is ∙ at in
      let none_yet : next.operands ≡ 0 = ap (λ (x : ExtKind). (progress_of e block s q purpose op x).operands) is in
      let behind = subst (λ (c : ℕ). IsEnd left last e.table c (c + result_wait e.table (Ret value)) (late_from
      (n + 1) next late out)) cycle (returned_or_not value ret (n + 1) next late out (omega arith) none_yet h is_out) in
      let here = subst (λ (c : ℕ). (let from = end_cycle e.table (Ret value) c in IsIn e.table from (from + latency_of e.table Jumpr)
      (made n q purpose op op.kind)) × IsTail left last (made n q purpose op op.kind)) at (jump_in value n q purpose op (ap
      (end_cycle e.table (Ret value)) at ∙ sym la) is) in
      record {
        ended = end_cons left last e.table now (end_at value now) (made n q purpose op op.kind) (late_from (n + 1) next late out)
            (wider e.table (jump_at value now) (end_at value now) now (end_at value now) (made n q purpose op op.kind) (omega arith)
            (omega arith) here.0) here.1
            (All-weaker (IsIn e.table now (link_at value now)) (AreSeparated e.table (made n q purpose op op.kind))
            (λ j x. after_separated e.table (jump_at value now) (end_at value now) now (link_at value now)
            (made n q purpose op op.kind) j (omega arith) here.0 x) (late_from (n + 1) next late out) behind.ins)
            (end_wider left last e.table now (link_at value now) now (end_at value now) (late_from (n + 1) next late out) (omega arith)
            (omega arith) behind);
        sides = All-cons (IsSide now (link_at value now) (jump_at value now) (end_at value now)) (made n q purpose op op.kind)
            (late_from (n + 1) next late out) (inr here.0)
            (All-weaker (IsIn e.table now (link_at value now)) (IsSide now (link_at value now) (jump_at value now) (end_at value now))
            (λ j x. inl x) (late_from (n + 1) next late out) behind.ins);
      }

  stage_mid : (low mid mid' from high : ℕ) (is : List Issue) → mid ≤ mid' → IsStage low mid from high is → IsStage low mid' from high is
  stage_mid low mid mid' from high is le h = record {
    ended = h.ended;
    sides = All-weaker (IsSide low mid from high) (IsSide low mid' from high)
        (λ j side. side_wider low mid mid' from high j le side) is h.sides;
  }

  link_purpose : (value : Option NameId) (op : ExtOp) (more : List ExtOp) → op.kind ≡ End (Ret value) → purpose_at s.term (op ∷ more) ≡ Link
  link_purpose value op more is = ap (λ (x : ExtKind). purpose_of s.term x (purpose_at s.term more)) is

  link_stage : (value : Option NameId) → s.term ≡ Ret value
      → (n now : ℕ) (q : Progress) (us : List ExtOp) (op : ExtOp) (late : List ExtOp) (out : ExtOp) → left ≡ leave_at value now
      → last ≡ jump_at value now → q.cycle ≡ now → AreForLink us → op.kind ≡ End (Ret value)
      → EachOp (λ (op : ExtOp). IsReading op.kind) late → out.kind ≡ Out
      → IsStage now (leave_at value now) (jump_at value now) (end_at value now) (issues_from e block s b end n q (us ++ (op ∷
      (late ++ out ∷ []))))
  link_stage value ret n now q [] op late out le la at without is h is_out =
      stage_mid now (link_at value now) (leave_at value now) (jump_at value now) (end_at value now) (issues_from e block s b end n q
      (op ∷ (late ++ out ∷ []))) (omega arith)
      (jump_stage value ret n now q op late out le la at is h is_out)
  link_stage value ret n now q (u ∷ []) op late out le la at (one_copy k) is h is_out =
      let rest = op ∷ (late ++ out ∷ []) in
      let purpose = purpose_at s.term (u ∷ rest) in
      let for : purpose ≡ Link = reading_purpose e block s b end u rest u.kind refl (first_one k)
      ∙ link_purpose value op (late ++ out ∷ []) is in
      let next = progress_of e block s q purpose u u.kind in
      let cycle : next.cycle ≡ now = ap (λ (x : ExtKind). (progress_of e block s q purpose u x).cycle) k
      ∙ ap (λ (x : Purpose). (progress_of e block s q x u (Copy U)).cycle) for ∙ at in
      let here = subst (λ (x : Purpose). (let from = q.cycle + result_wait e.table (Ret value) in IsIn e.table from
      (from + latency_of e.table Reload) (made n q x u u.kind)) × IsTail left last (made n q x u u.kind)) (sym for)
      (link_in value ret n q u (omega arith) k) in
      let there = subst (λ (c : ℕ). (let from = c + result_wait e.table (Ret value) in IsIn e.table from
      (from + latency_of e.table Reload) (made n q purpose u u.kind)) × IsTail left last (made n q purpose u u.kind)) at here in
      stage_cons now (link_at value now) (jump_at value now) (end_at value now) (link_at value now) (leave_at value now)
      (made n q purpose u u.kind) (issues_from e block s b end (n + 1) next rest)
      there.0 there.1 (omega arith) (omega arith) (omega arith) (omega arith) (omega arith)
      (jump_stage value ret (n + 1) now next op late out le la cycle is h is_out)
  link_stage value ret n now q (u ∷ v ∷ []) op late out le la at (two_copies k l) is h is_out =
      let rest = op ∷ (late ++ out ∷ []) in
      let after_u = purpose_at s.term (v ∷ rest) in
      let for_v : after_u ≡ Link = reading_purpose e block s b end v rest v.kind refl (second_one l)
      ∙ link_purpose value op (late ++ out ∷ []) is in
      let purpose = purpose_at s.term (u ∷ v ∷ rest) in
      let for : purpose ≡ Link = reading_purpose e block s b end u (v ∷ rest) u.kind refl (first_one k) ∙ for_v in
      let next = progress_of e block s q purpose u u.kind in
      let cycle : next.cycle ≡ now = ap (λ (x : ExtKind). (progress_of e block s q purpose u x).cycle) k
      ∙ ap (λ (x : Purpose). (progress_of e block s q x u (Copy U)).cycle) for ∙ at in
      let behind = progress_of e block s next after_u v v.kind in
      let still_now : behind.cycle ≡ now = ap (λ (x : ExtKind). (progress_of e block s next after_u v x).cycle) l
      ∙ ap (λ (x : Purpose). (progress_of e block s next x v (Copy U2)).cycle) for_v ∙ cycle in
      let none : (made (n + 1) next after_u v v.kind).instr ≡ None = ap (λ (x : ExtKind). instruction_of x
      (step_of e block s next after_u v x).instr) l
      ∙ ap (λ (x : Purpose). instruction_of (Copy U2) (step_of e block s next x v (Copy U2)).instr) for_v in
      let here = subst (λ (x : Purpose). (let from = q.cycle + result_wait e.table (Ret value) in IsIn e.table from
      (from + latency_of e.table Reload) (made n q x u u.kind)) × IsTail left last (made n q x u u.kind)) (sym for)
      (link_in value ret n q u (omega arith) k) in
      let there = subst (λ (c : ℕ). (let from = c + result_wait e.table (Ret value) in IsIn e.table from
      (from + latency_of e.table Reload) (made n q purpose u u.kind)) × IsTail left last (made n q purpose u u.kind)) at here in
      stage_cons now (link_at value now) (jump_at value now) (end_at value now) (link_at value now) (leave_at value now)
      (made n q purpose u u.kind) (issues_from e block s b end (n + 1) next (v ∷ rest))
      there.0 there.1 (omega arith) (omega arith) (omega arith) (omega arith) (omega arith)
      (stage_idle now (link_at value now) (jump_at value now) (end_at value now) (made (n + 1) next after_u v v.kind)
      (issues_from e block s b end (n + 1 + 1) behind rest) none
      (jump_stage value ret (n + 1 + 1) now behind op late out le la still_now is h is_out))
  link_stage value ret n now q (u ∷ (v ∷ (x ∷ more))) op late out le la at for is h is_out = elim for [ ]

  -- from Leave on, the issues of a block that returns
  pub return_end : (value : Option NameId) → s.term ≡ Ret value
      → (n : ℕ) (q : Progress) (leave : ExtOp) (us : List ExtOp) (op : ExtOp) (late : List ExtOp) (out : ExtOp)
      → left ≡ leave_at value q.cycle → last ≡ jump_at value q.cycle → 1 ≤ latency_of e.table LeaveOp → leave.kind ≡ Leave
      → AreForLink us → op.kind ≡ End (Ret value)
      → EachOp (λ (op : ExtOp). IsReading op.kind) late → out.kind ≡ Out
      → IsEnd left last e.table q.cycle (end_at value q.cycle) (issues_from e block s b end n q (leave ∷ (us ++ (op ∷ (late ++ out ∷ [])))))
  return_end value ret n q leave us op late out le la positive is_leave for is h is_out =
      let rest = us ++ (op ∷ (late ++ out ∷ [])) in
      let purpose = purpose_at s.term (leave ∷ rest) in
      let next = progress_of e block s q purpose leave leave.kind in
      let now = q.cycle in
      let cycle : next.cycle ≡ now = ap (λ (x : ExtKind). (progress_of e block s q purpose leave x).cycle) is_leave in
      let here = leave_in value ret n q purpose leave (omega arith) (omega arith) is_leave in
      let stage = link_stage value ret (n + 1) now next us op late out le la cycle for is h is_out in
      let whole = stage_cons now (leave_at value now) (jump_at value now) (end_at value now) (leave_at value now) (jump_at value now)
      (made n q purpose leave leave.kind) (issues_from e block s b end (n + 1) next rest)
      here.0 here.1 (omega arith) (omega arith) (omega arith) (omega arith) (omega arith) stage in
      whole.ended
