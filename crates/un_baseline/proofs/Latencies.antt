-- In the plan that spills every name each instruction issues in its block, and what reads a temporary waits for its definer.
use Rattle.std.proofs.Common.{◌≡◌, ◌≢◌, ℕ, zero, suc, ◌+◌, ◌<◌, ◌≤◌, ◌⊎◌, inl, inr, ⊎_elim, Bool, true, false, List, [], ◌∷◌, ◌++◌, length}
use Rattle.std.proofs.Common.{get_or, take, Option, Some, None, refl, sym, ap, subst, ◌∙◌, arith}
use Rattle.std.specs.Prelude.{◌||◌, ◌==◌, if◌then◌else◌, is_some, All, AllPairs, Contains, IfSome, slice_get, slice_index, unwrap_or}
use Rattle.std.specs.List.{AllZip}
use Rattle.std.specs.Option.{option_to_list}
use Rattle.std.proofs.lemmas.List.Elements.{All-append, All-nil, All-cons, All-contains}
use Rattle.std.proofs.lemmas.Bool.{cases_lt}
use Rattle.std.proofs.lemmas.List.{length-append}
use Rattle.std.proofs.lemmas.Option.{slice_get-get_or, slice_get_within}
use Rattle.un_base.specs.declared.ids.TempId.{TempId}
use Rattle.un_isa.specs.Facts.{is_source}
use Rattle.un_isa.specs.Fit.{IsFit}
use Rattle.un_isa.specs.declared.op.Op.{Op}
use Rattle.un_isa.specs.declared.op.Op.TheVariants.{Mov, Spill, Reload, P2R, R2P, Jumpr}
use Rattle.un_isa.specs.declared.op.Op.TheVariants.{Enter as EnterOp, Leave as LeaveOp}
use Rattle.un_isa.specs.Registers.{callee_saved, saved_registers}
use Rattle.un_isa.specs.declared.reg.Space.TheVariants.{R, M}
use Rattle.un_isa.specs.declared.reg.TheConstants.{LINK}
use Rattle.un_isa.specs.declared.table.Table.{Table}
use Rattle.un_isa.specs.Tables.{latency_of}
use Rattle.un_isa.specs.Does.{is_transfer}
use Rattle.un_ir.specs.declared.function.Kind.{Kind}
use Rattle.un_ir.specs.declared.function.SrcOp.{SrcOp}
use Rattle.un_ir.specs.declared.function.Term.{Term}
use Rattle.un_ir.specs.declared.extended.NodeCopy.{NodeCopy}
use Rattle.un_ir.specs.declared.extended.ExtKind.{ExtKind}
use Rattle.un_ir.specs.declared.extended.ExtKind.TheVariants.{In, Out, Body, End, Copy, Enter, Leave}
use Rattle.un_ir.specs.declared.extended.Operand.{Operand}
use Rattle.un_ir.specs.declared.extended.ExtOp.{ExtOp}
use Rattle.un_ir.specs.declared.extended.ExtBlock.{ExtBlock}
use Rattle.un_ir.specs.declared.extended.Ext.{Ext}
use Rattle.un_ir.specs.Extended.{results_of, all_results, wants_of, result_count, Want, IsGoodOperand, IsGoodExtOp, IsGoodExtBlock}
use Rattle.un_ir.specs.Extended.{IsExtended}
use Rattle.un_ir.specs.Linear.{is_in}
use Rattle.un_ir.proofs.GoodOps.{got_left}
use Rattle.un_ir.proofs.NameBounds.{at_all}
use Rattle.un_model.specs.declared.schedule.Issue.{Issue}
use Rattle.un_model.specs.declared.schedule.Read.{Read}
use Rattle.un_model.specs.declared.schedule.LiveRange.{LiveRange}
use Rattle.un_model.proofs.Gaps.{gap_within}
use Rattle.un_model.specs.Instructions.{copy_of, space_read, space_given, transfer_of, instruction_of, latency_by}
use Rattle.un_model.specs.Pairs.{pairs_from}
use Rattle.un_model.proofs.Transfers.{transfer_leaves}
use Rattle.un_ir.specs.Kinds.{is_delimiter}
use Rattle.un_model.specs.Schedules.{chosen, last_read}
use Rattle.un_model.specs.Solutions.{IsLast, IsPlacedAs, IsPlaced, InSpace, ReadsInSpace, IsGivenInSpace, KeepsSpaces, LeavesGap}
use Rattle.un_model.specs.Solutions.{latency_gap, KeepsLatencies}
use Rattle.un_baseline.specs.Plans.{Step, BlockPlan, planned_issue, planned_issues, planned_cycle, planned_read, over_plans, place_at}
use Rattle.un_baseline.specs.Plans.{planned_range, planned_schedule}
use Rattle.un_baseline.specs.SpillEverywhere.{first_cycle, block_plan, block_plans}
use Rattle.un_baseline.proofs.OneAtATime.{AreSeparated}
use Rattle.un_baseline.proofs.Timing.{pairs_append}
use Rattle.un_baseline.proofs.Terminators.{IsSourceKind, source_kind, source_stays, source_never_enters}
use Rattle.un_baseline.proofs.BlockTimes.{IsInTurn, IsTimed, none_there, entered, early, reloads, leaves, returns, BlockTimes, AreTimed}
use Rattle.un_baseline.proofs.BlockTimes.{behind_first, no_op, differ}
use Rattle.un_baseline.proofs.Definers.{AreDefined, step_at, each_step, each_size, Definer, definer_of, pair_at, slice_get-pairs}
use Rattle.un_baseline.proofs.Definers.{temp_number, all_defined}
use Rattle.un_baseline.proofs.Each.{EachStep, EachPlan, reads_each}
use Rattle.un_baseline.proofs.SpillSteps.{plan_suits}

-- ---- placing

module _ (t : Table) (fit : IsFit t) (first now left end : ℕ) (positive : 1 ≤ first) (entered_by : first ≤ now) (now_left : now ≤ left)
    (now_end : now ≤ end) where
  pub record Placing (i : Issue) (o : Op) : Type 0 where
    pub after : 0 < i.cycle
    pub before : i.cycle < end
    pub last : is_transfer o ≡ true → i.cycle + 1 ≡ end

  calm_last : (i : Issue) (p o : Op) → i.instr ≡ Some p → i.instr ≡ Some o → is_transfer p ≡ false → is_transfer o ≡ true
      → i.cycle + 1 ≡ end
  calm_last i p o a c f h =
      let e : Some p ≡ Some o = sym a ∙ c in
      let q : p ≡ o = cc e in
      let z : false ≡ true = sym f ∙ ap is_transfer q ∙ h in
      absurd (cc z)

  placing : (i : Issue) (o : Op) → IsTimed t first now left end i → i.instr ≡ Some o → Placing i o
  placing i o (none_there e) is = absurd (no_op i o e is)
  placing i o (entered e one lt) is =
      let l = (fit.latencies EnterOp).0 in
      record { after = omega arith; before = omega arith; last = calm_last i EnterOp o e is refl }
  placing i o (early p e a b lo hi last) is =
      let l = (fit.latencies p).0 in
      let s : Some p ≡ Some o = sym e ∙ is in
      let q : p ≡ o = cc s in
      record { after = omega arith; before = omega arith; last = λ h. last (ap is_transfer q ∙ h) }
  placing i o (reloads e lo hi le) is =
      let l = (fit.latencies Reload).0 in
      record { after = omega arith; before = omega arith; last = calm_last i Reload o e is refl }
  placing i o (leaves e lo hi) is =
      let l = (fit.latencies LeaveOp).0 in
      record { after = omega arith; before = omega arith; last = calm_last i LeaveOp o e is refl }
  placing i o (returns e lo hi) is = record { after = omega arith; before = omega arith; last = λ h. hi }

  last_by : (cycle : ℕ) (b : Bool) → (b ≡ true → cycle + 1 ≡ end) → IsLast cycle end b
  last_by cycle true h = h refl
  last_by cycle false h = tt

  placed_by : (i : Issue) (x : Option Op) → IsTimed t first now left end i → i.instr ≡ x → IfSome x (IsPlacedAs i.cycle end)
  placed_by i None timed is = tt
  placed_by i (Some o) timed is =
      let p = placing i o timed is in ((p.after, p.before), last_by i.cycle (is_transfer o) p.last)

  placed : (i : Issue) → IsTimed t first now left end i → i.end ≡ end → IsPlaced i
  placed i timed at = subst (λ (c : ℕ). IfSome i.instr (IsPlacedAs i.cycle c)) (sym at) (placed_by i i.instr timed refl)

pub first_positive : (t : Table) (entry : Bool) → 1 ≤ first_cycle t entry
first_positive t true = omega arith
first_positive t false = omega arith

ends_there : (b end n : ℕ) (ops : List ExtOp) (steps : List Step) → All (λ (i : Issue). i.end ≡ end) (pairs_from (planned_issue b end) n
    ops steps)
ends_there b end n [] steps = All-nil (λ (i : Issue). i.end ≡ end)
ends_there b end n (op ∷ ops) [] = All-nil (λ (i : Issue). i.end ≡ end)
ends_there b end n (op ∷ ops) (s ∷ steps) = All-cons (λ (i : Issue). i.end ≡ end) (planned_issue b end n op s)
    (pairs_from (planned_issue b end) (n + 1) ops steps) refl (ends_there b end (n + 1) ops steps)

pub block_placed : (e : Ext) → IsFit e.table → (entry : Bool) (b n : ℕ) (block : ExtBlock)
    → (let p = block_plan e entry block in BlockTimes e.table (first_cycle e.table entry) p.end (planned_issues b n block p)
    → All IsPlaced (planned_issues b n block p))
block_placed e fit entry b n block times =
    let p = block_plan e entry block in
    let first = first_cycle e.table entry in
    let timed = subst (λ (is : List Issue). All (IsTimed e.table first times.now times.left p.end) is) (sym times.whole)
    (All-append (IsTimed e.table first times.now times.left p.end) times.front times.tail times.front_timed times.tail_timed) in
    let ends = ends_there b p.end n block.ops p.steps in
    λ k d lt. placed e.table fit first times.now times.left p.end (first_positive e.table entry) times.entered_by times.now_left
    times.now_end
    (get_or (planned_issues b n block p) k d) (timed k d lt) (ends k d lt)

all_placed : (e : Ext) → IsFit e.table → (entry : Bool) (b n : ℕ) (blocks : List ExtBlock) → AreTimed e entry b n blocks
    → All IsPlaced (over_plans planned_issues b n blocks (block_plans e entry blocks))
all_placed e fit entry b n [] h = All-nil IsPlaced
all_placed e fit entry b n (block ∷ blocks) h =
    All-append IsPlaced (planned_issues b n block (block_plan e entry block)) (over_plans planned_issues (b + 1) (n + length block.ops)
    blocks
    (block_plans e false blocks)) (block_placed e fit entry b n block h.0) (all_placed e fit false (b + 1) (n + length block.ops) blocks
    h.1)

-- ---- waiting

-- an instruction that defines a temporary is done when another one issues, but for reloads
abbrev IsDoneBy : Table → Issue → Issue → Type 0
IsDoneBy t i j = (o q : Op) → i.block.0 ≡ j.block.0 → i.instr ≡ Some o → j.instr ≡ Some q → o ≢ EnterOp → o ≢ LeaveOp → o ≢ Jumpr
    → q ≢ EnterOp → q ≢ LeaveOp → (o ≡ Reload → q ≡ Reload → ⊥) → i.cycle + latency_of t o ≤ j.cycle

done_in_turn : (t : Table) (i j : Issue) → IsInTurn t i j → IsDoneBy t i j
done_in_turn t i j h o q block io jq a b c d f g = h o q io a jq d

done_across : (t : Table) (now : ℕ) (i j : Issue) → ((o : Op) → i.instr ≡ Some o → i.cycle + latency_of t o ≤ now)
    → ((o : Op) → j.instr ≡ Some o → now ≤ j.cycle) → IsDoneBy t i j
done_across t now i j h k o q block io jq a b c d f g = let x = h o io in let y = k q jq in omega arith

module _ (t : Table) (fit : IsFit t) (first now left end : ℕ) where
  reload_done : (i j : Issue) → i.instr ≡ Some Reload → i.cycle ≤ left → AreSeparated t i j → ((o : Op) → j.instr ≡ Some o → now ≤ j.cycle)
      → IsTimed t first now left end j → (q : Op) → i.block.0 ≡ j.block.0 → j.instr ≡ Some q → q ≢ EnterOp → q ≢ LeaveOp → (q ≡ Reload → ⊥)
      → i.cycle + latency_of t Reload ≤ j.cycle
  reload_done i j io le sep from (none_there e) q block jq d f g = absurd (no_op j q e jq)
  reload_done i j io le sep from (entered e one lt) q block jq d f g = absurd (differ j q EnterOp jq e d)
  reload_done i j io le sep from (early p e a b lo hi last) q block jq d f g =
      let l = (fit.latencies p).0 in let y = from p e in absurd (omega arith)
  reload_done i j io le sep from (reloads e lo hi le') q block jq d f g = absurd (differ j q Reload jq e g)
  reload_done i j io le sep from (leaves e lo hi) q block jq d f g = absurd (differ j q LeaveOp jq e f)
  reload_done i j io le sep from (returns e lo hi) q block jq d f g =
      ⊎_elim (λ (h : i.cycle + latency_of t Reload ≤ j.cycle). h) (λ (h : j.cycle + latency_of t q ≤ i.cycle).
      let z : ⊥ = omega arith in absurd z) (sep Reload q block io jq)

  tail_done : (i j : Issue) → AreSeparated t i j → ((o : Op) → i.instr ≡ Some o → now ≤ i.cycle)
      → ((o : Op) → j.instr ≡ Some o → now ≤ j.cycle) → IsTimed t first now left end i → IsTimed t first now left end j → IsDoneBy t i j
  tail_done i j sep from from' (none_there e) at o q block io jq a b c d f g = absurd (no_op i o e io)
  tail_done i j sep from from' (entered e one lt) at o q block io jq a b c d f g = absurd (differ i o EnterOp io e a)
  tail_done i j sep from from' (early p e x y lo hi last) at o q block io jq a b c d f g =
      let l = (fit.latencies p).0 in let z = from p e in absurd (omega arith)
  tail_done i j sep from from' (reloads e lo hi le) at o q block io jq a b c d f g =
      let s : Some o ≡ Some Reload = sym io ∙ e in
      let same : o ≡ Reload = cc s in
      subst (λ (x : Op). i.cycle + latency_of t x ≤ j.cycle) (sym same) (reload_done i j e le sep from' at q block jq d f (g same))
  tail_done i j sep from from' (leaves e lo hi) at o q block io jq a b c d f g = absurd (differ i o LeaveOp io e b)
  tail_done i j sep from from' (returns e lo hi) at o q block io jq a b c d f g = absurd (differ i o Jumpr io e c)

pub block_done : (t : Table) → IsFit t → (first end : ℕ) (is : List Issue) → BlockTimes t first end is → AllPairs (IsDoneBy t) is
block_done t fit first end is h =
    subst (AllPairs (IsDoneBy t)) (sym h.whole) (pairs_append (IsDoneBy t) h.front h.tail
    (λ i j d lt within. done_in_turn t (get_or h.front i d) (get_or h.front j d) (h.turns i j d lt within))
    (λ i j d lt within. let within' : i < length h.tail = omega arith in
    tail_done t fit first h.now h.left end (get_or h.tail i d) (get_or h.tail j d) (h.separated i j d lt within)
    (h.from_now i d within') (h.from_now j d within) (h.tail_timed i d within') (h.tail_timed j d within))
    (λ k d lt m c lt'. done_across t h.now (get_or h.front k d) (get_or h.tail m c) (h.by_now k d lt) (h.from_now m c lt')))

-- ---- what reads and what defines

-- neither Enter nor Leave nor a return
record Computes (o : Op) : Type 0 where
  enter : o ≢ EnterOp
  leave : o ≢ LeaveOp
  return : o ≢ Jumpr

source_computes : (o : Op) → is_source o ≡ true → Computes o
source_computes o h = record {
  enter = source_never_enters o h;
  leave = source_stays o h;
  return = λ e. let f : is_source Jumpr ≡ true = ap is_source (sym e) ∙ h in cc f;
}

copy_computes : (a b c d f : Bool) (o : Op) → (if a then Some Mov else (if b then Some Spill else (if c then Some Reload else
    (if d then Some P2R else (if f then Some R2P else None))))) ≡ Some o → Computes o
copy_computes true b c d f o h = let e : Mov ≡ o = cc h in subst Computes e (record {
  enter = λ q. cc q;
  leave = λ q. cc q;
  return = λ q.
      cc q;
})
copy_computes false true c d f o h = let e : Spill ≡ o = cc h in subst Computes e (record {
  enter = λ q. cc q;
  leave = λ q. cc q;
  return
      = λ q. cc q;
})
copy_computes false false true d f o h = let e : Reload ≡ o = cc h in subst Computes e (record {
  enter = λ q. cc q;
  leave = λ q. cc q;
  return = λ q. cc q;
})
copy_computes false false false true f o h = let e : P2R ≡ o = cc h in subst Computes e (record {
  enter = λ q. cc q;
  leave = λ q. cc q;
  return = λ q. cc q;
})
copy_computes false false false false true o h = let e : R2P ≡ o = cc h in subst Computes e (record {
  enter = λ q. cc q;
  leave = λ q. cc
      q;
  return = λ q. cc q;
})
copy_computes false false false false false o h = absurd (cc h)

-- the operations that define temporaries
data IsDefiner (kind : ExtKind) : Type 0 where
  starts : kind ≡ In → IsDefiner kind
  computes : (o : SrcOp) → kind ≡ Body o → IsDefiner kind
  copies : (node : NodeCopy) → kind ≡ Copy node → IsDefiner kind

-- the operations that read temporaries
data IsUser (kind : ExtKind) : Type 0 where
  takes : (o : SrcOp) → kind ≡ Body o → IsUser kind
  moves : (node : NodeCopy) → kind ≡ Copy node → IsUser kind
  ends : (term : Term) → kind ≡ End term → IsUser kind
  hands_over : kind ≡ Out → IsUser kind

-- a definer is there from the start on, or issues an instruction
data Definition (i : Issue) : Type 0 where
  at_start : i.instr ≡ None → i.cycle ≡ 0 → Definition i
  issued : (o : Op) → i.instr ≡ Some o → Computes o → Definition i

-- a user issues an instruction, or is the block's end
data Use (end : ℕ) (i : Issue) : Type 0 where
  at_end : i.cycle ≡ end → Use end i
  issuing : (o : Op) → i.instr ≡ Some o → o ≢ EnterOp → o ≢ LeaveOp → Use end i

some_of : (x : Option Op) → is_some x ≡ true → (o : Op) × (x ≡ Some o)
some_of None h = absurd (cc h)
some_of (Some o) h = (o, refl)

abbrev active_by : ExtKind → Step → Bool
active_by kind s = is_delimiter kind || is_some (instruction_of kind s.instr)

definition : (b end n : ℕ) (op : ExtOp) (s : Step) → IsDefiner op.kind → IsSourceKind op.kind
    → (planned_issue b end n op s).active ≡ true → Definition (planned_issue b end n op s)
definition b end n op s (starts is) source active =
    at_start (ap (λ (k : ExtKind). instruction_of k s.instr) is) (ap (λ (k : ExtKind). planned_cycle end k s.cycle) is)
definition b end n op s (computes o is) source active =
    issued o.op (ap (λ (k : ExtKind). instruction_of k s.instr) is) (source_computes o.op (subst IsSourceKind is source))
definition b end n op s (copies node is) source active =
    let some = some_of (copy_of s.instr) (sym (ap (λ (k : ExtKind). active_by k s) is) ∙ active) in
    issued some.0 (ap (λ (k : ExtKind). instruction_of k s.instr) is ∙ some.1)
    (copy_computes (s.instr == 1) (s.instr == 2) (s.instr == 3) (s.instr == 4) (s.instr == 5) some.0 some.1)

ends_block : (term : Term) (o : Op) → transfer_of term ≡ Some o → (o ≢ EnterOp) × (o ≢ LeaveOp)
ends_block term o h =
    let t = transfer_leaves term o h in (
      λ q. let z : is_transfer EnterOp ≡ true = ap is_transfer (sym q) ∙ t in cc z,
      λ q. let z : is_transfer LeaveOp ≡ true = ap is_transfer (sym q) ∙ t in cc z,
    )

use_of : (b end n : ℕ) (op : ExtOp) (s : Step) → IsUser op.kind → IsSourceKind op.kind → (planned_issue b end n op s).active ≡ true
    → Use end (planned_issue b end n op s)
use_of b end n op s (takes o is) source active =
    let c = source_computes o.op (subst IsSourceKind is source) in
    issuing o.op (ap (λ (k : ExtKind). instruction_of k s.instr) is) c.enter c.leave
use_of b end n op s (moves node is) source active =
    let some = some_of (copy_of s.instr) (sym (ap (λ (k : ExtKind). active_by k s) is) ∙ active) in
    let c = copy_computes (s.instr == 1) (s.instr == 2) (s.instr == 3) (s.instr == 4) (s.instr == 5) some.0 some.1 in
    issuing some.0 (ap (λ (k : ExtKind). instruction_of k s.instr) is ∙ some.1) c.enter c.leave
use_of b end n op s (ends term is) source active =
    let some = some_of (transfer_of term) (sym (ap (λ (k : ExtKind). active_by k s) is) ∙ active) in
    let c = ends_block term some.0 some.1 in
    issuing some.0 (ap (λ (k : ExtKind). instruction_of k s.instr) is ∙ some.1) c.0 c.1
use_of b end n op s (hands_over is) source active = at_end (ap (λ (k : ExtKind). planned_cycle end k s.cycle) is)

module _ (t : Table) (fit : IsFit t) (first now left end : ℕ) (positive : 1 ≤ first) (entered_by : first ≤ now) (now_left : now ≤ left)
    (now_end : now ≤ end) where
  used_after : (j : Issue) → IsTimed t first now left end j → Use end j → 1 ≤ j.cycle
  used_after j timed (at_end at) = omega arith
  used_after j timed (issuing q jq a b) = let f = behind_first t first now left end entered_by now_left j q timed jq a in omega arith

  done_by_end : (i : Issue) (o : Op) → IsTimed t first now left end i → i.instr ≡ Some o → Computes o → i.cycle + latency_of t o ≤ end
  done_by_end i o (none_there e) is c = absurd (no_op i o e is)
  done_by_end i o (entered e one lt) is c = absurd (differ i o EnterOp is e c.enter)
  done_by_end i o (early p e a b lo hi last) is c =
      let s : Some p ≡ Some o = sym e ∙ is in
      let q : p ≡ o = cc s in
      subst (λ (x : Op). i.cycle + latency_of t x ≤ end) q (omega arith)
  done_by_end i o (reloads e lo hi le) is c =
      let s : Some Reload ≡ Some o = sym e ∙ is in let q : Reload ≡ o = cc s in subst (λ (x : Op). i.cycle + latency_of t x ≤ end) q hi
  done_by_end i o (leaves e lo hi) is c = absurd (differ i o LeaveOp is e c.leave)
  done_by_end i o (returns e lo hi) is c = absurd (differ i o Jumpr is e c.return)

  waits : (i j : Issue) → IsTimed t first now left end i → IsTimed t first now left end j → IsDoneBy t i j → i.block.0 ≡ j.block.0
      → Definition i → Use end j → (i.instr ≡ Some Reload → j.instr ≡ Some Reload → ⊥) → i.cycle + latency_by t i.instr ≤ j.cycle
  waits i j ti tj done same (at_start none zero_cycle) used other =
      let l : latency_by t i.instr ≡ 1 = ap (latency_by t) none in
      let f = used_after j tj used in
      omega arith
  waits i j ti tj done same (issued o io c) (at_end at) other =
      let l : latency_by t i.instr ≡ latency_of t o = ap (latency_by t) io in
      let d = done_by_end i o ti io c in
      omega arith
  waits i j ti tj done same (issued o io c) (issuing q jq a b) other =
      let l : latency_by t i.instr ≡ latency_of t o = ap (latency_by t) io in
      let d = done o q same io jq c.enter c.leave c.return a b (λ x y. other (io ∙ ap (λ (z : Op). Some z) x) (jq ∙ ap (λ (z : Op). Some
      z) y)) in
      omega arith

-- ---- reads

-- a read leaves a gap where it is in its space
abbrev Waits : Table → List LiveRange → Read → Type 0
Waits t ranges r = ReadsInSpace r (slice_get ranges r.temp.0) → LeavesGap (latency_gap t) r (slice_get ranges r.temp.0)

record AllWait (t : Table) (ranges : List LiveRange) (b end n : ℕ) (op : ExtOp) (s : Step) : Type 0 where
  at : (planned_issue b end n op s).active ≡ true → (j : ℕ) (x : Operand) → slice_get op.operands j ≡ Some x
      → Waits t ranges (planned_read (planned_issue b end n op s) s j x)

-- the first of all temporaries is there from its block's start on
record BeginsAll (ranges : List LiveRange) : Type 0 where
  range : LiveRange
  at : slice_get ranges 0 ≡ Some range
  none : range.instr ≡ None
  from : range.from ≡ 0

definer_kind : (t : Table) (block : ExtBlock) (kind : ExtKind) (results : List TempId) (m : ℕ) (x : TempId)
    → length results ≡ result_count t block kind → slice_get results m ≡ Some x → IsDefiner kind
definer_kind t block In results m x size at = starts refl
definer_kind t block (Body o) results m x size at = computes o refl
definer_kind t block (Copy node) results m x size at = copies node refl
definer_kind t block Out results m x size at = let lt = slice_get_within results m x at in absurd (omega arith)
definer_kind t block (End term) results m x size at = let lt = slice_get_within results m x at in absurd (omega arith)
definer_kind t block Enter results m x size at = let lt = slice_get_within results m x at in absurd (omega arith)
definer_kind t block Leave results m x size at = let lt = slice_get_within results m x at in absurd (omega arith)

none_read : (Q : Operand → Want → Type 0) (xs : List Operand) (j : ℕ) (x : Operand) → AllZip Q xs [] → slice_get xs j ≡ Some x → ⊥
none_read Q [] j x h at = cc at
none_read Q (y ∷ xs) j x h at = h

user_kind : (t : Table) (names : List Kind) (blocks : List ExtBlock) (block : ExtBlock) (op : ExtOp) (before : List TempId) (kind : ExtKind)
    (j : ℕ) (x : Operand) → AllZip (IsGoodOperand names blocks before) op.operands (wants_of t names blocks block kind op)
    → slice_get op.operands j ≡ Some x → IsUser kind
user_kind t names blocks block op before (Body o) j x h at = takes o refl
user_kind t names blocks block op before (Copy node) j x h at = moves node refl
user_kind t names blocks block op before (End term) j x h at = ends term refl
user_kind t names blocks block op before Out j x h at = hands_over refl
user_kind t names blocks block op before In j x h at = absurd (none_read (IsGoodOperand names blocks before) op.operands j x h at)
user_kind t names blocks block op before Enter j x h at = absurd (none_read (IsGoodOperand names blocks before) op.operands j x h at)
user_kind t names blocks block op before Leave j x h at = absurd (none_read (IsGoodOperand names blocks before) op.operands j x h at)

record Zipped {A B : Type 0} (Q : A → B → Type 0) (x : A) : Type 0 where
  other : B
  holds : Q x other

zip_at : {A B : Type 0} (Q : A → B → Type 0) (xs : List A) (ys : List B) (j : ℕ) (x : A) → AllZip Q xs ys → slice_get xs j ≡ Some x
    → Zipped Q x
zip_at Q [] ys j x h at = absurd (cc at)
zip_at Q (a ∷ xs) [] j x h at = absurd h
zip_at {A} Q (a ∷ xs) (b ∷ ys) zero x h at = let e : a ≡ x = cc at in record { other = b; holds = subst (λ (z : A). Q z b) e h.0 }
zip_at Q (a ∷ xs) (b ∷ ys) (suc j) x h at = zip_at Q xs ys j x h.1 at

-- no register is both what a reload gives and what a reload reads
never_both : (reg : ℕ) → InSpace reg (Some R) → InSpace reg (Some M) → ⊥
never_both reg a b = let e : R ≡ M = sym a ∙ b in cc e

abbrev nowhere : TempId
nowhere = record { 0 = 0 }

-- a user that waits for a latency leaves a shorter gap too
sooner : (from gap latency cycle : ℕ) → gap ≤ latency → from + latency ≤ cycle → from + gap ≤ cycle
sooner from gap latency cycle short late = omega (arith, short, late)

past_end : {A : Type 0} (xs : List A) (c : ℕ) → length xs ≤ c → slice_get xs c ≡ None
past_end [] c le = refl
past_end (x ∷ xs) zero le = absurd (omega arith)
past_end (x ∷ xs) (suc c) le = past_end xs c (omega arith)

module _ (e : Ext) (fit : IsFit e.table) (ranges : List LiveRange) (reads : List Read) (given : All IsGivenInSpace ranges)
    (begins : BeginsAll ranges) (entry : Bool) (block : ExtBlock) (b n : ℕ) where
  abbrev plan : BlockPlan
  plan = block_plan e entry block

  abbrev first : ℕ
  first = first_cycle e.table entry

  abbrev list : List Issue
  list = planned_issues b n block plan

  module _ (times : BlockTimes e.table first plan.end list) (defined : EachStep (AreDefined ranges reads b plan.end) n block.ops plan.steps)
      (good : (k : ℕ) (op : ExtOp) → slice_get block.ops k ≡ Some op
      → IsGoodExtOp e.table e.names e.blocks block (results_of (take k block.ops)) op) where
    timed : All (IsTimed e.table first times.now times.left plan.end) list
    timed = subst (λ (is : List Issue). All (IsTimed e.table first times.now times.left plan.end) is) (sym times.whole) (All-append (IsTimed
        e.table first times.now times.left plan.end) times.front times.tail times.front_timed times.tail_timed)

    module _ (k : ℕ) (op : ExtOp) (s : Step) (at : slice_get block.ops k ≡ Some op) (there : slice_get plan.steps k ≡ Some s)
        (active : (planned_issue b plan.end (n + k) op s).active ≡ true) (j : ℕ) (x : Operand) (is : slice_get op.operands j ≡ Some x) where
      abbrev user : Issue
      user = planned_issue b plan.end (n + k) op s

      abbrev read : Read
      read = planned_read user s j x

      user_at : slice_get list k ≡ Some user
      user_at = slice_get-pairs (planned_issue b plan.end) n k block.ops plan.steps op s at there

      is_used : Use plan.end user
      is_used =
          let g = good k op at in
          use_of b plan.end (n + k) op s (user_kind e.table e.names e.blocks block op (results_of (take k block.ops)) op.kind j x
          g.operands is)
          (source_kind op.kind op g.kind) active

      -- what is there from the start on
      begun : LeavesGap (latency_gap e.table) read (slice_get ranges 0)
      begun = subst (LeavesGap (latency_gap e.table) read) (sym begins.at) (λ here.
          let l : latency_by e.table begins.range.instr ≡ 1 = ap (latency_by e.table) begins.none in
          let g = gap_within e.table begins.range.instr read.instr in
          let z = begins.from in
          let p = used_after e.table fit first times.now times.left plan.end (first_positive e.table entry) times.entered_by times.now_left
          times.now_end user (at_all (IsTimed e.table first times.now times.left plan.end) list k user timed user_at) is_used in
          omega arith)

      -- a result of an operation before
      behind : (y : TempId) → Definer block.ops k y → ReadsInSpace read (slice_get ranges y.0)
          → LeavesGap (latency_gap e.table) read (slice_get ranges y.0)
      behind y d space =
          let before = d.before in
          let gd = good d.place d.op d.at in
          let def = step_at (AreDefined ranges reads b plan.end) n d.place block.ops plan.steps d.op defined d.at in
          let range = (def.holds).at d.result y d.is in
          let i = planned_issue b plan.end (n + d.place) d.op def.step in
          let h = planned_range (place_at (n + d.place) range.reg) (last_read reads y.0) (Some i) in
          let at_i : slice_get list d.place ≡ Some i = slice_get-pairs (planned_issue b plan.end) n d.place block.ops plan.steps d.op
          def.step
          d.at def.at in
          let in_space : ReadsInSpace read (Some h) = subst (ReadsInSpace read) range.there space in
          let is_given : IsGivenInSpace h = at_all IsGivenInSpace ranges y.0 h given range.there in
          subst (LeavesGap (latency_gap e.table) read) (sym range.there) (λ here.
          sooner h.from (latency_gap e.table h.instr read.instr) (latency_by e.table h.instr) read.cycle
          (gap_within e.table h.instr read.instr) (
          waits e.table fit first times.now times.left plan.end (first_positive e.table entry) times.entered_by times.now_left
          times.now_end i
          user (at_all (IsTimed e.table first times.now times.left plan.end) list d.place i timed at_i)
          (at_all (IsTimed e.table first times.now times.left plan.end) list k user timed user_at)
          (pair_at (IsDoneBy e.table) list d.place k i user (block_done e.table fit first plan.end list times) before at_i user_at) refl
          (definition b plan.end (n + d.place) d.op def.step (definer_kind e.table block d.op.kind d.op.results d.result y gd.results d.is)
          (source_kind d.op.kind d.op gd.kind) here) is_used
          (λ p q. never_both h.reg (subst (λ (o : Option Op). InSpace h.reg (space_given o)) p is_given)
          (subst (λ (o : Option Op). InSpace h.reg (space_read o j)) q in_space))))

      read_waits : Waits e.table ranges read
      read_waits = by (cases_lt c (length x.alts))
        where
          c : ℕ
          c = slice_index s.choices j

          by : (c < length x.alts) ⊎ (length x.alts ≤ c) → Waits e.table ranges read
          by (inl lt) =
              let g = good k op at in
              let y = get_or x.alts c nowhere in
              let is_y : chosen x.alts c ≡ y = ap (λ (o : Option TempId). unwrap_or o nowhere) (slice_get-get_or x.alts c nowhere lt) in
              let operand = zip_at (IsGoodOperand e.names e.blocks (results_of (take k block.ops))) op.operands
              (wants_of e.table e.names e.blocks block op.kind op) j x g.operands is in
              let d = definer_of block.ops k y ((operand.holds).known c nowhere lt) in
              subst (λ (z : TempId). ReadsInSpace read (slice_get ranges z.0) → LeavesGap (latency_gap e.table) read (slice_get ranges z.0))
              (sym is_y) (behind y d)
          by (inr le) =
              let is_first : chosen x.alts c ≡ nowhere = ap (λ (o : Option TempId). unwrap_or o nowhere) (past_end x.alts c le) in
              subst (λ (z : TempId). ReadsInSpace read (slice_get ranges z.0) → LeavesGap (latency_gap e.table) read (slice_get ranges z.0))
              (sym is_first) (λ space. begun)

    block_waits : EachStep (AllWait e.table ranges b plan.end) n block.ops plan.steps
    block_waits = each_step (AllWait e.table ranges b plan.end) n block.ops plan.steps (each_size (AreDefined ranges reads b plan.end) n
        block.ops plan.steps defined) (λ k op s at there. record { at = λ active j x is. read_waits k op s at there active j x is })

-- ---- all blocks

module _ (e : Ext) (fit : IsFit e.table) (ranges : List LiveRange) (reads : List Read) (given : All IsGivenInSpace ranges)
    (begins : BeginsAll ranges) where
  all_wait : (entry : Bool) (b n : ℕ) (blocks : List ExtBlock) → AreTimed e entry b n blocks
      → EachPlan (AreDefined ranges reads) b n blocks (block_plans e entry blocks)
      → ((block : ExtBlock) → Contains blocks block → IsGoodExtBlock e.table e.names e.blocks block)
      → EachPlan (AllWait e.table ranges) b n blocks (block_plans e entry blocks)
  all_wait entry b n [] times defined good = tt
  all_wait entry b n (block ∷ blocks) times defined good =
      let g = good block (0, omega arith, refl) in (
        block_waits e fit ranges reads given begins entry block b n times.0 defined.0 g.ops,
        all_wait false (b + 1) (n + length block.ops) blocks times.1 defined.1
            (λ c h. good c (suc h.0, (let lt = h.1 in omega arith), h.2)),
      )

-- the first operation of all defines a temporary
begins_all : (ranges : List LiveRange) (reads : List Read) (b end n : ℕ) (op : ExtOp) (s : Step) (x : TempId)
    → AreDefined ranges reads b end n op s
    → op.kind ≡ In → slice_get op.results 0 ≡ Some x → x.0 ≡ 0 → BeginsAll ranges
begins_all ranges reads b end n op s x h is at number =
    let r = h.at 0 x at in
    record {
      range = planned_range (place_at n r.reg) (last_read reads x.0) (Some (planned_issue b end n op s));
      at = ap (slice_get ranges) (sym number) ∙ r.there;
      none = ap (λ (k : ExtKind). instruction_of k s.instr) is;
      from = ap (λ (k : ExtKind). planned_cycle end k s.cycle) is;
    }

some_result : (live : ℕ) (saved : List ℕ) (results : List TempId) → length results ≡ live + length (saved ++ LINK ∷ [])
    → (x : TempId) × (slice_get results 0 ≡ Some x)
some_result live saved [] size = absurd (let l = length-append saved (LINK ∷ []) in omega arith)
some_result live saved (x ∷ xs) size = (x, refl)

in_is : (kind : ExtKind) → is_in kind ≡ true → kind ≡ In
in_is In h = refl
in_is Out h = absurd (cc h)
in_is (Body o) h = absurd (cc h)
in_is (End term) h = absurd (cc h)
in_is (Copy node) h = absurd (cc h)
in_is Enter h = absurd (cc h)
in_is Leave h = absurd (cc h)

module _ (e : Ext) (ranges : List LiveRange) (reads : List Read) where
  starts_all : (blocks : List ExtBlock) → blocks ≡ e.blocks → IsExtended e
      → EachPlan (AreDefined ranges reads) 0 0 blocks (block_plans e true blocks)
      → BeginsAll ranges
  starts_all [] same h defined = absurd (let z : length e.blocks ≡ 0 = ap (λ (bs : List ExtBlock). length bs) (sym same) in
      let p = h.good.entry in omega arith)
  starts_all (block ∷ blocks) same h defined =
      let plan = block_plan e true block in
      let g = All-contains (IsGoodExtBlock e.table e.names e.blocks) e.blocks block h.good.each (subst (λ (bs : List ExtBlock). Contains bs
      block) same (0, omega arith, refl)) in
      let parts = g.parts.0 in
      let made = g.parts.1 in
      let op = parts.start in
      let first : slice_get block.ops 0 ≡ Some op = ap (λ (ops : List ExtOp). slice_get ops 0) made.whole in
      let good = g.ops 0 op first in
      let is = in_is op.kind made.start in
      let size : length op.results ≡ length block.live_in + length (saved_registers e.table) = good.results
      ∙ ap (result_count e.table block) is in
      let x = some_result (length block.live_in) (callee_saved e.table) op.results size in
      let d = step_at (AreDefined ranges reads 0 plan.end) 0 0 block.ops plan.steps op defined.0 first in
      let rest = parts.inner ++ (option_to_list parts.ending ++ (parts.late ++ parts.out ∷ [])) in
      let in_block : slice_get (results_of block.ops) 0 ≡ Some x.0 = ap (λ (ops : List ExtOp). slice_get (results_of ops) 0) made.whole
      ∙ got_left op.results (results_of rest) 0 x.0 x.1 in
      let in_all : slice_get (all_results e.blocks) 0 ≡ Some x.0 = ap (λ (bs : List ExtBlock). slice_get (all_results bs) 0) (sym same)
      ∙ got_left (results_of block.ops) (all_results blocks) 0 x.0 in_block in
      begins_all ranges reads 0 plan.end (0 + 0) op d.step x.0 d.holds is x.1 (temp_number e.blocks h.good.numbered 0 x.0 in_all)

-- each instruction issues in its block, and users wait for definers
pub keeps_latencies : (e : Ext) → IsFit e.table → IsExtended e → AreTimed e true 0 0 e.blocks
    → (let t = planned_schedule e.blocks (block_plans e true e.blocks) in KeepsSpaces t → KeepsLatencies (latency_gap e.table) t)
keeps_latencies e fit extended times spaces =
    let plans = block_plans e true e.blocks in
    let t = planned_schedule e.blocks plans in
    let good = extended.good in
    let defined = all_defined e.blocks plans (plan_suits e) good.numbered in
    let begins = starts_all e t.ranges t.reads e.blocks refl extended defined in
    let each = reads_each (Waits e.table t.ranges) (AllWait e.table t.ranges) (λ b end n op s h active j x at. h.at active j x at) 0 0
    e.blocks
    plans (all_wait e fit t.ranges t.reads spaces.1 begins true 0 0 e.blocks times defined (λ block c. All-contains
    (IsGoodExtBlock e.table e.names e.blocks) e.blocks block good.each c)) in (
      all_placed e fit true 0 0 e.blocks times,
      (λ k d lt. each k d lt (spaces.0 k d lt)),
    )
