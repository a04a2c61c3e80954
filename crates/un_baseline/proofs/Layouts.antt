-- How the operations of a block stand, and that they issue one at a time in the plan that spills every name.
use Rattle.std.proofs.Common.{◌≡◌, ◌≢◌, ℕ, suc, ◌+◌, ◌≤◌, Bool, true, false, List, [], ◌∷◌, ◌++◌, length, get_or, Option, Some, None, refl}
use Rattle.std.proofs.Common.{sym, ap, subst, ◌∙◌, arith}
use Rattle.std.specs.Prelude.{All, AllPairs}
use Rattle.std.proofs.lemmas.List.Elements.{All-append, All-nil, All-cons, All-weaker}
use Rattle.un_base.specs.declared.ids.NameId.{NameId}
use Rattle.un_isa.specs.declared.op.Op.{Op}
use Rattle.un_isa.specs.declared.op.Op.TheVariants.{Load, Store, Call, Reload, Jumpr, Enter as EnterOp, Leave as LeaveOp}
use Rattle.un_isa.specs.declared.table.Table.{Table}
use Rattle.un_isa.specs.Fit.{IsFit}
use Rattle.un_isa.specs.Tables.{latency_of}
use Rattle.un_ir.specs.declared.function.Term.{Term}
use Rattle.un_ir.specs.declared.function.Term.TheVariants.{Fall, Jump, Branch, Ret}
use Rattle.un_ir.specs.declared.extended.ExtKind.{ExtKind}
use Rattle.un_ir.specs.declared.extended.ExtKind.TheVariants.{In, Out, Body, End, Copy, Enter, Leave}
use Rattle.un_ir.specs.declared.extended.ExtOp.{ExtOp}
use Rattle.un_ir.specs.declared.extended.ExtBlock.{ExtBlock}
use Rattle.un_ir.specs.declared.extended.Ext.{Ext}
use Rattle.un_model.specs.declared.schedule.Issue.{Issue}
use Rattle.un_model.specs.Congruences.{term_of}
use Rattle.un_model.specs.Pairs.{pairs_from}
use Rattle.un_model.specs.Solutions.{memory_distance, KeepsMemory, KeepsPackets}
use Rattle.un_baseline.specs.declared.plan.Purpose.{Purpose}
use Rattle.un_baseline.specs.declared.plan.Purpose.TheVariants.{Unread}
use Rattle.un_baseline.specs.declared.plan.Setting.{Setting}
use Rattle.un_baseline.specs.declared.plan.Progress.{Progress}
use Rattle.un_baseline.specs.Plans.{Step, BlockPlan, planned_issue, planned_issues, over_plans, planned_schedule}
use Rattle.un_baseline.specs.SpillEverywhere.{purpose_of_out, purpose_of, purpose_at, step_of, progress_of, progress_after, setting_of}
use Rattle.un_baseline.specs.SpillEverywhere.{first_progress, first_cycle, leave_cycle, end_cycle, block_end, block_plan, block_plans}
use Rattle.un_baseline.proofs.OneAtATime.{AreSeparated, AreInOrder, separated_keep_packets, ordered_keep_memory}
use Rattle.un_baseline.proofs.SpillSteps.{EachOp}
use Rattle.un_baseline.proofs.Timing.{pairs_append, pairs_nil, IsBetween, idle, entering, within, all_between, rise_bound, rise_separated}
use Rattle.un_baseline.proofs.Timing.{rise_ordered}
use Rattle.un_baseline.proofs.Fronts.{IsCalm, IsFrontKind, AreFront, AreCalm, issues_from, front_rises}
use Rattle.un_baseline.proofs.Tails.{IsReading, AreForLink, IsIn, free, inside, IsTail, none_there, reload_there, leave_there, return_there}
use Rattle.un_baseline.proofs.Tails.{IsEnd, before_separated, return_end}

-- ---- layouts

-- a block that goes on: its operations stand in order, without Leave and without a return
pub record GoesOn (entry : Bool) (block : ExtBlock) : Type 0 where
  pub front : AreFront entry block.ops
  pub calm : IsCalm (purpose_of_out (term_of block.ops))
  pub ends : (now : ℕ) (t : Table) → block_end t (term_of block.ops) now ≡ now

-- a block that returns: operations in order, Leave, the copies of the operand that reads the address, the return, the copies
-- of what the block's end reads, the end
pub record Returns (entry : Bool) (block : ExtBlock) : Type 0 where
  pub value : Option NameId
  pub front : List ExtOp
  pub leave : ExtOp
  pub us : List ExtOp
  pub op : ExtOp
  pub late : List ExtOp
  pub out : ExtOp
  pub whole : block.ops ≡ front ++ (leave ∷ (us ++ (op ∷ (late ++ out ∷ []))))
  pub term : term_of block.ops ≡ Ret value
  pub is_front : AreFront entry front
  pub no_out : EachOp (λ (o : ExtOp). o.kind ≢ Out) front
  pub is_leave : leave.kind ≡ Leave
  pub for_link : AreForLink us
  pub is_return : op.kind ≡ End (Ret value)
  pub is_late : EachOp (λ (o : ExtOp). IsReading o.kind) late
  pub is_out : out.kind ≡ Out

pub data IsLaidOut (entry : Bool) (block : ExtBlock) : Type 0 where
  onward : GoesOn entry block → IsLaidOut entry block
  back : Returns entry block → IsLaidOut entry block

abbrev pub AreLaidOut : Bool → List ExtBlock → Type 0
AreLaidOut entry [] = Unit {0}
AreLaidOut entry (block ∷ blocks) = IsLaidOut entry block × AreLaidOut false blocks

-- ---- purposes

calm_of : (term : Term) (entry : Bool) (kind : ExtKind) (following : Purpose) → IsFrontKind entry kind → (kind ≡ Out
    → IsCalm (purpose_of_out term)) → IsCalm following → IsCalm (purpose_of term kind following)
calm_of term entry In following front out calm = tt
calm_of term entry Out following front out calm = out refl
calm_of term entry (Body o) following front out calm = tt
calm_of term entry (End Fall) following front out calm = absurd front
calm_of term entry (End (Jump to)) following front out calm = tt
calm_of term entry (End (Branch pred sense to)) following front out calm = tt
calm_of term entry (End (Ret value)) following front out calm = absurd front
calm_of term entry (Copy node) following front out calm = calm
calm_of term entry Enter following front out calm = tt
calm_of term entry Leave following front out calm = absurd front

calm_at : (term : Term) (entry : Bool) (ops : List ExtOp) → AreFront entry ops → EachOp (λ (o : ExtOp). o.kind ≡ Out
    → IsCalm (purpose_of_out term)) ops → IsCalm (purpose_at term ops)
calm_at term entry [] front outs = tt
calm_at term entry (op ∷ ops) front outs = calm_of term entry op.kind (purpose_at term ops) front.0 outs.0
    (calm_at term entry ops front.1.1 outs.1)

pub are_calm : (term : Term) (entry : Bool) (ops : List ExtOp) → AreFront entry ops → EachOp (λ (o : ExtOp). o.kind ≡ Out
    → IsCalm (purpose_of_out term)) ops → AreCalm term ops
are_calm term entry [] front outs = tt
are_calm term entry (op ∷ ops) front outs = (calm_at term entry (op ∷ ops) front outs, are_calm term entry ops front.1.1 outs.1)

pub each_of_all : (Q : ExtOp → Type 0) → ((op : ExtOp) → Q op) → (ops : List ExtOp) → EachOp Q ops
each_of_all Q f [] = tt
each_of_all Q f (op ∷ ops) = (f op, each_of_all Q f ops)

pub each_weaker : (Q R : ExtOp → Type 0) → ((op : ExtOp) → Q op → R op) → (ops : List ExtOp) → EachOp Q ops → EachOp R ops
each_weaker Q R f [] h = tt
each_weaker Q R f (op ∷ ops) h = (f op h.0, each_weaker Q R f ops h.1)

-- ---- two parts of a block

module _ (e : Ext) (block : ExtBlock) (s : Setting) (b end : ℕ) where
  pub purpose_split : (ops more : List ExtOp) → purpose_at s.term more ≡ Unread → purpose_at s.term (ops ++ more) ≡ purpose_at s.term ops
  purpose_split [] more h = h
  purpose_split (op ∷ ops) more h = ap (purpose_of s.term op.kind) (purpose_split ops more h)

  pub issues_split : (n : ℕ) (p : Progress) (ops more : List ExtOp) → purpose_at s.term more ≡ Unread
      → issues_from e block s b end n p (ops ++ more) ≡ issues_from e block s b end n p ops ++ issues_from e block s b end
      (n + length ops) (progress_after e block s p ops) more
  issues_split n p [] more h = let zero_more : n + 0 ≡ n = omega arith in ap (λ (k : ℕ). issues_from e block s b end k p more)
      (sym zero_more)
  issues_split n p (op ∷ ops) more h =
      let whole = purpose_at s.term (op ∷ (ops ++ more)) in
      let part = purpose_at s.term (op ∷ ops) in
      let same : whole ≡ part = ap (purpose_of s.term op.kind) (purpose_split ops more h) in
      let next = progress_of e block s p part op op.kind in
      let place : n + 1 + length ops ≡ n + suc (length ops) = omega arith in
      ap (λ (x : Purpose). planned_issue b end n op (step_of e block s p x op op.kind) ∷ issues_from e block s b end (n + 1)
      (progress_of e block s p x op op.kind) (ops ++ more)) same
      ∙ ap (λ (is : List Issue). planned_issue b end n op (step_of e block s p part op op.kind) ∷ is) (issues_split (n + 1) next ops more h)
      ∙ ap (λ (k : ℕ). planned_issue b end n op (step_of e block s p part op op.kind) ∷ (issues_from e block s b end
      (n + 1) next ops ++ issues_from e block s b end k (progress_after e block s next ops) more)) place

-- ---- the times of a block

pub record HasTimes (t : Table) (is : List Issue) : Type 0 where
  pub separated : AllPairs (AreSeparated t) is
  pub ordered : AllPairs AreInOrder is

pub early_by : (t : Table) (entry : Bool) → entry ≡ true → 1 + latency_of t EnterOp ≤ first_cycle t entry
early_by t true h = omega arith
early_by t false h = absurd (cc h)

between_in : (t : Table) (first low middle : ℕ) (i : Issue) → first ≤ middle → IsBetween t first low middle i → IsIn t 0 middle i
between_in t first low middle i le (idle n) = free n
between_in t first low middle i le (entering n one lt) = inside EnterOp n (omega arith) (omega arith)
between_in t first low middle i le (within o n ne lo hi) = inside o n (omega arith) hi

none_before_reload : (x : Option Op) → memory_distance x (Some Reload) ≡ None
none_before_reload (Some Load) = refl
none_before_reload (Some Store) = refl
none_before_reload (Some Call) = refl
none_before_reload _ = refl

none_before_leave : (x : Option Op) → memory_distance x (Some LeaveOp) ≡ None
none_before_leave (Some Load) = refl
none_before_leave (Some Store) = refl
none_before_leave (Some Call) = refl
none_before_leave _ = refl

none_before_return : (x : Option Op) → memory_distance x (Some Jumpr) ≡ None
none_before_return (Some Load) = refl
none_before_return (Some Store) = refl
none_before_return (Some Call) = refl
none_before_return _ = refl

none_before_none : (x : Option Op) → memory_distance x None ≡ None
none_before_none (Some Load) = refl
none_before_none (Some Store) = refl
none_before_none (Some Call) = refl
none_before_none _ = refl

unordered : (i j : Issue) → memory_distance i.instr j.instr ≡ None → AreInOrder i j
unordered i j e n block some = let f : None ≡ Some n = sym e ∙ some in absurd (cc f)

-- a reload, Leave and a return order nothing
before_tail : (left last : ℕ) (i j : Issue) → IsTail left last j → AreInOrder i j
before_tail left last i j (none_there e) = unordered i j (ap (memory_distance i.instr) e ∙ none_before_none i.instr)
before_tail left last i j (reload_there e le) = unordered i j (ap (memory_distance i.instr) e ∙ none_before_reload i.instr)
before_tail left last i j (leave_there e le lt) = unordered i j (ap (memory_distance i.instr) e ∙ none_before_leave i.instr)
before_tail left last i j (return_there e le) = unordered i j (ap (memory_distance i.instr) e ∙ none_before_return i.instr)

times_append : (left last : ℕ) (t : Table) (first low middle high : ℕ) (xs ys : List Issue) → first ≤ middle → HasTimes t xs
    → All (IsBetween t first low middle) xs → IsEnd left last t middle high ys → HasTimes t (xs ++ ys)
times_append left last t first low middle high xs ys le h between tail = record {
  separated = pairs_append (AreSeparated t) xs ys h.separated tail.pairs
      (λ k d lt m c lt'. before_separated t 0 middle middle high (get_or xs k d) (get_or ys m c) (omega arith)
      (between_in t first low middle (get_or xs k d) le (between k d lt)) (tail.ins m c lt'));
  ordered = pairs_append AreInOrder xs ys h.ordered (λ i j d lt in'. before_tail left last (get_or ys i d) (get_or ys j d)
      (tail.kinds j d in'))
      (λ k d lt m c lt'. before_tail left last (get_or xs k d) (get_or ys m c) (tail.kinds m c lt'));
}

module _ (e : Ext) (fit : IsFit e.table) where
  -- the operations of a front
  front_times : (entry : Bool) (block : ExtBlock) (s : Setting) (b end n : ℕ) (ops : List ExtOp) → s.is_entry ≡ entry
      → AreFront entry ops → AreCalm s.term ops
      → (let first = first_progress e entry in HasTimes e.table (issues_from e block s b end n first ops) × All
      (IsBetween e.table first.cycle first.cycle (progress_after e block s first ops).cycle) (issues_from e block s b end n first ops)
      × (first.cycle ≤ (progress_after e block s first ops).cycle))
  front_times entry block s b end n ops is front calm =
      let first = first_progress e entry in
      let high = (progress_after e block s first ops).cycle in
      let list = issues_from e block s b end n first ops in
      let rises = front_rises e block s b end first.cycle n first ops (subst (λ (x : Bool). AreFront x ops) (sym is) front) calm
      (λ h. early_by e.table entry (sym is ∙ h)) in (
        record {
          separated = rise_separated e.table first.cycle high first.cycle list
              (omega arith) rises;
          ordered = rise_ordered e.table fit first.cycle high first.cycle list rises;
        },
        all_between e.table first.cycle high first.cycle list rises,
        rise_bound e.table first.cycle high first.cycle list rises,
      )

  block_times : (entry : Bool) (block : ExtBlock) (b end n : ℕ) → IsLaidOut entry block
      → HasTimes e.table (issues_from e block (setting_of e entry block) b end n (first_progress e entry) block.ops)
  block_times entry block b end n (onward h) =
      let s = setting_of e entry block in
      (front_times entry block s b end n block.ops refl h.front (are_calm s.term entry block.ops h.front (each_of_all (λ
      (o : ExtOp). o.kind ≡ Out → IsCalm (purpose_of_out s.term)) (λ o is. h.calm) block.ops))).0
  block_times entry block b end n (back h) =
      let s = setting_of e entry block in
      let first = first_progress e entry in
      let more = h.leave ∷ (h.us ++ (h.op ∷ (h.late ++ h.out ∷ []))) in
      let calm = are_calm s.term entry h.front h.is_front (each_weaker (λ (o : ExtOp). o.kind ≢ Out) (λ (o : ExtOp). o.kind ≡ Out
      → IsCalm (purpose_of_out s.term)) (λ o no_out is. absurd (no_out is)) h.front h.no_out) in
      let front = front_times entry block s b end n h.front refl h.is_front calm in
      let behind = progress_after e block s first h.front in
      let list = issues_from e block s b end n first h.front in
      let rest = issues_from e block s b end (n + length h.front) behind more in
      let left = leave_cycle e.table (Ret h.value) behind.cycle in
      let last = end_cycle e.table (Ret h.value) behind.cycle in
      let tail = return_end left last e block s b end h.value h.term
      (n + length h.front) behind h.leave h.us h.op h.late h.out refl refl
      (fit.latencies LeaveOp).0 h.is_leave h.for_link h.is_return h.is_late h.is_out in
      let unread : purpose_at s.term more ≡ Unread = ap (λ (x : ExtKind). purpose_of s.term x (purpose_at s.term (h.us ++ (h.op ∷
      (h.late ++ h.out ∷ []))))) h.is_leave in
      let whole : issues_from e block s b end n first block.ops ≡ list ++ rest = ap (issues_from e block s b end n first) h.whole
      ∙ issues_split e block s b end n first h.front more unread in
      subst (HasTimes e.table) (sym whole) (times_append left last e.table first.cycle first.cycle behind.cycle (block_end e.table
      (Ret h.value) behind.cycle) list rest front.2 front.0 front.1 tail)

-- ---- all blocks

pub in_block : (b end n : ℕ) (ops : List ExtOp) (steps : List Step)
    → All (λ (i : Issue). i.block.0 ≡ b) (pairs_from (planned_issue b end) n ops steps)
in_block b end n [] steps = All-nil (λ (i : Issue). i.block.0 ≡ b)
in_block b end n (op ∷ ops) [] = All-nil (λ (i : Issue). i.block.0 ≡ b)
in_block b end n (op ∷ ops) (s ∷ steps) = All-cons (λ (i : Issue). i.block.0 ≡ b) (planned_issue b end n op s) (pairs_from
    (planned_issue b end) (n + 1) ops steps) refl (in_block b end (n + 1) ops steps)

pub past_block : (b n : ℕ) (blocks : List ExtBlock) (plans : List BlockPlan)
    → All (λ (i : Issue). b ≤ i.block.0) (over_plans planned_issues b n blocks plans)
past_block b n [] plans = All-nil (λ (i : Issue). b ≤ i.block.0)
past_block b n (block ∷ blocks) [] = All-nil (λ (i : Issue). b ≤ i.block.0)
past_block b n (block ∷ blocks) (p ∷ plans) =
    All-append (λ (i : Issue). b ≤ i.block.0) (planned_issues b n block p) (over_plans planned_issues (b + 1)
    (n + length block.ops) blocks plans)
    (All-weaker (λ (i : Issue). i.block.0 ≡ b) (λ (i : Issue). b ≤ i.block.0) (λ i h. omega arith) (planned_issues b n block p)
    (in_block b p.end n block.ops p.steps))
    (All-weaker (λ (i : Issue). b + 1 ≤ i.block.0) (λ (i : Issue). b ≤ i.block.0) (λ i h. omega arith) (over_plans planned_issues
    (b + 1) (n + length block.ops) blocks plans) (past_block (b + 1) (n + length block.ops) blocks plans))

pub all_times : (e : Ext) → IsFit e.table → (entry : Bool) (b n : ℕ) (blocks : List ExtBlock) → AreLaidOut entry blocks
    → HasTimes e.table (over_plans planned_issues b n blocks (block_plans e entry blocks))
all_times e fit entry b n [] h = record { separated = pairs_nil (AreSeparated e.table); ordered = pairs_nil AreInOrder }
all_times e fit entry b n (block ∷ blocks) h =
    let p = block_plan e entry block in
    let here = planned_issues b n block p in
    let rest = over_plans planned_issues (b + 1) (n + length block.ops) blocks (block_plans e false blocks) in
    let times = block_times e fit entry block b p.end n h.0 in
    let more = all_times e fit false (b + 1) (n + length block.ops) blocks h.1 in
    let of_block = in_block b p.end n block.ops p.steps in
    let past = past_block (b + 1) (n + length block.ops) blocks (block_plans e false blocks) in
    record {
      separated = pairs_append (AreSeparated e.table) here rest times.separated more.separated
          (λ k d lt m c lt' o q same. absurd (let x = of_block k d lt in let y = past m c lt' in omega arith));
      ordered = pairs_append AreInOrder here rest times.ordered more.ordered
          (λ k d lt m c lt' o same. absurd (let x = of_block k d lt in let y = past m c lt' in omega arith));
    }

-- what is laid out keeps memory's order
pub laid_out_keep_memory : (e : Ext) → IsFit e.table → AreLaidOut true e.blocks
    → KeepsMemory (planned_schedule e.blocks (block_plans e true e.blocks))
laid_out_keep_memory e fit h = ordered_keep_memory (planned_schedule e.blocks (block_plans e true e.blocks))
    (all_times e fit true 0 0 e.blocks h).ordered

-- and the counts of packets
pub laid_out_keep_packets : (e : Ext) → IsFit e.table → AreLaidOut true e.blocks
    → KeepsPackets e.table (planned_schedule e.blocks (block_plans e true e.blocks))
laid_out_keep_packets e fit h = separated_keep_packets e.table fit (planned_schedule e.blocks (block_plans e true e.blocks))
    (all_times e fit true 0 0 e.blocks h).separated
