-- In the plan that spills every name no cycle is past its block's horizon: each operation takes at most two.
use Rattle.std.proofs.Common.{◌≡◌, ℕ, ◌+◌, ◌-◌, ◌*◌, ◌<◌, ◌≤◌, ⊎_elim, Bool, true, false, List, [], ◌∷◌, ◌++◌, length, Option, Some, None}
use Rattle.std.proofs.Common.{refl, sym, ap, ◌∙◌, arith}
use Rattle.std.specs.Prelude.{◌==◌, ◌&&◌, ◌||◌, is_some, if◌then◌else◌, All, IfSome}
use Rattle.std.specs.List.{AllZip, list_all}
use Rattle.std.specs.Option.{option_to_list}
use Rattle.std.proofs.lemmas.Bool.Decides.{nat_tests}
use Rattle.std.proofs.lemmas.List.{length-append}
use Rattle.std.proofs.lemmas.List.Elements.{All-head, All-tail}
use Rattle.un_isa.specs.Fit.{IsFit}
use Rattle.un_isa.specs.declared.op.Op.{Op}
use Rattle.un_isa.specs.declared.op.Op.TheVariants.{Reload, Jumpr, Enter as EnterOp, Leave as LeaveOp}
use Rattle.un_isa.specs.declared.table.Table.{Table}
use Rattle.un_base.specs.declared.ids.NameId.{NameId}
use Rattle.un_ir.specs.declared.function.Term.{Term}
use Rattle.un_ir.specs.declared.function.Term.TheVariants.{Fall, Jump, Branch, Ret}
use Rattle.un_ir.specs.declared.extended.NodeCopy.{NodeCopy}
use Rattle.un_ir.specs.declared.extended.NodeCopy.TheVariants.{D, D2, U, U2}
use Rattle.un_ir.specs.declared.extended.ExtKind.{ExtKind}
use Rattle.un_ir.specs.declared.extended.ExtKind.TheVariants.{In, Out, Body, End, Copy, Enter, Leave}
use Rattle.un_ir.specs.declared.extended.ExtOp.{ExtOp}
use Rattle.un_ir.specs.declared.extended.ExtBlock.{ExtBlock}
use Rattle.un_ir.specs.declared.extended.Ext.{Ext}
use Rattle.un_model.specs.Congruences.{term_of}
use Rattle.un_model.specs.Instructions.{copy_of, instruction_of, latency_by, transfer_of}
use Rattle.un_model.specs.Pairs.{pairs_from}
use Rattle.un_ir.specs.Kinds.{is_delimiter}
use Rattle.un_model.specs.Solutions.{InDomain, IsPlacedAs, IsPlaced}
use Rattle.un_model.specs.Variables.{has_cycle, cycle_domain}
use Rattle.un_baseline.specs.declared.plan.Purpose.{Purpose}
use Rattle.un_baseline.specs.declared.plan.Purpose.TheVariants.{Operands, Link, Returned, Unread}
use Rattle.un_baseline.specs.declared.plan.Setting.{Setting}
use Rattle.un_baseline.specs.declared.plan.Progress.{Progress}
use Rattle.un_baseline.specs.declared.plan.Move.{Move}
use Rattle.un_baseline.specs.Plans.{Step, value_if, planned_issue, planned_cycle}
use Rattle.un_baseline.specs.SpillEverywhere.{purpose_of, purpose_at, first_alts, copy_move, after_move, next_cycle, after_end, progress_of}
use Rattle.un_baseline.specs.SpillEverywhere.{progress_after, setting_of, first_progress, first_cycle, block_end, block_plan, result_wait}
use Rattle.un_baseline.proofs.Each.{EachStep}
use Rattle.un_baseline.proofs.SpillSteps.{EachOp, Rests, IsReal, transfers}
use Rattle.un_baseline.proofs.Layouts.{IsLaidOut, onward, back}
use Rattle.un_baseline.proofs.BlockTimes.{tail_ops, tail_stays, progress_split}

-- ---- the end of a block

module _ (t : Table) (fit : IsFit t) where
  latency_small : (x : Option Op) → latency_by t x ≤ 2
  latency_small None = omega arith
  latency_small (Some op) = (fit.latencies op).1

  moves_small : (now instr : ℕ) (b : Bool) → (if b then now else now + latency_by t (copy_of instr)) ≤ now + 2
  moves_small now instr true = omega arith
  moves_small now instr false = let l = latency_small (copy_of instr) in omega arith

  move_small : (now : ℕ) (m : Move) → after_move t now m ≤ now + 2
  move_small now m = moves_small now m.instr (m.instr == 0)

  copy_small : (now : ℕ) (m : Move) (purpose : Purpose) (node : NodeCopy) → next_cycle t now m purpose node ≤ now + 2
  copy_small now m purpose D = move_small now m
  copy_small now m purpose D2 = move_small now m
  copy_small now m Operands U = move_small now m
  copy_small now m Link U = omega arith
  copy_small now m Returned U = omega arith
  copy_small now m Unread U = omega arith
  copy_small now m Operands U2 = move_small now m
  copy_small now m Link U2 = omega arith
  copy_small now m Returned U2 = omega arith
  copy_small now m Unread U2 = omega arith

  end_small : (term : Term) (now : ℕ) → after_end t term now ≤ now + 2
  end_small Fall now = let l = latency_small (transfer_of Fall) in omega arith
  end_small (Jump to) now = let l = latency_small (transfer_of (Jump to)) in omega arith
  end_small (Branch pred sense to) now = let l = latency_small (transfer_of (Branch pred sense to)) in omega arith
  end_small (Ret value) now = omega arith

  wait_small : (value : Option NameId) → result_wait t (Ret value) ≤ 2
  wait_small None = omega arith
  wait_small (Some name) = (fit.latencies Reload).1

  first_small : (entry : Bool) → first_cycle t entry ≤ 2
  first_small true = let l = (fit.latencies EnterOp).2 in omega arith
  first_small false = omega arith

module _ (e : Ext) (fit : IsFit e.table) (block : ExtBlock) (s : Setting) where
  step_small : (p : Progress) (purpose : Purpose) (op : ExtOp) (kind : ExtKind)
      → (progress_of e block s p purpose op kind).cycle ≤ p.cycle + 2
  step_small p purpose op In = omega arith
  step_small p purpose op Out = omega arith
  step_small p purpose op (Body o) = let l = (fit.latencies o.op).1 in omega arith
  step_small p purpose op (End term) = end_small e.table fit term p.cycle
  step_small p purpose op (Copy node) = copy_small e.table fit p.cycle (copy_move e block.live_in s p purpose (first_alts op.operands)
      node) purpose node
  step_small p purpose op Enter = omega arith
  step_small p purpose op Leave = omega arith

  steps_small : (p : Progress) (ops : List ExtOp) → (progress_after e block s p ops).cycle ≤ p.cycle + 2 * length ops
  steps_small p [] = omega arith
  steps_small p (op ∷ ops) =
      let purpose = purpose_at s.term (op ∷ ops) in
      let here = step_small p purpose op op.kind in
      let rest = steps_small (progress_of e block s p purpose op op.kind) ops in
      omega arith

module _ (e : Ext) (fit : IsFit e.table) where
  pub end_bound : (entry : Bool) (block : ExtBlock) → IsLaidOut entry block → (block_plan e entry block).end ≤ 2 * length block.ops + 2
  end_bound entry block (onward h) =
      let s = setting_of e entry block in
      let first = first_progress e entry in
      let same = h.ends (progress_after e block s first block.ops).cycle e.table in
      let small = first_small e.table fit entry in
      let rest = steps_small e fit block s first block.ops in
      omega arith
  end_bound entry block (back h) =
      let s = setting_of e entry block in
      let first = first_progress e entry in
      let late = h.op ∷ (h.late ++ h.out ∷ []) in
      let more = h.leave ∷ (h.us ++ late) in
      let behind = progress_after e block s first h.front in
      let unread : purpose_at s.term more ≡ Unread = ap (λ (x : ExtKind). purpose_of s.term x (purpose_at s.term (h.us ++ late)))
      h.is_leave in
      let stays = tail_stays e block s 0 0 behind more (tail_ops h.leave h.us h.op h.late h.out h.value h.is_leave h.for_link h.is_return
      h.is_late h.is_out) in
      let past : (progress_after e block s first block.ops).cycle ≡ behind.cycle = ap (λ (ops : List ExtOp). (progress_after e block s
      first ops).cycle)
      h.whole ∙ ap (λ (p : Progress). p.cycle) (progress_split e block s 0 0 first h.front more unread) ∙ stays in
      let final : (block_plan e entry block).end ≡ block_end e.table (Ret h.value) behind.cycle = ap (block_end e.table (term_of
      block.ops)) past
      ∙ ap (λ (t : Term). block_end e.table t behind.cycle) h.term in
      let small = first_small e.table fit entry in
      let rest = steps_small e fit block s first h.front in
      let wait = wait_small e.table fit h.value in
      let reload = (fit.latencies Reload).1 in
      let leave = (fit.latencies LeaveOp).2 in
      let return = (fit.latencies Jumpr).2 in
      let size : length block.ops ≡ length (h.front ++ more) = ap (λ (ops : List ExtOp). length ops) h.whole in
      let a = length-append h.front more in
      let b = length-append h.us late in
      let c = length-append h.late (h.out ∷ []) in
      omega arith

-- ---- cycles

pub record CycleIn (horizon : ℕ) (op : ExtOp) (s : Step) : Type 0 where
  pub cycle : AllZip InDomain (value_if (has_cycle op.kind) s.cycle) (option_to_list (cycle_domain horizon op.kind))

some_in : (x : Option Op) (cycle end : ℕ) → is_some x ≡ true → IfSome x (IsPlacedAs cycle end) → (1 ≤ cycle) × (cycle < end)
some_in None cycle end h placed = absurd (cc h)
some_in (Some op) cycle end h placed = let p = placed.0 in (p.0, p.1)

zero_cycle : (c : ℕ) (b : Bool) → ((c == 0) && b) ≡ true → c ≡ 0
zero_cycle c b h = by (c == 0) refl h
  where
    by : (v : Bool) → (c == 0) ≡ v → (v && b) ≡ true → c ≡ 0
    by true e k = grind (arith, nat_tests)
    by false e k = absurd (cc k)

module _ (horizon end : ℕ) (le : end ≤ horizon) (b n : ℕ) (op : ExtOp) (s : Step) (placed : IsPlaced (planned_issue b end n op s)) (rests
    : Rests op s) where
  -- an operation with an instruction
  active_in : (kind : ExtKind) → op.kind ≡ kind → planned_cycle end kind s.cycle ≡ s.cycle → is_some (instruction_of kind s.instr) ≡ true
      → (1 ≤ s.cycle) × (s.cycle ≤ horizon - 1)
  active_in kind is at active =
      let p = some_in (instruction_of op.kind s.instr) (planned_cycle end op.kind s.cycle) end (ap (λ (k : ExtKind). is_some
      (instruction_of k
      s.instr)) is ∙ active) placed in
      let c : planned_cycle end op.kind s.cycle ≡ s.cycle = ap (λ (k : ExtKind). planned_cycle end k s.cycle) is ∙ at in
      let lo = p.0 in
      let hi = p.1 in
      (omega arith, omega arith)

  -- one that may rest
  may_rest : (kind : ExtKind) → op.kind ≡ kind → planned_cycle end kind s.cycle ≡ s.cycle → is_delimiter kind ≡ false
      → has_cycle kind ≡ true
      → (0 ≤ s.cycle) × (s.cycle ≤ horizon - 1)
  may_rest kind is at inner timed =
      ⊎_elim (λ (a : (is_delimiter op.kind || is_some (instruction_of op.kind s.instr)) ≡ true).
      let active : is_some (instruction_of kind s.instr) ≡ true = ap (λ (d : Bool). d || is_some (instruction_of kind s.instr)) (sym inner)
      ∙ ap (λ (k : ExtKind). is_delimiter k || is_some (instruction_of k s.instr)) (sym is) ∙ a in
      let p = active_in kind is at active in
      (omega arith, p.1))
      (λ (z : (((if has_cycle op.kind then s.cycle else 0) == 0) && list_all (λ (c : ℕ). c == 0) s.choices) ≡ true).
      let same : (if has_cycle op.kind then s.cycle else 0) ≡ s.cycle = ap (λ (k : ExtKind). if has_cycle k then s.cycle else 0) is
      ∙ ap (λ (v : Bool). if v then s.cycle else 0) timed in
      let none = zero_cycle (if has_cycle op.kind then s.cycle else 0) (list_all (λ (c : ℕ). c == 0) s.choices) z in
      (omega arith, omega arith))
      rests.issue

  cycle_by : (kind : ExtKind) → op.kind ≡ kind → IsReal kind
      → AllZip InDomain (value_if (has_cycle kind) s.cycle) (option_to_list (cycle_domain horizon kind))
  cycle_by In is real = tt
  cycle_by Out is real = tt
  cycle_by (Body o) is real = (active_in (Body o) is refl refl, tt)
  cycle_by (End term) is real = (active_in (End term) is refl (transfers term real), tt)
  cycle_by (Copy node) is real = (may_rest (Copy node) is refl refl refl, tt)
  cycle_by Enter is real = (may_rest Enter is refl refl refl, tt)
  cycle_by Leave is real = (may_rest Leave is refl refl refl, tt)

  cycle_in : IsReal op.kind → CycleIn horizon op s
  cycle_in real = record { cycle = cycle_by op.kind refl real }

pub cycles_in : (horizon end : ℕ) → end ≤ horizon → (b n : ℕ) (ops : List ExtOp) (steps : List Step)
    → All IsPlaced (pairs_from (planned_issue b end) n ops steps) → EachStep (λ m. Rests) n ops steps
    → EachOp (λ (op : ExtOp). IsReal op.kind) ops → EachStep (λ m. CycleIn horizon) n ops steps
cycles_in horizon end le b n [] [] placed rests real = tt
cycles_in horizon end le b n [] (s ∷ steps) placed rests real = absurd rests
cycles_in horizon end le b n (op ∷ ops) [] placed rests real = absurd rests
cycles_in horizon end le b n (op ∷ ops) (s ∷ steps) placed rests real =
    let i = planned_issue b end n op s in
    let rest = pairs_from (planned_issue b end) (n + 1) ops steps in (
      cycle_in horizon end le b n op s (All-head IsPlaced i rest placed) rests.0 real.0,
      cycles_in horizon end le b (n + 1) ops steps (All-tail IsPlaced i rest placed) rests.1 real.1,
    )
