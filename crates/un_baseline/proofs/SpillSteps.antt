-- The steps of the plan that spills every name suit its operations, and a copy that does nothing has zeros alone.
use Rattle.std.proofs.Common.{◌≡◌, ℕ, zero, suc, ◌+◌, ◌⊎◌, inl, inr, Bool, true, false, List, [], ◌∷◌, length, replicate, Option, Some}
use Rattle.std.proofs.Common.{None, refl, sym, ap, subst, ◌∙◌}
use Rattle.std.specs.Prelude.{◌==◌, ◌&&◌, ◌||◌, is_some, if◌then◌else◌, All, Contains}
use Rattle.std.specs.List.{AllZip, list_all}
use Rattle.std.proofs.lemmas.List.{length-replicate, length-map}
use Rattle.std.proofs.lemmas.List.Elements.{All-replicate, All-contains}
use Rattle.un_base.specs.declared.ids.NameId.{NameId}
use Rattle.un_base.specs.declared.ids.TempId.{TempId}
use Rattle.un_ir.specs.declared.function.Kind.{Kind}
use Rattle.un_ir.specs.declared.function.Kind.TheVariants.{General, Pred}
use Rattle.un_ir.specs.declared.function.Term.{Term}
use Rattle.un_ir.specs.declared.function.Term.TheVariants.{Fall, Jump, Branch, Ret}
use Rattle.un_ir.specs.declared.extended.NodeCopy.{NodeCopy}
use Rattle.un_ir.specs.declared.extended.NodeCopy.TheVariants.{D, D2, U, U2}
use Rattle.un_ir.specs.declared.extended.ExtKind.{ExtKind}
use Rattle.un_ir.specs.declared.extended.ExtKind.TheVariants.{In, Out, Body, End, Copy, Enter, Leave}
use Rattle.un_ir.specs.declared.extended.ExtOp.{ExtOp}
use Rattle.un_ir.specs.declared.extended.ExtBlock.{ExtBlock}
use Rattle.un_ir.specs.declared.extended.Ext.{Ext}
use Rattle.un_ir.specs.Extended.{name_kind}
use Rattle.un_isa.specs.declared.table.Table.{Table}
use Rattle.un_model.specs.Instructions.{instruction_of, copy_of, transfer_of}
use Rattle.un_model.specs.Pairs.{places_from}
use Rattle.un_ir.specs.Kinds.{is_delimiter, has_choices}
use Rattle.un_model.specs.Variables.{has_cycle, chosen_operands}
use Rattle.un_model.specs.Solutions.{IsIdleAtZero, IsZeroRange, KeepsZeros}
use Rattle.un_baseline.specs.declared.plan.Purpose.{Purpose}
use Rattle.un_baseline.specs.declared.plan.Purpose.TheVariants.{Operands, Link, Returned, Unread}
use Rattle.un_baseline.specs.declared.plan.Definer.{Definer}
use Rattle.un_baseline.specs.declared.plan.Definer.TheVariants.{Start, Assigns, Other}
use Rattle.un_baseline.specs.declared.plan.Setting.{Setting}
use Rattle.un_baseline.specs.declared.plan.Progress.{Progress}
use Rattle.un_baseline.specs.declared.plan.Move.{Move}
use Rattle.un_baseline.specs.Plans.{Step, BlockPlan, Suits, SuitsBlock, SuitsAll, planned_issue, planned_range, place_at, planned_schedule}
use Rattle.un_baseline.specs.SpillEverywhere.{purpose_at, no_move, spilled_to, kept_by_kind, first_copy, second_copy, operand_copy}
use Rattle.un_baseline.specs.SpillEverywhere.{truth_copy, first_alts, copy_move, step_of, progress_of, steps_of, setting_of, first_progress}
use Rattle.un_baseline.specs.SpillEverywhere.{block_plan, block_plans}
use Rattle.un_baseline.proofs.Each.{EachStep, EachPlan, issues_each, ranges_each}

-- ---- what holds of each step

pub steps_zip : (R : ExtOp → Step → Type 0) (e : Ext) (block : ExtBlock) (s : Setting)
    → ((p : Progress) (purpose : Purpose) (op : ExtOp) → R op (step_of e block s p purpose op op.kind))
    → (p : Progress) (ops : List ExtOp) → AllZip R ops (steps_of e block s p ops)
steps_zip R e block s f p [] = tt
steps_zip R e block s f p (op ∷ ops) =
    let purpose = purpose_at s.term (op ∷ ops) in (f p purpose op, steps_zip R e block s f (progress_of e block s p purpose op op.kind) ops)

pub steps_each : (R : ℕ → ExtOp → Step → Type 0) (e : Ext) (block : ExtBlock) (s : Setting)
    → ((n : ℕ) (p : Progress) (purpose : Purpose) (op : ExtOp) → R n op (step_of e block s p purpose op op.kind))
    → (n : ℕ) (p : Progress) (ops : List ExtOp) → EachStep R n ops (steps_of e block s p ops)
steps_each R e block s f n p [] = tt
steps_each R e block s f n p (op ∷ ops) =
    let purpose = purpose_at s.term (op ∷ ops) in (
      f n p purpose op,
      steps_each R e block s f (n + 1)
          (progress_of e block s p purpose op op.kind) ops,
    )

pub plans_zip : (R : ExtBlock → BlockPlan → Type 0) (e : Ext) → ((first : Bool) (block : ExtBlock)
    → R block (block_plan e first block)) → (first : Bool) (blocks : List ExtBlock) → AllZip R blocks (block_plans e first blocks)
plans_zip R e f first [] = tt
plans_zip R e f first (block ∷ blocks) = (f first block, plans_zip R e f false blocks)

pub plans_each : (R : ℕ → ℕ → ℕ → ExtOp → Step → Type 0) (e : Ext)
    → ((b n : ℕ) (first : Bool) (block : ExtBlock)
    → EachStep (R b (block_plan e first block).end) n block.ops (block_plan e first block).steps)
    → (b n : ℕ) (first : Bool) (blocks : List ExtBlock) → EachPlan R b n blocks (block_plans e first blocks)
plans_each R e f b n first [] = tt
plans_each R e f b n first (block ∷ blocks) = (f b n first block, plans_each R e f (b + 1) (n + length block.ops) false blocks)

-- what holds of each operation
abbrev pub EachOp : (ExtOp → Type 0) → List ExtOp → Type 0
EachOp Q [] = Unit {0}
EachOp Q (op ∷ ops) = Q op × EachOp Q ops

pub steps_each_of : (Q : ExtOp → Type 0) (R : ℕ → ExtOp → Step → Type 0) (e : Ext) (block : ExtBlock) (s : Setting)
    → ((n : ℕ) (p : Progress) (purpose : Purpose) (op : ExtOp) → Q op → R n op (step_of e block s p purpose op op.kind))
    → (n : ℕ) (p : Progress) (ops : List ExtOp) → EachOp Q ops → EachStep R n ops (steps_of e block s p ops)
steps_each_of Q R e block s f n p [] h = tt
steps_each_of Q R e block s f n p (op ∷ ops) h =
    let purpose = purpose_at s.term (op ∷ ops) in (
      f n p purpose op h.0,
      steps_each_of Q R e block s f (n + 1)
          (progress_of e block s p purpose op op.kind) ops h.1,
    )

abbrev pub EachBlockOp : (ExtOp → Type 0) → List ExtBlock → Type 0
EachBlockOp Q [] = Unit {0}
EachBlockOp Q (block ∷ blocks) = EachOp Q block.ops × EachBlockOp Q blocks

pub plans_each_of : (Q : ExtOp → Type 0) (R : ℕ → ExtOp → Step → Type 0) (e : Ext)
    → ((block : ExtBlock) (s : Setting) (n : ℕ) (p : Progress) (purpose : Purpose) (op : ExtOp) → Q op
    → R n op (step_of e block s p purpose op op.kind))
    → (b n : ℕ) (first : Bool) (blocks : List ExtBlock) → EachBlockOp Q blocks
    → EachPlan (λ b end. R) b n blocks (block_plans e first blocks)
plans_each_of Q R e f b n first [] h = tt
plans_each_of Q R e f b n first (block ∷ blocks) h = (
  steps_each_of Q R e block (setting_of e first block) (f block (setting_of e first block)) n
      (first_progress e first) block.ops h.0,
  plans_each_of Q R e f (b + 1) (n + length block.ops) false blocks h.1,
)

-- ---- steps suit operations

length-places : {A B : Type 0} (f : ℕ → A → B) (k : ℕ) (xs : List A) → length (places_from f k xs) ≡ length xs
length-places f k [] = refl
length-places f k (x ∷ xs) = ap suc (length-places f (k + 1) xs)

all_choices : (op : ExtOp) (kind : ExtKind) → op.kind ≡ kind → has_choices kind ≡ true → length op.operands ≡ length (chosen_operands op)
all_choices op kind e h = rw (e, h) refl

pub suits_by : (e : Ext) (block : ExtBlock) (s : Setting) (p : Progress) (purpose : Purpose) (op : ExtOp) (kind : ExtKind)
    → op.kind ≡ kind → Suits op (step_of e block s p purpose op kind)
suits_by e block s p purpose op In is = record {
  choices = length-replicate (length op.operands) 0 ∙ all_choices op In is refl;
  registers = length-places _ 0 op.results;
}
suits_by e block s p purpose op Out is = record {
  choices = length-places _ 0 op.operands ∙ all_choices op Out is refl;
  registers = length-replicate (length op.results) 0;
}
suits_by e block s p purpose op (Body o) is = record {
  choices = length-map op.operands _ ∙ all_choices op (Body o) is refl;
  registers = length-replicate (length op.results) _;
}
suits_by e block s p purpose op (End term) is = record {
  choices = length-map op.operands _ ∙ all_choices op (End term) is refl;
  registers = length-replicate (length op.results) 0;
}
suits_by e block s p purpose op (Copy node) is = record {
  choices = length-replicate (length (chosen_operands op)) _;
  registers = length-replicate (length op.results) _;
}
suits_by e block s p purpose op Enter is = record {
  choices = length-replicate (length op.operands) 0 ∙ all_choices op Enter is refl;
  registers = length-replicate (length op.results) 0;
}
suits_by e block s p purpose op Leave is = record {
  choices = length-replicate (length op.operands) 0 ∙ all_choices op Leave is refl;
  registers = length-replicate (length op.results) 0;
}

pub plan_suits : (e : Ext) → SuitsAll e.blocks (block_plans e true e.blocks)
plan_suits e =
    plans_zip SuitsBlock e (λ first block. steps_zip Suits e block (setting_of e first block) (λ p purpose op. suits_by e block
    (setting_of e first block) p purpose op op.kind refl) (first_progress e first) block.ops) true e.blocks

-- ---- copies that do nothing

-- a copy issues an instruction, or all of it is 0
abbrev pub IsMoving : Move → Type 0
IsMoving m = (is_some (copy_of m.instr) ≡ true) ⊎ (m ≡ no_move)

moving_if : (b : Bool) (m : Move) → IsMoving m → IsMoving (if b then m else no_move)
moving_if true m h = h
moving_if false m h = inr refl

moving_spill : (slot : Option ℕ) (now : ℕ) → IsMoving (spilled_to slot now)
moving_spill None now = inr refl
moving_spill (Some slot) now = inl refl

moving_kept : (kind : Kind) (name : NameId) (now : ℕ) → IsMoving (kept_by_kind kind name now)
moving_kept General name now = inl refl
moving_kept Pred name now = inl refl

moving_first : (names : List Kind) (live_in : List NameId) (s : Setting) (p : Progress) (d : Definer)
    → IsMoving (first_copy names live_in s p d)
moving_first names live_in s p Start = moving_spill _ p.cycle
moving_first names live_in s p (Assigns name) = moving_kept (name_kind names name) name p.cycle
moving_first names live_in s p Other = inr refl

moving_second : (p : Progress) (alts : List TempId) (d : Definer) → IsMoving (second_copy p alts d)
moving_second p alts Start = inr refl
moving_second p alts (Assigns name) = inl refl
moving_second p alts Other = inr refl

moving_operand : (t : Table) (s : Setting) (p : Progress) (alts : List TempId) (purpose : Purpose)
    → IsMoving (operand_copy t s p alts purpose)
moving_operand t s p alts Operands = inl refl
moving_operand t s p alts Link = inl refl
moving_operand t s p alts Returned = moving_if (p.operands == 0) _ (inl refl)
moving_operand t s p alts Unread = inr refl

moving_truth : (p : Progress) (alts : List TempId) (purpose : Purpose) → IsMoving (truth_copy p alts purpose)
moving_truth p alts Operands = inl refl
moving_truth p alts Link = inr refl
moving_truth p alts Returned = inr refl
moving_truth p alts Unread = inr refl

pub moving : (e : Ext) (live_in : List NameId) (s : Setting) (p : Progress) (purpose : Purpose) (alts : List TempId) (node : NodeCopy)
    → IsMoving (copy_move e live_in s p purpose alts node)
moving e live_in s p purpose alts D = moving_first e.names live_in s p p.definer
moving e live_in s p purpose alts D2 = moving_second p alts p.definer
moving e live_in s p purpose alts U = moving_operand e.table s p alts purpose
moving e live_in s p purpose alts U2 = moving_truth p alts purpose

-- ---- zeros

-- an operation is active, or its variables are 0
pub record Rests (op : ExtOp) (s : Step) : Type 0 where
  pub issue : ((is_delimiter op.kind || is_some (instruction_of op.kind s.instr)) ≡ true) ⊎
      ((((if has_cycle op.kind then s.cycle else 0) == 0) && list_all (λ (c : ℕ). c == 0) s.choices) ≡ true)
  pub registers : ((is_delimiter op.kind || is_some (instruction_of op.kind s.instr)) ≡ true) ⊎ All (λ (r : ℕ). r ≡ 0) s.registers

zeros_pass : (n : ℕ) → list_all (λ (c : ℕ). c == 0) (replicate n 0) ≡ true
zeros_pass zero = refl
zeros_pass (suc n) = zeros_pass n

still_passes : (b : Bool) (n : ℕ) → (((if b then 0 else 0) == 0) && list_all (λ (c : ℕ). c == 0) (replicate n 0)) ≡ true
still_passes true n = zeros_pass n
still_passes false n = zeros_pass n

abbrev copy_step : ExtOp → Move → Step
copy_step op m = record {
  instr = m.instr;
  cycle = m.cycle;
  choices = replicate (length
      (chosen_operands op)) m.place;
  registers = replicate (length op.results) m.register;
}

copy_rests : (op : ExtOp) (node : NodeCopy) (m : Move) → op.kind ≡ Copy node → IsMoving m → Rests op (copy_step op m)
copy_rests op node m is (inl h) = record { issue = inl (rw is h); registers = inl (rw is h) }
copy_rests op node m is (inr h) =
    let still : Rests op (copy_step op no_move) = record {
      issue = inr (still_passes (has_cycle op.kind) (length (chosen_operands op)));
      registers = inr (All-replicate (λ (r : ℕ). r ≡ 0) (length op.results) 0 refl);
    } in
    subst (λ (x : Move). Rests op (copy_step op x)) (sym h) still

active_rests : (op : ExtOp) (s : Step) → (is_delimiter op.kind || is_some (instruction_of op.kind s.instr)) ≡ true → Rests op s
active_rests op s h = record { issue = inl h; registers = inl h }

-- a terminator is no falling through
abbrev pub IsReal : ExtKind → Type 0
IsReal (End Fall) = ⊥
IsReal _ = Unit {0}

pub transfers : (term : Term) → IsReal (End term) → is_some (transfer_of term) ≡ true
transfers Fall h = absurd h
transfers (Jump to) h = refl
transfers (Branch pred true to) h = refl
transfers (Branch pred false to) h = refl
transfers (Ret value) h = refl

pub rests_by : (e : Ext) (block : ExtBlock) (s : Setting) (p : Progress) (purpose : Purpose) (op : ExtOp) (kind : ExtKind)
    → op.kind ≡ kind → IsReal kind → Rests op (step_of e block s p purpose op kind)
rests_by e block s p purpose op In is real = active_rests op _ (rw is refl)
rests_by e block s p purpose op Out is real = active_rests op _ (rw is refl)
rests_by e block s p purpose op (Body o) is real = active_rests op _ (rw is refl)
rests_by e block s p purpose op (End term) is real = active_rests op _ (rw is (transfers term real))
rests_by e block s p purpose op (Copy node) is real =
    let alts = first_alts op.operands in
    copy_rests op node (copy_move e block.live_in s p purpose alts node) is (moving e block.live_in s p purpose alts node)
rests_by e block s p purpose op Enter is real = active_rests op _ (rw is refl)
rests_by e block s p purpose op Leave is real = active_rests op _ (rw is refl)

pub plan_rests : (e : Ext) → EachBlockOp (λ (op : ExtOp). IsReal op.kind) e.blocks
    → EachPlan (λ b end n. Rests) 0 0 e.blocks (block_plans e true e.blocks)
plan_rests e real =
    plans_each_of (λ (op : ExtOp). IsReal op.kind) (λ n. Rests) e
    (λ block s n p purpose op h. rests_by e block s p purpose op op.kind refl h) 0 0 true e.blocks real

zero_range : (op : ExtOp) (s : Step) (b end n r last : ℕ) → Rests op s → Contains s.registers r
    → IsZeroRange (planned_range (place_at n r) last (Some (planned_issue b end n op s)))
zero_range op s b end n r last h c = elim h.registers [ inl a ↦ inl a | inr z ↦ inr (All-contains (λ (q : ℕ). q ≡ 0) s.registers r z c) ]

-- the variables of inactive operations are 0
pub keeps_zeros : (e : Ext) → EachBlockOp (λ (op : ExtOp). IsReal op.kind) e.blocks
    → KeepsZeros (planned_schedule e.blocks (block_plans e true e.blocks))
keeps_zeros e real =
    let each = plan_rests e real in (
      issues_each IsIdleAtZero (λ b end n. Rests) (λ b end n op s h. h.issue) 0 0 e.blocks (block_plans e true e.blocks) each,
      ranges_each IsZeroRange (λ b end n. Rests) (λ b end n op s r last h c. zero_range op s b end n r last h c) e.blocks
          (block_plans e true e.blocks) each,
    )
