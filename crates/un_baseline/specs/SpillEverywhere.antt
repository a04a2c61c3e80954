-- Spill everywhere. The name with number i is kept in slot i, and the link register's value in the slot after the names. Names
-- stand in their slots at the bounds of blocks, the link register's value stands in its slot from its spill on, and the
-- callee-saved registers stay as they are. One instruction issues in a packet, and the next as many cycles later as the
-- latency of the one before.
use Rattle.std.specs.Prelude.{ℕ, ◌+◌, ◌-◌, ◌==◌, nat_lt, Bool, true, false, if◌then◌else◌, List, [], ◌∷◌, Option, Some, None, map}
use Rattle.std.specs.Prelude.{replicate, length, slice_get, slice_index}
use Rattle.un_base.specs.declared.ids.NameId.{NameId}
use Rattle.un_base.specs.declared.ids.TempId.{TempId}
use Rattle.un_isa.specs.Registers.{saved_registers}
use Rattle.un_isa.specs.Tables.{latency_of}
use Rattle.un_isa.specs.declared.op.Op.TheVariants.{Jumpr, Reload}
use Rattle.un_isa.specs.declared.op.Op.TheVariants.{Enter as EnterOp, Leave as LeaveOp}
use Rattle.un_isa.specs.declared.reg.TheConstants.{FIRST_SLOT, LINK}
use Rattle.un_isa.specs.declared.table.Table.{Table}
use Rattle.un_ir.specs.declared.function.Kind.{Kind}
use Rattle.un_ir.specs.declared.function.Kind.TheVariants.{General, Pred}
use Rattle.un_ir.specs.declared.function.Term.{Term}
use Rattle.un_ir.specs.declared.function.Term.TheVariants.{Ret}
use Rattle.un_ir.specs.declared.extended.NodeCopy.{NodeCopy}
use Rattle.un_ir.specs.declared.extended.NodeCopy.TheVariants.{D, D2, U, U2}
use Rattle.un_ir.specs.declared.extended.ExtKind.{ExtKind}
use Rattle.un_ir.specs.declared.extended.ExtKind.TheVariants.{In, Out, Body, End, Copy, Enter, Leave}
use Rattle.un_ir.specs.declared.extended.Operand.{Operand}
use Rattle.un_ir.specs.declared.extended.ExtOp.{ExtOp}
use Rattle.un_ir.specs.declared.extended.ExtBlock.{ExtBlock}
use Rattle.un_ir.specs.declared.extended.Ext.{Ext}
use Rattle.un_ir.specs.declared.extended.TheConstants.{SPILL, RELOAD, FROM_PREDICATE, TO_PREDICATE}
use Rattle.un_ir.specs.Extended.{name_kind}
use Rattle.un_ir.specs.Linear.{first_of}
use Rattle.un_model.specs.Congruences.{term_of, live_in_temps}
use Rattle.un_model.specs.Instructions.{copy_of, gives_truth, latency_by, transfer_of}
use Rattle.un_model.specs.Pairs.{places_from}
use Rattle.un_model.specs.Variables.{chosen_operands}
use Rattle.un_baseline.specs.declared.plan.Purpose.{Purpose}
use Rattle.un_baseline.specs.declared.plan.Purpose.TheVariants.{Operands, Link, Returned, Unread}
use Rattle.un_baseline.specs.declared.plan.Definer.{Definer}
use Rattle.un_baseline.specs.declared.plan.Definer.TheVariants.{Start, Assigns, Other}
use Rattle.un_baseline.specs.declared.plan.Setting.{Setting}
use Rattle.un_baseline.specs.declared.plan.Progress.{Progress}
use Rattle.un_baseline.specs.declared.plan.Move.{Move}
use Rattle.un_baseline.specs.declared.plan.TheConstants.{PREDICATE}
use Rattle.un_baseline.specs.Plans.{Step, BlockPlan, plan_values}

-- ---- what copies of operands are for

abbrev pub purpose_of_end : Term → Purpose
purpose_of_end (Ret value) = Link
purpose_of_end _ = Operands

abbrev pub purpose_of_out : Term → Purpose
purpose_of_out (Ret (Some name)) = Returned
purpose_of_out _ = Unread

-- what the copies of operands before an operation are for, in a block that ends so; those before a copy are for what follows
abbrev pub purpose_of : Term → ExtKind → Purpose → Purpose
purpose_of term (Copy node) following = following
purpose_of term (Body o) following = Operands
purpose_of term (End last) following = purpose_of_end last
purpose_of term Out following = purpose_of_out term
purpose_of term _ following = Unread

abbrev pub purpose_at : Term → List ExtOp → Purpose
purpose_at term [] = Unread
purpose_at term (op ∷ ops) = purpose_of term op.kind (purpose_at term ops)

-- ---- where values are kept

abbrev pub slot_of : NameId → ℕ
slot_of name = FIRST_SLOT + name.0

abbrev pub last_place : List TempId → ℕ
last_place alts = length alts - 1

-- whether a value stands where it is kept from the block's start on
abbrev pub is_placed : Setting → List TempId → Bool
is_placed s alts = nat_lt (first_of alts) s.placed

-- the place, among a value and its own copies, of the one that stands where the value is kept
abbrev pub kept_place : Setting → List TempId → ℕ
kept_place s alts = if is_placed s alts then 0 else last_place alts

-- where the value at place i of the entry's start is to be kept, where it is to be moved
abbrev pub slot_at_start : Setting → ℕ → Option NameId → Option ℕ
slot_at_start s i (Some name) = Some (slot_of name)
slot_at_start s i None = if i + 1 == s.values then Some s.link else None

-- the register of the value at place j of a block's start
abbrev pub start_register : Table → Setting → List NameId → ℕ → Option NameId → ℕ
start_register t s live_in j (Some name) = if s.is_entry then slice_index t.args name.0 else slot_of name
start_register t s live_in j None =
    let saved = slice_index (saved_registers t) (j - length live_in) in
    if s.is_entry then saved else if j + 1 == s.values then s.link else saved

-- ---- copies

abbrev pub move : ℕ → ℕ → ℕ → ℕ → Move
move instr cycle place register = record { instr = instr; cycle = cycle; place = place; register = register }

-- of a copy that does nothing
abbrev pub no_move : Move
no_move = move 0 0 0 0

abbrev pub spilled_to : Option ℕ → ℕ → Move
spilled_to None now = no_move
spilled_to (Some slot) now = move SPILL now 0 slot

abbrev pub kept_by_kind : Kind → NameId → ℕ → Move
kept_by_kind General name now = move SPILL now 0 (slot_of name)
kept_by_kind Pred name now = move FROM_PREDICATE now 0 0

-- the first copy of a value
abbrev pub first_copy : List Kind → List NameId → Setting → Progress → Definer → Move
first_copy names live_in s p Start = spilled_to (slot_at_start s p.values (slice_get live_in p.values)) p.cycle
first_copy names live_in s p (Assigns name) = kept_by_kind (name_kind names name) name p.cycle
first_copy names live_in s p Other = no_move

-- the second copy of a truth value, which may read these temporaries
abbrev pub second_copy : Progress → List TempId → Definer → Move
second_copy p alts (Assigns name) = move SPILL p.cycle (last_place alts) (slot_of name)
second_copy p alts _ = no_move

-- how long a return waits for its result
abbrev pub result_wait : Table → Term → ℕ
result_wait t (Ret (Some name)) = latency_of t Reload
result_wait t _ = 0

-- the first copy of an operand, which may read these temporaries
abbrev pub operand_copy : Table → Setting → Progress → List TempId → Purpose → Move
operand_copy t s p alts Operands = move RELOAD p.cycle (kept_place s alts) p.operands
operand_copy t s p alts Link = move RELOAD (p.cycle + result_wait t s.term) (kept_place s alts) LINK
operand_copy t s p alts Returned = if p.operands == 0 then move RELOAD p.cycle (kept_place s alts) 0 else no_move
operand_copy t s p alts Unread = no_move

-- the second copy of an operand that reads a truth value
abbrev pub truth_copy : Progress → List TempId → Purpose → Move
truth_copy p alts Operands = move TO_PREDICATE p.cycle (last_place alts) PREDICATE
truth_copy p alts _ = no_move

abbrev pub first_alts : List Operand → List TempId
first_alts [] = []
first_alts (x ∷ xs) = x.alts

abbrev pub copy_move : Ext → List NameId → Setting → Progress → Purpose → List TempId → NodeCopy → Move
copy_move e live_in s p purpose alts D = first_copy e.names live_in s p p.definer
copy_move e live_in s p purpose alts D2 = second_copy p alts p.definer
copy_move e live_in s p purpose alts U = operand_copy e.table s p alts purpose
copy_move e live_in s p purpose alts U2 = truth_copy p alts purpose

-- ---- steps

-- the cycle of a return's Leave, before which its result and its address are reloaded
abbrev pub leave_cycle : Table → Term → ℕ → ℕ
leave_cycle t term now = now + result_wait t term + latency_of t Reload

abbrev pub end_cycle : Table → Term → ℕ → ℕ
end_cycle t (Ret value) now = leave_cycle t (Ret value) now + latency_of t LeaveOp
end_cycle t _ now = now

-- how many copies keep a value of a name of this kind
abbrev pub copies_of : Kind → ℕ
copies_of General = 1
copies_of Pred = 2

-- the place of the alternative that the operand at place j of a block's end chooses, where a block has so many of them: a
-- name's and the link register's is where the value is kept
abbrev pub handed_place : List Kind → Setting → ℕ → ℕ → Operand → Option NameId → ℕ
handed_place names s count j x (Some name) = if is_placed s x.alts then 0 else copies_of (name_kind names name)
handed_place names s count j x None = if is_placed s x.alts then 0 else if j + 1 == count then 1 else 0

abbrev pub out_place : List Kind → List NameId → Setting → ℕ → Term → ℕ → Operand → ℕ
out_place names live_out s count (Ret (Some name)) j x = if j == 0 then last_place x.alts else 0
out_place names live_out s count (Ret None) j x = 0
out_place names live_out s count _ j x = handed_place names s count j x (slice_get live_out j)

abbrev pub operand_place : Operand → ℕ
operand_place x = last_place x.alts

-- what an operation does, with copies that are for this
abbrev pub step_of : Ext → ExtBlock → Setting → Progress → Purpose → ExtOp → ExtKind → Step
step_of e block s p purpose op In = record {
  instr = 0;
  cycle = 0;
  choices = replicate (length op.operands) 0;
  registers = places_from (λ (j : ℕ) (x : TempId). start_register e.table s block.live_in j (slice_get block.live_in j)) 0 op.results;
}
step_of e block s p purpose op Out = record {
  instr = 0;
  cycle = 0;
  choices = places_from (out_place e.names block.live_out s (length op.operands) s.term) 0 op.operands;
  registers = replicate (length op.results) 0;
}
step_of e block s p purpose op (Body o) = record {
  instr = 0;
  cycle = p.cycle;
  choices = map operand_place op.operands;
  registers = replicate (length op.results) (if gives_truth o.op then PREDICATE else 0);
}
step_of e block s p purpose op (End term) = record {
  instr = 0;
  cycle = end_cycle e.table term p.cycle;
  choices = map operand_place op.operands;
  registers = replicate (length op.results) 0;
}
step_of e block s p purpose op (Copy node) =
    let m = copy_move e block.live_in s p purpose (first_alts op.operands) node in
    record {
      instr = m.instr;
      cycle = m.cycle;
      choices = replicate (length (chosen_operands op)) m.place;
      registers = replicate
          (length op.results) m.register;
    }
step_of e block s p purpose op Enter = record {
  instr = 1;
  cycle = 1;
  choices = replicate (length op.operands) 0;
  registers = replicate
      (length op.results) 0;
}
step_of e block s p purpose op Leave = record {
  instr = 1;
  cycle = leave_cycle e.table s.term p.cycle;
  choices = replicate (length op.operands) 0;
  registers = replicate (length op.results) 0;
}

-- ---- progress

-- the next cycle after a copy that issues in the cycle `now`, or does nothing
abbrev pub after_move : Table → ℕ → Move → ℕ
after_move t now m = if m.instr == 0 then now else now + latency_by t (copy_of m.instr)

-- the copies of what a return reads issue at the end of their block, as Leave and the return do
abbrev pub next_cycle : Table → ℕ → Move → Purpose → NodeCopy → ℕ
next_cycle t now m purpose D = after_move t now m
next_cycle t now m purpose D2 = after_move t now m
next_cycle t now m Operands node = after_move t now m
next_cycle t now m purpose node = now

-- each value and each operand has one first copy
abbrev pub next_value : ℕ → NodeCopy → ℕ
next_value n D = n + 1
next_value n _ = n

abbrev pub next_operand : ℕ → NodeCopy → ℕ
next_operand n U = n + 1
next_operand n _ = n

abbrev pub assigning : Option NameId → Definer
assigning None = Other
assigning (Some name) = Assigns name

abbrev pub other_progress : ℕ → Definer → Progress
other_progress now definer = record { cycle = now; values = 0; operands = 0; definer = definer }

abbrev pub after_end : Table → Term → ℕ → ℕ
after_end t (Ret value) now = now
after_end t term now = now + latency_by t (transfer_of term)

abbrev pub progress_of : Ext → ExtBlock → Setting → Progress → Purpose → ExtOp → ExtKind → Progress
progress_of e block s p purpose op In = other_progress p.cycle (if s.is_entry then Start else Other)
progress_of e block s p purpose op (Body o) = other_progress (p.cycle + latency_of e.table o.op) (assigning o.dst)
progress_of e block s p purpose op (End term) = other_progress (after_end e.table term p.cycle) Other
progress_of e block s p purpose op (Copy node) =
    let m = copy_move e block.live_in s p purpose (first_alts op.operands) node in
    record {
      cycle = next_cycle e.table p.cycle m purpose node;
      values = next_value p.values node;
      operands = next_operand p.operands
          node;
      definer = p.definer;
    }
progress_of e block s p purpose op _ = other_progress p.cycle Other

abbrev pub steps_of : Ext → ExtBlock → Setting → Progress → List ExtOp → List Step
steps_of e block s p [] = []
steps_of e block s p (op ∷ ops) =
    let purpose = purpose_at s.term (op ∷ ops) in
    step_of e block s p purpose op op.kind ∷ steps_of e block s (progress_of e block s p purpose op op.kind) ops

abbrev pub progress_after : Ext → ExtBlock → Setting → Progress → List ExtOp → Progress
progress_after e block s p [] = p
progress_after e block s p (op ∷ ops) = progress_after e block s (progress_of e block s p (purpose_at s.term (op ∷ ops)) op op.kind) ops

-- ---- blocks

abbrev pub first_number : List TempId → ℕ
first_number [] = 0
first_number (x ∷ xs) = x.0

abbrev pub setting_of : Ext → Bool → ExtBlock → Setting
setting_of e is_entry block =
    let values = live_in_temps block.ops in
    record {
      is_entry = is_entry;
      term = term_of block.ops;
      link = FIRST_SLOT + length e.names;
      values = length values;
      placed = if is_entry then 0 else first_number values + length values;
    }

-- Enter issues first in the entry
abbrev pub first_cycle : Table → Bool → ℕ
first_cycle t true = 1 + latency_of t EnterOp
first_cycle t false = 1

abbrev pub first_progress : Ext → Bool → Progress
first_progress e is_entry = other_progress (first_cycle e.table is_entry) Other

abbrev pub block_end : Table → Term → ℕ → ℕ
block_end t (Ret value) now = end_cycle t (Ret value) now + latency_of t Jumpr
block_end t _ now = now

abbrev pub block_plan : Ext → Bool → ExtBlock → BlockPlan
block_plan e is_entry block =
    let s = setting_of e is_entry block in
    let first = first_progress e is_entry in
    let last = progress_after e block s first block.ops in
    record { steps = steps_of e block s first block.ops; end = block_end e.table s.term last.cycle }

-- the first of the blocks is the entry, or none is
abbrev pub block_plans : Ext → Bool → List ExtBlock → List BlockPlan
block_plans e is_entry [] = []
block_plans e is_entry (block ∷ blocks) = block_plan e is_entry block ∷ block_plans e false blocks

abbrev pub spilled_values : Ext → List ℕ
spilled_values e = plan_values e.blocks (block_plans e true e.blocks) 1
