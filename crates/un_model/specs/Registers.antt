-- The registers that a value may have.
use Rattle.std.specs.Prelude.{ℕ, ◌-◌, Bool, true, false, ◌==◌, ◌||◌, ◌&&◌, nat_lt, if◌then◌else◌, List, [], ◌∷◌, ◌++◌, Option, Some, None}
use Rattle.std.specs.Prelude.{filter, length, slice_get, slice_index}
use Rattle.std.specs.List.{range_with_len, list_any}
use Rattle.std.specs.Option.{option_map}
use Rattle.un_base.specs.declared.ids.NameId.{NameId}
use Rattle.un_base.specs.declared.ids.TempId.{TempId}
use Rattle.un_isa.specs.Registers.{saved_registers}
use Rattle.un_isa.specs.declared.reg.TheConstants.{STACK, LINK, GENERALS, PREDICATES, FIRST_SLOT}
use Rattle.un_isa.specs.declared.op.Op.{Op}
use Rattle.un_isa.specs.declared.op.Op.TheVariants.{Call}
use Rattle.un_isa.specs.declared.reg.Reg.{Reg}
use Rattle.un_isa.specs.declared.table.Table.{Table}
use Rattle.un_ir.specs.declared.function.Kind.{Kind}
use Rattle.un_ir.specs.declared.function.Kind.TheVariants.{General, Pred}
use Rattle.un_ir.specs.declared.extended.ExtKind.{ExtKind}
use Rattle.un_ir.specs.declared.extended.ExtKind.TheVariants.{In, Body}
use Rattle.un_ir.specs.declared.extended.Operand.{Operand}
use Rattle.un_ir.specs.declared.extended.ExtOp.{ExtOp}
use Rattle.un_ir.specs.declared.extended.ExtBlock.{ExtBlock}
use Rattle.un_ir.specs.declared.extended.Ext.{Ext}
use Rattle.un_model.specs.Instructions.{gives_truth}
use Rattle.un_model.specs.Pairs.{any_from}

-- ---- registers of the processor

-- r0 to r(n - 1), or all of r0 to r28 and r31
abbrev pub is_assignable : Option ℕ → ℕ → Bool
is_assignable None r = nat_lt r STACK || r == LINK
is_assignable (Some n) r = nat_lt r n

-- p0 to p3
abbrev pub predicate_registers : List ℕ
predicate_registers = range_with_len GENERALS PREDICATES

-- the slots of a frame that has so many
abbrev pub slots_of : ℕ → List ℕ
slots_of n = range_with_len FIRST_SLOT n

-- ---- homes

abbrev pub reg_at : ℕ → Reg
reg_at r = record { 0 = r }

-- a parameter's home, by its number; other names have none
abbrev pub name_home : Table → Bool → NameId → Option Reg
name_home t true name = Some (reg_at (slice_index t.args name.0))
name_home t false name = None

abbrev pub saved_home : Table → ℕ → Option Reg
saved_home t k = option_map reg_at (slice_get (saved_registers t) k)

-- the home of the value at place j of those at a block's start, which have these names: a parameter's by its number, a saved
-- value's its register
abbrev pub start_home : Table → Bool → List NameId → ℕ → Option NameId → Option Reg
start_home t is_entry live_in j None = saved_home t (j - length live_in)
start_home t is_entry live_in j (Some name) = name_home t is_entry name

abbrev pub call_home : Table → Op → Option Reg
call_home t Call = Some (reg_at t.result)
call_home t _ = None

-- the home of the result at place j of an operation
abbrev pub result_home : Table → Bool → List NameId → ExtKind → ℕ → Option Reg
result_home t is_entry live_in In j = start_home t is_entry live_in j (slice_get live_in j)
result_home t is_entry live_in (Body o) j = call_home t o.op
result_home t is_entry live_in _ j = None

abbrev pub is_register : Option Reg → ℕ → Bool
is_register None r = false
is_register (Some home) r = home.0 == r

abbrev pub reads_value : Operand → TempId → Bool
reads_value operand x = list_any (λ (y : TempId). y.0 == x.0) operand.alts

-- whether an operand reads value x and is preassigned to r
abbrev pub is_operand_home : ExtOp → TempId → ℕ → Bool
is_operand_home op x r = list_any (λ (operand : Operand). reads_value operand x && is_register operand.home r) op.operands

-- whether value x is a result of the operation and has the home r itself
abbrev pub is_result_home : Table → Bool → List NameId → ExtOp → TempId → ℕ → Bool
is_result_home t is_entry live_in op x r =
    any_from (λ (j : ℕ) (y : TempId). y.0 == x.0 && is_register (result_home t is_entry live_in op.kind j) r) 0 op.results

-- whether r is a home of value x of a block
abbrev pub is_home : Table → Bool → ExtBlock → TempId → ℕ → Bool
is_home t is_entry block x r =
    list_any (λ (op : ExtOp). is_operand_home op x r || is_result_home t is_entry block.live_in op x r) block.ops

-- ---- truth values

abbrev pub is_pred : Option Kind → Bool
is_pred None = false
is_pred (Some General) = false
is_pred (Some Pred) = true

abbrev pub is_pred_name : List Kind → Option NameId → Bool
is_pred_name names None = false
is_pred_name names (Some name) = is_pred (slice_get names name.0)

-- whether the result at place j of an operation of the source, or of a block's start, is a truth value
abbrev pub gives_truth_at : List Kind → List NameId → ExtKind → ℕ → Bool
gives_truth_at names live_in In j = is_pred_name names (slice_get live_in j)
gives_truth_at names live_in (Body o) j = gives_truth o.op
gives_truth_at names live_in _ j = false

abbrev pub is_truth_of : List Kind → List NameId → ExtOp → TempId → Bool
is_truth_of names live_in op x = any_from (λ (j : ℕ) (y : TempId). y.0 == x.0 && gives_truth_at names live_in op.kind j) 0 op.results

-- whether value x of a block is a truth value
abbrev pub is_truth : List Kind → ExtBlock → TempId → Bool
is_truth names block x = list_any (λ (op : ExtOp). is_truth_of names block.live_in op x) block.ops

-- ---- sets of registers

-- the general registers of value x: the assignable ones and its homes, rising
unfoldable pub general_registers : Ext → Option ℕ → Bool → ExtBlock → TempId → List ℕ
general_registers e regs is_entry block x = filter (λ (r : ℕ). is_assignable regs r || is_home e.table is_entry block x r)
    (range_with_len 0 GENERALS)

-- those, p0 to p3 where x is a truth value, and the slots
abbrev pub value_registers : Ext → Option ℕ → ℕ → Bool → ExtBlock → TempId → List ℕ
value_registers e regs slots is_entry block x =
    general_registers e regs is_entry block x ++ (if is_truth e.names block x then predicate_registers else []) ++ slots_of slots

abbrev pub begins_with_zero : List ℕ → Bool
begins_with_zero [] = false
begins_with_zero (r ∷ rs) = r == 0

-- 0 is in front, where it is not there
abbrev pub with_zero : List ℕ → List ℕ
with_zero registers = if begins_with_zero registers then registers else 0 ∷ registers
