-- Words of private contracts: what is told of values, that is their homes, and which are truth values. The mark of a general register
-- says that it is a home, and the mark after those that the value is a truth value.
use Rattle.std.specs.Prelude.{ℕ, ◌≡◌, ◌≤◌, ◌<◌, Bool, false, ◌==◌, ◌||◌, ◌&&◌, if◌then◌else◌, List, Option, unwrap_or}
use Rattle.std.specs.BTreeMap.{BTreeMap, get}
use Rattle.std.specs.List.{list_any}
use Rattle.std.specs.Ordering.{nat_cmp}
use Rattle.un_base.specs.declared.ids.NameId.{NameId}
use Rattle.un_base.specs.declared.ids.TempId.{TempId}
use Rattle.un_isa.specs.RegSets.{has}
use Rattle.un_isa.specs.Registers.{saved_registers}
use Rattle.un_isa.specs.declared.reg.Reg.{Reg}
use Rattle.un_isa.specs.declared.reg.TheConstants.{GENERALS}
use Rattle.un_ir.specs.declared.extended.ExtBlock.{ExtBlock}
use Rattle.un_ir.specs.declared.extended.Ext.{Ext}
use Rattle.un_ir.specs.declared.extended.ExtOp.{ExtOp}
use Rattle.un_ir.specs.declared.extended.Operand.{Operand}
use Rattle.un_model.specs.declared.homes.Home.{Home}
use Rattle.un_model.specs.Pairs.{any_from}
use Rattle.un_model.specs.Registers.{is_register, reads_value, result_home, gives_truth_at, is_home, is_truth}

-- what is told of a value: no register and no truth value where nothing is
abbrev pub home_of : BTreeMap ℕ Home → TempId → Home
home_of homes x = unwrap_or (get nat_cmp homes x.0) (record { registers = 0; truth = false })

-- whether a home has a mark
abbrev pub tells : Home → ℕ → Bool
tells home r = if r == GENERALS then home.truth else has home.registers r

-- whether a value has a mark
abbrev pub is_told : BTreeMap ℕ Home → TempId → ℕ → Bool
is_told homes x r = tells (home_of homes x) r

-- the new homes have the marks that are new, and those of the old homes
abbrev pub AddsMarks : (TempId → ℕ → Bool) → BTreeMap ℕ Home → BTreeMap ℕ Home → Type 0
AddsMarks is_new old new = (x : TempId) (r : ℕ) → r ≤ GENERALS → is_told new x r ≡ (is_told old x r || is_new x r)

-- mark r of a value with this home, which is a truth value or not
abbrev pub is_mark : Bool → Option Reg → ℕ → Bool
is_mark truth home r = if r == GENERALS then truth else is_register home r

abbrev pub is_operand_mark : Operand → TempId → ℕ → Bool
is_operand_mark operand x r = reads_value operand x && is_mark false operand.home r

abbrev pub is_operands_mark : ExtOp → TempId → ℕ → Bool
is_operands_mark op x r = list_any (λ (operand : Operand). is_operand_mark operand x r) op.operands

abbrev pub is_result_mark : Ext → Bool → List NameId → ExtOp → TempId → ℕ → ℕ → TempId → Bool
is_result_mark e is_entry live_in op x r j y =
    y.0 == x.0 && is_mark (gives_truth_at e.names live_in op.kind j) (result_home e.table is_entry live_in op.kind j) r

abbrev pub is_results_mark : Ext → Bool → List NameId → ExtOp → TempId → ℕ → Bool
is_results_mark e is_entry live_in op x r = any_from (is_result_mark e is_entry live_in op x r) 0 op.results

abbrev pub is_op_mark : Ext → Bool → List NameId → TempId → ℕ → ExtOp → Bool
is_op_mark e is_entry live_in x r op = is_operands_mark op x r || is_results_mark e is_entry live_in op x r

abbrev pub is_block_mark : Ext → Bool → ExtBlock → TempId → ℕ → Bool
is_block_mark e is_entry block x r = list_any (is_op_mark e is_entry block.live_in x r) block.ops

-- the homes of each value of the block are told, and which are truth values
pub record TellsHomes (e : Ext) (is_entry : Bool) (block : ExtBlock) (told : BTreeMap ℕ Home) : Type 0 where
  pub homes : (x : TempId) (r : ℕ) → r < GENERALS → has (home_of told x).registers r ≡ is_home e.table is_entry block x r
  pub truths : (x : TempId) → (home_of told x).truth ≡ is_truth e.names block x

-- the registers that a function hands back, and the homes of the values of a block
pub record IsScope (e : Ext) (is_entry : Bool) (block : ExtBlock) (saved : List ℕ) (told : BTreeMap ℕ Home) : Type 0 where
  pub saved_are : saved ≡ saved_registers e.table
  pub homes_are : TellsHomes e is_entry block told
