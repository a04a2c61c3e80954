-- What goes with what an operation does: each law is tried at every operation.
use Rattle.std.proofs.Common.{◌≡◌, Bool, true, false, not, refl}
use Rattle.std.specs.Prelude.{nat_eq, is_none}
use Rattle.un_isa.specs.declared.op.Op.{Op}
use Rattle.un_isa.specs.declared.op.Op.TheVariants.{Imm, Call}
use Rattle.un_isa.specs.Does.{is_call, is_return, is_jump, is_transfer, is_leaving, is_control, is_copy, writes_memory, is_word_access}
use Rattle.un_isa.specs.Does.{moves_stack, is_nop, is_branch, is_new, is_compare}
use Rattle.un_isa.specs.Facts.{class_of, is_source, result_space}
use Rattle.un_isa.specs.Hexagon.{needs_by}
use Rattle.un_isa.specs.Operands.{is_alu}

-- where the first test holds, the second does
abbrev pub so : Bool → Bool → Bool
so true b = b
so false b = true

pub so_holds : (a b : Bool) → so a b ≡ true → a ≡ true → b ≡ true
so_holds true b h e = h
so_holds false b h e = absurd (cc e)

-- where the first test holds, the second does not
pub so_fails : (a b : Bool) → so a (not b) ≡ true → a ≡ true → b ≡ false
so_fails true false h e = refl
so_fails true true h e = absurd (cc h)
so_fails false b h e = absurd (cc e)

-- ---- what leaves its block

pub return_transfer : (op : Op) → is_return op ≡ true → is_transfer op ≡ true
return_transfer Imm h = absurd (cc h)
return_transfer op h = so_holds (is_return op) (is_transfer op) refl h

pub jump_transfer : (op : Op) → is_jump op ≡ true → is_transfer op ≡ true
jump_transfer Imm h = absurd (cc h)
jump_transfer op h = so_holds (is_jump op) (is_transfer op) refl h

pub leaving_transfer : (op : Op) → is_leaving op ≡ true → is_transfer op ≡ true
leaving_transfer Imm h = absurd (cc h)
leaving_transfer op h = so_holds (is_leaving op) (is_transfer op) refl h

pub transfer_control : (op : Op) → is_transfer op ≡ true → is_control op ≡ true
transfer_control Imm h = absurd (cc h)
transfer_control op h = so_holds (is_transfer op) (is_control op) refl h

-- it does nothing else
pub transfer_source : (op : Op) → is_transfer op ≡ true → is_source op ≡ false
transfer_source Imm h = absurd (cc h)
transfer_source op h = so_fails (is_transfer op) (is_source op) refl h

pub transfer_call : (op : Op) → is_transfer op ≡ true → is_call op ≡ false
transfer_call Imm h = absurd (cc h)
transfer_call op h = so_fails (is_transfer op) (is_call op) refl h

pub transfer_alu : (op : Op) → is_transfer op ≡ true → is_alu op ≡ false
transfer_alu Imm h = absurd (cc h)
transfer_alu op h = so_fails (is_transfer op) (is_alu op) refl h

pub transfer_copy : (op : Op) → is_transfer op ≡ true → is_copy op ≡ false
transfer_copy Imm h = absurd (cc h)
transfer_copy op h = so_fails (is_transfer op) (is_copy op) refl h

pub transfer_memory : (op : Op) → is_transfer op ≡ true → writes_memory op ≡ false
transfer_memory Imm h = absurd (cc h)
transfer_memory op h = so_fails (is_transfer op) (writes_memory op) refl h

pub transfer_access : (op : Op) → is_transfer op ≡ true → is_word_access op ≡ false
transfer_access Imm h = absurd (cc h)
transfer_access op h = so_fails (is_transfer op) (is_word_access op) refl h

pub transfer_stack : (op : Op) → is_transfer op ≡ true → moves_stack op ≡ false
transfer_stack Imm h = absurd (cc h)
transfer_stack op h = so_fails (is_transfer op) (moves_stack op) refl h

pub transfer_nop : (op : Op) → is_transfer op ≡ true → is_nop op ≡ false
transfer_nop Imm h = absurd (cc h)
transfer_nop op h = so_fails (is_transfer op) (is_nop op) refl h

pub transfer_quick : (op : Op) → is_transfer op ≡ true → is_none (result_space op) ≡ true
transfer_quick Imm h = absurd (cc h)
transfer_quick op h = so_holds (is_transfer op) (is_none (result_space op)) refl h

pub branch_transfer : (op : Op) → is_branch op ≡ true → is_transfer op ≡ true
branch_transfer Imm h = absurd (cc h)
branch_transfer op h = so_holds (is_branch op) (is_transfer op) refl h

pub new_transfer : (op : Op) → is_new op ≡ true → is_transfer op ≡ true
new_transfer Imm h = absurd (cc h)
new_transfer op h = so_holds (is_new op) (is_transfer op) refl h

-- ---- operations of the source

pub source_stays : (op : Op) → is_source op ≡ true → is_transfer op ≡ false
source_stays Imm h = refl
source_stays op h = so_fails (is_source op) (is_transfer op) refl h

pub source_stack : (op : Op) → is_source op ≡ true → moves_stack op ≡ false
source_stack Imm h = refl
source_stack op h = so_fails (is_source op) (moves_stack op) refl h

pub source_nop : (op : Op) → is_source op ≡ true → is_nop op ≡ false
source_nop Imm h = refl
source_nop op h = so_fails (is_source op) (is_nop op) refl h

pub source_branch : (op : Op) → is_source op ≡ true → is_branch op ≡ false
source_branch Imm h = refl
source_branch op h = so_fails (is_source op) (is_branch op) refl h

-- ---- places in a packet

pub control_place : (op : Op) → is_control op ≡ true → nat_eq ((needs_by (class_of op)).control) 1 ≡ true
control_place Imm h = absurd (cc h)
control_place op h = so_holds (is_control op) (nat_eq ((needs_by (class_of op)).control) 1) refl h

pub store_place : (op : Op) → writes_memory op ≡ true → nat_eq ((needs_by (class_of op)).store) 1 ≡ true
store_place Imm h = absurd (cc h)
store_place op h = so_holds (writes_memory op) (nat_eq ((needs_by (class_of op)).store) 1) refl h

-- ---- copies and calls

pub copy_stays : (op : Op) → is_copy op ≡ true → is_transfer op ≡ false
copy_stays Imm h = absurd (cc h)
copy_stays op h = so_fails (is_copy op) (is_transfer op) refl h

pub copy_branch : (op : Op) → is_copy op ≡ true → is_branch op ≡ false
copy_branch Imm h = absurd (cc h)
copy_branch op h = so_fails (is_copy op) (is_branch op) refl h

pub copy_stack : (op : Op) → is_copy op ≡ true → moves_stack op ≡ false
copy_stack Imm h = absurd (cc h)
copy_stack op h = so_fails (is_copy op) (moves_stack op) refl h

pub copy_nop : (op : Op) → is_copy op ≡ true → is_nop op ≡ false
copy_nop Imm h = absurd (cc h)
copy_nop op h = so_fails (is_copy op) (is_nop op) refl h

pub call_is : (op : Op) → is_call op ≡ true → op ≡ Call
call_is Call h = refl
call_is op h = absurd (cc h)

pub stack_new : (op : Op) → moves_stack op ≡ true → is_new op ≡ false
stack_new Imm h = absurd (cc h)
stack_new op h = so_fails (moves_stack op) (is_new op) refl h

pub compare_stack : (op : Op) → is_compare op ≡ true → moves_stack op ≡ false
compare_stack Imm h = absurd (cc h)
compare_stack op h = so_fails (is_compare op) (moves_stack op) refl h

pub compare_call : (op : Op) → is_compare op ≡ true → is_call op ≡ false
compare_call Imm h = absurd (cc h)
compare_call op h = so_fails (is_compare op) (is_call op) refl h

pub stack_stays : (op : Op) → moves_stack op ≡ true → is_transfer op ≡ false
stack_stays Imm h = absurd (cc h)
stack_stays op h = so_fails (moves_stack op) (is_transfer op) refl h

-- ---- what computes does nothing else

pub alu_stays : (op : Op) → is_alu op ≡ true → is_control op ≡ false
alu_stays Imm h = refl
alu_stays op h = so_fails (is_alu op) (is_control op) refl h

pub alu_new : (op : Op) → is_alu op ≡ true → is_new op ≡ false
alu_new Imm h = refl
alu_new op h = so_fails (is_alu op) (is_new op) refl h

pub alu_stack : (op : Op) → is_alu op ≡ true → moves_stack op ≡ false
alu_stack Imm h = refl
alu_stack op h = so_fails (is_alu op) (moves_stack op) refl h

pub alu_memory : (op : Op) → is_alu op ≡ true → writes_memory op ≡ false
alu_memory Imm h = refl
alu_memory op h = so_fails (is_alu op) (writes_memory op) refl h

pub alu_access : (op : Op) → is_alu op ≡ true → is_word_access op ≡ false
alu_access Imm h = refl
alu_access op h = so_fails (is_alu op) (is_word_access op) refl h
