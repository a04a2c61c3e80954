-- The operation of a model that an emitted one comes from: one that tests what its own packet writes is a branch there.
use Rattle.std.proofs.Common.{ℕ, ◌≡◌, Bool, true, false, refl, sym, ap, ◌∙◌, subst}
use Rattle.std.specs.Prelude.{Option, Some, None, if◌then◌else◌}
use Rattle.un_isa.specs.declared.op.Op.{Op}
use Rattle.un_isa.specs.declared.op.Op.TheVariants.{Imm, Load, Store, Call, Jump as JumpOp, JumpIf, JumpIfNot, Jumpr, JumpIfNew, JumpIfNotNew}
use Rattle.un_isa.specs.Does.{is_transfer, is_control, writes_memory, moves_stack, is_nop, is_new, is_branch, is_jump, is_leaving}
use Rattle.un_isa.specs.Facts.{class_of}
use Rattle.un_ir.specs.declared.function.Term.{Term}
use Rattle.un_ir.specs.declared.function.Term.TheVariants.{Fall, Jump, Branch, Ret}
use Rattle.un_ir.specs.declared.extended.ExtKind.{ExtKind}
use Rattle.un_ir.specs.declared.extended.ExtKind.TheVariants.{End}
use Rattle.un_model.specs.Emission.{new_op, emitted_by}
use Rattle.un_model.specs.Instructions.{instruction_of, transfer_of}
use Rattle.un_model.specs.Solutions.{memory_distance, after_load, after_write}

abbrev pub own_op : Op → Op
own_op JumpIfNew = JumpIf
own_op JumpIfNotNew = JumpIfNot
own_op op = op

-- a terminator alone is emitted as another operation
abbrev pub own_by : ExtKind → Op → Op
own_by (End term) op = own_op op
own_by _ op = op

-- ---- back from what is emitted

own_term : (beside : Bool) (term : Term) (op : Op) → transfer_of term ≡ Some op → own_op (if beside then new_op op else op) ≡ op
own_term beside Fall op q = absurd (cc q)
own_term beside (Jump to) op q = let z : JumpOp ≡ op = cc q in subst (λ (x : Op). own_op (if beside then new_op x else x) ≡ x) z (by beside)
  where
    by : (b : Bool) → own_op (if b then JumpOp else JumpOp) ≡ JumpOp
    by true = refl
    by false = refl
own_term beside (Branch pred true to) op q =
    let z : JumpIf ≡ op = cc q in subst (λ (x : Op). own_op (if beside then new_op x else x) ≡ x) z (by beside)
  where
    by : (b : Bool) → own_op (if b then JumpIfNew else JumpIf) ≡ JumpIf
    by true = refl
    by false = refl
own_term beside (Branch pred false to) op q =
    let z : JumpIfNot ≡ op = cc q in subst (λ (x : Op). own_op (if beside then new_op x else x) ≡ x) z (by beside)
  where
    by : (b : Bool) → own_op (if b then JumpIfNotNew else JumpIfNot) ≡ JumpIfNot
    by true = refl
    by false = refl
own_term beside (Ret value) op q = let z : Jumpr ≡ op = cc q in subst (λ (x : Op). own_op (if beside then new_op x else x) ≡ x) z (by beside)
  where
    by : (b : Bool) → own_op (if b then Jumpr else Jumpr) ≡ Jumpr
    by true = refl
    by false = refl

pub own_emitted : (beside : Bool) (kind : ExtKind) (n : ℕ) (op : Op) → instruction_of kind n ≡ Some op
    → own_by kind (emitted_by beside kind op) ≡ op
own_emitted beside (End term) n op q = own_term beside term op q
own_emitted beside _ n op q = refl

-- ---- what is told of both alike

pub own_alike : {X : Type 0} (f : Op → X) → ((op : Op) → f (own_op op) ≡ f op) → (kind : ExtKind) (op : Op) → f (own_by kind op) ≡ f op
own_alike f h (End term) op = h op
own_alike f h _ op = refl

own_transfer : (op : Op) → is_transfer (own_op op) ≡ is_transfer op
own_transfer Imm = refl
own_transfer op = refl

own_control : (op : Op) → is_control (own_op op) ≡ is_control op
own_control Imm = refl
own_control op = refl

own_memory : (op : Op) → writes_memory (own_op op) ≡ writes_memory op
own_memory Imm = refl
own_memory op = refl

own_stack : (op : Op) → moves_stack (own_op op) ≡ moves_stack op
own_stack Imm = refl
own_stack op = refl

own_nop : (op : Op) → is_nop (own_op op) ≡ is_nop op
own_nop Imm = refl
own_nop op = refl

own_class : (op : Op) → class_of (own_op op) ≡ class_of op
own_class Imm = refl
own_class op = refl

own_jump : (op : Op) → is_jump (own_op op) ≡ is_jump op
own_jump Imm = refl
own_jump op = refl

own_leaving : (op : Op) → is_leaving (own_op op) ≡ is_leaving op
own_leaving Imm = refl
own_leaving op = refl

own_earlier : (later : Option Op) (op : Op) → memory_distance (Some (own_op op)) later ≡ memory_distance (Some op) later
own_earlier later Imm = refl
own_earlier later op = refl

own_loaded : (op : Op) → after_load (Some (own_op op)) ≡ after_load (Some op)
own_loaded Imm = refl
own_loaded op = refl

own_written : (op : Op) → after_write (Some (own_op op)) ≡ after_write (Some op)
own_written Imm = refl
own_written op = refl

own_later : (earlier : Option Op) (op : Op) → memory_distance earlier (Some (own_op op)) ≡ memory_distance earlier (Some op)
own_later None op = refl
own_later (Some Load) op = own_loaded op
own_later (Some Store) op = own_written op
own_later (Some Call) op = own_written op
own_later (Some _) op = refl

module _ (kind : ExtKind) (op : Op) where
  pub transfer_alike : is_transfer (own_by kind op) ≡ is_transfer op
  transfer_alike = own_alike is_transfer own_transfer kind op

  pub control_alike : is_control (own_by kind op) ≡ is_control op
  control_alike = own_alike is_control own_control kind op

  pub memory_alike : writes_memory (own_by kind op) ≡ writes_memory op
  memory_alike = own_alike writes_memory own_memory kind op

  pub stack_alike : moves_stack (own_by kind op) ≡ moves_stack op
  stack_alike = own_alike moves_stack own_stack kind op

  pub nop_alike : is_nop (own_by kind op) ≡ is_nop op
  nop_alike = own_alike is_nop own_nop kind op

  pub class_alike : class_of (own_by kind op) ≡ class_of op
  class_alike = own_alike class_of own_class kind op

  pub jump_alike : is_jump (own_by kind op) ≡ is_jump op
  jump_alike = own_alike is_jump own_jump kind op

  pub leaving_alike : is_leaving (own_by kind op) ≡ is_leaving op
  leaving_alike = own_alike is_leaving own_leaving kind op

  pub earlier_alike : (later : Option Op) → memory_distance (Some (own_by kind op)) later ≡ memory_distance (Some op) later
  earlier_alike later = own_alike (λ (op : Op). memory_distance (Some op) later) (own_earlier later) kind op

  pub later_alike : (earlier : Option Op) → memory_distance earlier (Some (own_by kind op)) ≡ memory_distance earlier (Some op)
  later_alike earlier = own_alike (λ (op : Op). memory_distance earlier (Some op)) (own_later earlier) kind op

-- an operation that nothing but itself is emitted as
pub own_itself : (kind : ExtKind) (op : Op) → own_op op ≡ op → own_by kind op ≡ op
own_itself (End term) op h = h
own_itself _ op h = refl

-- ---- which operations test what their own packets write

-- a terminator is none of these
pub own_old : (term : Term) (op : Op) → transfer_of term ≡ Some op → is_new op ≡ false
own_old Fall op q = absurd (cc q)
own_old (Jump to) op q = let z : JumpOp ≡ op = cc q in ap is_new (sym z)
own_old (Branch pred true to) op q = let z : JumpIf ≡ op = cc q in ap is_new (sym z)
own_old (Branch pred false to) op q = let z : JumpIfNot ≡ op = cc q in ap is_new (sym z)
own_old (Ret value) op q = let z : Jumpr ≡ op = cc q in ap is_new (sym z)

-- a branch beside what it reads is emitted as one
branch_new : (op : Op) → is_branch op ≡ true → is_new (new_op op) ≡ true
branch_new JumpIf h = refl
branch_new JumpIfNot h = refl
branch_new _ h = absurd (cc h)

pub not_beside : (beside : Bool) (op : Op) → is_branch op ≡ true → is_new (if beside then new_op op else op) ≡ false → beside ≡ false
not_beside true op branch old = let z : true ≡ false = sym (branch_new op branch) ∙ old in absurd (cc z)
not_beside false op branch old = refl

-- what is emitted of an operation that is none of these is one where it is beside what it reads, and a branch
pub new_emitted : (beside : Bool) (op : Op) → is_new op ≡ false → is_new (if beside then new_op op else op) ≡ true → beside ≡ true
new_emitted true op old new = refl
new_emitted false op old new = let z : true ≡ false = sym new ∙ old in absurd (cc z)
