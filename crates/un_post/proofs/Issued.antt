-- Which operations every solution issues, and what they are as instructions; and the copies and the operations of the frame, which a
-- solution may leave out.
use Rattle.std.proofs.Common.{ℕ, ◌≡◌, ◌≤◌, ◌+◌, Bool, true, false, refl, subst, arith}
use Rattle.std.specs.Prelude.{Option, Some, IfSome, ◌&&◌, ◌||◌, ◌==◌, is_some}
use Rattle.un_isa.specs.declared.op.Op.{Op}
use Rattle.un_isa.specs.declared.op.Op.TheVariants.{Call, Spill, Reload, Enter as EnterOp, Leave as LeaveOp}
use Rattle.un_isa.specs.declared.packet_counts.Resource.{Resource}
use Rattle.un_isa.specs.declared.table.Table.{Table}
use Rattle.un_ir.specs.declared.function.Term.TheVariants.{Fall, Jump, Branch, Ret}
use Rattle.un_ir.specs.declared.extended.ExtKind.{ExtKind}
use Rattle.un_ir.specs.declared.extended.ExtKind.TheVariants.{In, Out, Body, End, Copy, Enter, Leave}
use Rattle.un_ir.specs.Extended.{is_copy, is_enter, is_leave}
use Rattle.un_ir.specs.Kinds.{is_delimiter, is_frame_op, is_mandatory, is_source}
use Rattle.un_model.specs.Instructions.{instruction_of}
use Rattle.un_model.specs.Solutions.{frame_distance, share_of}
use Rattle.un_post.proofs.AccessRooms.{frame_on}

-- ---- operations

-- every solution issues an instruction of it
abbrev pub is_issued : ExtKind → Bool
is_issued (Body so) = true
is_issued (End Fall) = false
is_issued (End term) = true
is_issued _ = false

pub own_as : (t : Table) (r : Resource) (kind : ExtKind) (n : ℕ) → is_issued kind ≡ true
    → share_of t r (instruction_of kind 0) ≡ share_of t r (instruction_of kind n)
own_as t r (Body so) n h = refl
own_as t r (End Fall) n h = absurd (cc h)
own_as t r (End (Jump to)) n h = refl
own_as t r (End (Branch pred true to)) n h = refl
own_as t r (End (Branch pred false to)) n h = refl
own_as t r (End (Ret value)) n h = refl
own_as t r In n h = absurd (cc h)
own_as t r Out n h = absurd (cc h)
own_as t r (Copy node) n h = absurd (cc h)
own_as t r Enter n h = absurd (cc h)
own_as t r Leave n h = absurd (cc h)

pub own_none : (t : Table) (r : Resource) (kind : ExtKind) → is_issued kind ≡ false → share_of t r (instruction_of kind 0) ≡ 0
own_none t r (Body so) h = absurd (cc h)
own_none t r (End Fall) h = refl
own_none t r (End (Jump to)) h = absurd (cc h)
own_none t r (End (Branch pred sense to)) h = absurd (cc h)
own_none t r (End (Ret value)) h = absurd (cc h)
own_none t r In h = refl
own_none t r Out h = refl
own_none t r (Copy node) h = refl
own_none t r Enter h = refl
own_none t r Leave h = refl

pub issued_some : (kind : ExtKind) (n : ℕ) → is_issued kind ≡ true → (op : Op) × (instruction_of kind n ≡ Some op)
issued_some (Body so) n h = (so.op, refl)
issued_some (End Fall) n h = absurd (cc h)
issued_some (End (Jump to)) n h = (_, refl)
issued_some (End (Branch pred true to)) n h = (_, refl)
issued_some (End (Branch pred false to)) n h = (_, refl)
issued_some (End (Ret value)) n h = (_, refl)
issued_some In n h = absurd (cc h)
issued_some Out n h = absurd (cc h)
issued_some (Copy node) n h = absurd (cc h)
issued_some Enter n h = absurd (cc h)
issued_some Leave n h = absurd (cc h)

pub issued_mandatory : (kind : ExtKind) → is_issued kind ≡ true → is_mandatory kind ≡ true
issued_mandatory (Body so) h = refl
issued_mandatory (End term) h = refl
issued_mandatory In h = absurd (cc h)
issued_mandatory Out h = absurd (cc h)
issued_mandatory (Copy node) h = absurd (cc h)
issued_mandatory Enter h = absurd (cc h)
issued_mandatory Leave h = absurd (cc h)

pub source_issued : (kind : ExtKind) → is_source kind ≡ true → is_issued kind ≡ true
source_issued (Body so) h = refl
source_issued In h = absurd (cc h)
source_issued Out h = absurd (cc h)
source_issued (End term) h = absurd (cc h)
source_issued (Copy node) h = absurd (cc h)
source_issued Enter h = absurd (cc h)
source_issued Leave h = absurd (cc h)

pub copy_optional : (kind : ExtKind) → is_copy kind ≡ true → is_mandatory kind ≡ false
copy_optional (Copy node) h = refl
copy_optional In h = absurd (cc h)
copy_optional Out h = absurd (cc h)
copy_optional (Body so) h = absurd (cc h)
copy_optional (End term) h = absurd (cc h)
copy_optional Enter h = absurd (cc h)
copy_optional Leave h = absurd (cc h)

pub enter_optional : (kind : ExtKind) → is_enter kind ≡ true → is_mandatory kind ≡ false
enter_optional Enter h = refl
enter_optional In h = absurd (cc h)
enter_optional Out h = absurd (cc h)
enter_optional (Body so) h = absurd (cc h)
enter_optional (End term) h = absurd (cc h)
enter_optional (Copy node) h = absurd (cc h)
enter_optional Leave h = absurd (cc h)

pub leave_optional : (kind : ExtKind) → is_leave kind ≡ true → is_mandatory kind ≡ false
leave_optional Leave h = refl
leave_optional In h = absurd (cc h)
leave_optional Out h = absurd (cc h)
leave_optional (Body so) h = absurd (cc h)
leave_optional (End term) h = absurd (cc h)
leave_optional (Copy node) h = absurd (cc h)
leave_optional Enter h = absurd (cc h)

pub leave_frames : (kind : ExtKind) → is_leave kind ≡ true → is_frame_op kind ≡ true
leave_frames Leave h = refl
leave_frames In h = absurd (cc h)
leave_frames Out h = absurd (cc h)
leave_frames (Body so) h = absurd (cc h)
leave_frames (End term) h = absurd (cc h)
leave_frames (Copy node) h = absurd (cc h)
leave_frames Enter h = absurd (cc h)

pub leave_instr : (kind : ExtKind) (n : ℕ) → is_leave kind ≡ true → (is_delimiter kind || is_some (instruction_of kind n)) ≡ true
    → instruction_of kind n ≡ Some LeaveOp
leave_instr Leave n h a = frame_on LeaveOp (n == 0) a
leave_instr In n h a = absurd (cc h)
leave_instr Out n h a = absurd (cc h)
leave_instr (Body so) n h a = absurd (cc h)
leave_instr (End term) n h a = absurd (cc h)
leave_instr (Copy node) n h a = absurd (cc h)
leave_instr Enter n h a = absurd (cc h)

-- tags keep what is named one by one apart
abbrev pub tag : Option Op → ℕ
tag (Some Call) = 1
tag (Some EnterOp) = 2
tag (Some Spill) = 3
tag (Some Reload) = 4
tag (Some LeaveOp) = 5
tag _ = 0

-- what comes no earlier than a Reload
pub leave_after : (a b : Option Op) (c d : ℕ) → a ≡ Some Reload → b ≡ Some LeaveOp
    → IfSome (frame_distance a b) (λ (n : ℕ). c + n ≤ d) → c ≤ d
leave_after a b c d f g h =
    let le : c + 0 ≤ d = subst (λ (z : Option Op). IfSome (frame_distance (Some Reload) z) (λ (n : ℕ). c + n ≤ d)) g
    (subst (λ (z : Option Op). IfSome (frame_distance z b) (λ (n : ℕ). c + n ≤ d)) f h) in
    omega (arith, le)

pub and_no : (a b : Bool) → b ≡ false → (a && b) ≡ false
and_no true b h = h
and_no false b h = refl

pub first_no : (a b : Bool) → a ≡ false → (a && b) ≡ false
first_no true b h = absurd (cc h)
first_no false b h = refl
