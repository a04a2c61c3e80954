-- What the order of Enter, Leave and what uses the frame asks of an operation, by its kind and its number.
use Rattle.std.proofs.Common.{ℕ, zero, suc, ◌≡◌, ◌≤◌, Bool, true, false, refl, ap, arith}
use Rattle.std.specs.Prelude.{Option, Some, None, ◌&&◌, nat_le, nat_eq, if◌then◌else◌}
use Rattle.un_isa.specs.Facts.{is_source}
use Rattle.un_isa.specs.declared.op.Op.{Op}
use Rattle.un_isa.specs.declared.op.Op.TheVariants.{Imm, Call, Spill, Reload, Enter as EnterOp, Leave as LeaveOp}
use Rattle.un_isa.specs.Does.{is_call}
use Rattle.un_ir.specs.declared.function.SrcOp.{SrcOp}
use Rattle.un_ir.specs.declared.function.Term.TheVariants.{Fall, Jump, Branch, Ret}
use Rattle.un_ir.specs.declared.extended.ExtKind.{ExtKind}
use Rattle.un_ir.specs.declared.extended.ExtKind.TheVariants.{In, Out, Body, End, Copy, Enter, Leave}
use Rattle.un_ir.specs.Extended.{is_copy, is_enter, is_leave}
use Rattle.un_model.specs.Instructions.{instruction_of, copy_of}
use Rattle.un_model.specs.Solutions.{is_frame_access, after_enter, before_leave, frame_distance}
use Rattle.un_ir.specs.Kinds.{is_call_kind}

pub data Tag : Type 0 where
  Enters : Tag
  Touches : Tag
  Calls : Tag
  Leaves : Tag
  Quiet : Tag

abbrev pub tag : Option Op → Tag
tag (Some EnterOp) = Enters
tag (Some Spill) = Touches
tag (Some Reload) = Touches
tag (Some Call) = Calls
tag (Some LeaveOp) = Leaves
tag _ = Quiet

-- ---- distances

abbrev pub after_tag : Tag → Option ℕ
after_tag Touches = Some 1
after_tag Calls = Some 1
after_tag Leaves = Some 1
after_tag _ = None

abbrev pub until_tag : ℕ → Tag → Option ℕ
until_tag n Leaves = Some n
until_tag n _ = None

abbrev pub gap_of : Tag → Tag → Option ℕ
gap_of Enters t = after_tag t
gap_of Touches t = until_tag 0 t
gap_of Calls t = until_tag 1 t
gap_of _ t = None

after_tagged : (j : Option Op) → after_enter j ≡ after_tag (tag j)
after_tagged None = refl
after_tagged (Some Imm) = refl
after_tagged (Some op) = refl

before_tagged : (n : ℕ) (j : Option Op) → before_leave n j ≡ until_tag n (tag j)
before_tagged n None = refl
before_tagged n (Some Imm) = refl
before_tagged n (Some op) = refl

pub tagged : (i j : Option Op) → frame_distance i j ≡ gap_of (tag i) (tag j)
tagged (Some EnterOp) j = after_tagged j
tagged (Some Spill) j = before_tagged 0 j
tagged (Some Reload) j = before_tagged 0 j
tagged (Some Call) j = before_tagged 1 j
tagged None j = refl
tagged (Some op) j = refl

-- ---- kinds

-- only operations of this kind have the tag
abbrev pub Fits : Tag → ExtKind → Type 0
Fits Enters kind = is_enter kind ≡ true
Fits Touches kind = is_copy kind ≡ true
Fits Calls kind = is_call_kind kind ≡ true
Fits Leaves kind = is_leave kind ≡ true
Fits Quiet kind = Unit {0}

fits_body : (so : SrcOp) (op : Op) → so.op ≡ op → is_source op ≡ true → Fits (tag (Some op)) (Body so)
fits_body so EnterOp h s = absurd (cc s)
fits_body so Spill h s = absurd (cc s)
fits_body so Reload h s = absurd (cc s)
fits_body so LeaveOp h s = absurd (cc s)
fits_body so Call h s = ap is_call h
fits_body so op h s = tt

fits_frame : (op : Op) (kind : ExtKind) (b : Bool) → Fits (tag (Some op)) kind → Fits (tag (if b then None else Some op)) kind
fits_frame op kind true h = tt
fits_frame op kind false h = h

-- an operation of the source has its operation there; a copy's number is at most 5
abbrev pub Sound : ExtKind → ℕ → Type 0
Sound (Body so) n = is_source so.op ≡ true
Sound (Copy node) n = n ≤ 5
Sound _ n = Unit {0}

pub fits : (kind : ExtKind) (n : ℕ) → Sound kind n → Fits (tag (instruction_of kind n)) kind
fits In n s = tt
fits Out n s = tt
fits (Body so) n s = fits_body so so.op refl s
fits (End Fall) n s = tt
fits (End (Jump to)) n s = tt
fits (End (Branch pred true to)) n s = tt
fits (End (Branch pred false to)) n s = tt
fits (End (Ret value)) n s = tt
fits (Copy node) zero s = tt
fits (Copy node) (suc zero) s = tt
fits (Copy node) (suc (suc zero)) s = refl
fits (Copy node) (suc (suc (suc zero))) s = refl
fits (Copy node) (suc (suc (suc (suc zero)))) s = tt
fits (Copy node) (suc (suc (suc (suc (suc zero))))) s = tt
fits (Copy node) (suc (suc (suc (suc (suc (suc n)))))) s = absurd (omega arith)
fits Enter n s = fits_frame EnterOp Enter (nat_eq n 0) refl
fits Leave n s = fits_frame LeaveOp Leave (nat_eq n 0) refl

-- ---- copies that use the frame

abbrev pub is_touch : Tag → Bool
is_touch Touches = true
is_touch _ = false

pub touch_is : (t : Tag) → is_touch t ≡ true → t ≡ Touches
touch_is Touches h = refl
touch_is Enters h = absurd (cc h)
touch_is Calls h = absurd (cc h)
touch_is Leaves h = absurd (cc h)
touch_is Quiet h = absurd (cc h)

pub counted : (n : ℕ) → n ≤ 5 → (nat_le 2 n && nat_le n 3) ≡ is_touch (tag (copy_of n))
counted zero le = refl
counted (suc zero) le = refl
counted (suc (suc zero)) le = refl
counted (suc (suc (suc zero))) le = refl
counted (suc (suc (suc (suc zero)))) le = refl
counted (suc (suc (suc (suc (suc zero))))) le = refl
counted (suc (suc (suc (suc (suc (suc n)))))) le = absurd (omega arith)

pub accessed : (i : Option Op) → is_frame_access i ≡ is_touch (tag i)
accessed None = refl
accessed (Some Imm) = refl
accessed (Some op) = refl
