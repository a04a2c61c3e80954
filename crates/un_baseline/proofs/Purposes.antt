-- What copies are for, read off a list from some place on.
use Rattle.std.proofs.Common.{◌≡◌, ℕ, ◌+◌, ◌≤◌, true, false, List, Some, length, drop, refl, sym, ap, ◌∙◌}
use Rattle.std.specs.Prelude.{slice_get}
use Rattle.un_ir.specs.Extended.{is_copy}
use Rattle.un_ir.specs.declared.function.Term.{Term}
use Rattle.un_ir.specs.declared.extended.ExtKind.{ExtKind}
use Rattle.un_ir.specs.declared.extended.ExtKind.TheVariants.{In, Out, Body, End, Copy, Enter, Leave}
use Rattle.un_ir.specs.declared.extended.ExtOp.{ExtOp}
use Rattle.un_model.proofs.Steps.{drop_at, drop_past}
use Rattle.un_baseline.specs.declared.plan.Purpose.{Purpose}
use Rattle.un_baseline.specs.declared.plan.Purpose.TheVariants.{Unread}
use Rattle.un_baseline.specs.SpillEverywhere.{purpose_of, purpose_at}

-- a copy is for what follows
copy_is_for : (term : Term) (kind : ExtKind) (p : Purpose) → is_copy kind ≡ true → purpose_of term kind p ≡ p
copy_is_for term (Copy node) p h = refl
copy_is_for term In p h = cc
copy_is_for term Out p h = cc
copy_is_for term (Body o) p h = cc
copy_is_for term (End last) p h = cc
copy_is_for term Enter p h = cc
copy_is_for term Leave p h = cc

-- what no copy is stands for itself
other_is_for : (term : Term) (kind : ExtKind) (p q : Purpose) → is_copy kind ≡ false → purpose_of term kind p ≡ purpose_of term kind q
other_is_for term (Copy node) p q h = cc
other_is_for term In p q h = refl
other_is_for term Out p q h = refl
other_is_for term (Body o) p q h = refl
other_is_for term (End last) p q h = refl
other_is_for term Enter p q h = refl
other_is_for term Leave p q h = refl

-- behind a copy the purpose is the same
pub purpose_behind : (term : Term) (ops : List ExtOp) (i : ℕ) (op : ExtOp) → slice_get ops i ≡ Some op → is_copy op.kind ≡ true
    → purpose_at term (drop (i + 1) ops) ≡ purpose_at term (drop i ops)
purpose_behind term ops i op e h =
    sym (ap (purpose_at term) (drop_at ops i op e) ∙ copy_is_for term op.kind (purpose_at term (drop (i + 1) ops)) h)

pub purpose_here : (term : Term) (ops : List ExtOp) (i : ℕ) (op : ExtOp) (p : Purpose) → slice_get ops i ≡ Some op
    → is_copy op.kind ≡ false → p ≡ purpose_of term op.kind Unread
    → p ≡ purpose_at term (drop i ops)
purpose_here term ops i op p e h q =
    q ∙ other_is_for term op.kind Unread (purpose_at term (drop (i + 1) ops)) h ∙ sym (ap (purpose_at term) (drop_at ops i op e))

pub purpose_past : (term : Term) (ops : List ExtOp) (i : ℕ) → length ops ≤ i → Unread ≡ purpose_at term (drop i ops)
purpose_past term ops i le = sym (ap (purpose_at term) (drop_past i ops le))
