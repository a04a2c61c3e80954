-- What the instructions of terminators and of copies do, and which places of a packet they need.
use Rattle.std.proofs.Common.{ℕ, ◌≡◌, ◌≤◌, Bool, true, false, refl, sym, ap, ◌∙◌, arith}
use Rattle.std.specs.Prelude.{Option, Some, None, IsSomeAnd, slice_get, unwrap_or, ◌==◌, if◌then◌else◌}
use Rattle.std.proofs.lemmas.Bool.{OnTrue_at}
use Rattle.std.proofs.lemmas.Bool.Decides.{nat_tests}
use Rattle.un_isa.specs.declared.op.Op.{Op}
use Rattle.un_isa.specs.declared.op.Op.TheVariants.{Mov, Spill, Reload, P2R, R2P}
use Rattle.un_isa.specs.declared.table.Needs.{Needs}
use Rattle.un_isa.specs.declared.table.Table.{Table}
use Rattle.un_isa.specs.Does.{is_transfer, is_control, is_copy, writes_memory}
use Rattle.un_isa.specs.Facts.{class_of}
use Rattle.un_isa.specs.Fit.{IsFit, AreFitNeeds}
use Rattle.un_isa.specs.Hexagon.{needs_by as least_needs}
use Rattle.un_isa.specs.Tables.{number_of}
use Rattle.un_isa.proofs.DoesLaws.{transfer_quick, control_place, store_place}
use Rattle.un_ir.specs.declared.function.Term.{Term}
use Rattle.un_ir.specs.declared.function.Term.TheVariants.{Fall, Jump, Branch, Ret}
use Rattle.un_model.specs.Instructions.{transfer_of, copy_of, latency_by, needs_by, no_needs}

-- ---- what they do

-- a test of an instruction, where there is one
abbrev if_some : (Op → Bool) → Option Op → Bool
if_some p None = true
if_some p (Some op) = p op

told : (p : Op → Bool) (made : Option Op) → if_some p made ≡ true → (op : Op) → made ≡ Some op → p op ≡ true
told p None h op q = absurd (cc q)
told p (Some own) h op q = let same : own ≡ op = cc q in ap p (sym same) ∙ h

-- a terminator's instruction leaves its block
pub transfer_leaves : (term : Term) (op : Op) → transfer_of term ≡ Some op → is_transfer op ≡ true
transfer_leaves term op q = told is_transfer (transfer_of term) (by term) op q
  where
    by : (term : Term) → if_some is_transfer (transfer_of term) ≡ true
    by Fall = refl
    by (Jump to) = refl
    by (Branch pred true to) = refl
    by (Branch pred false to) = refl
    by (Ret value) = refl

-- a copy's instruction copies
pub copy_copies : (n : ℕ) (op : Op) → copy_of n ≡ Some op → is_copy op ≡ true
copy_copies n op q = told is_copy (copy_of n) (by (n == 1) (n == 2) (n == 3) (n == 4) (n == 5)) op q
  where
    by : (a b c d e : Bool) → if_some is_copy (if a then Some Mov else (if b then Some Spill else (if c then Some Reload else
        (if d then Some P2R else (if e then Some R2P else None))))) ≡ true
    by true b c d e = refl
    by false true c d e = refl
    by false false true d e = refl
    by false false false true e = refl
    by false false false false true = refl
    by false false false false false = refl

-- which has no result, so that its latency is 1
pub transfer_latency : (t : Table) → IsFit t → (term : Term) → latency_by t (transfer_of term) ≡ 1
transfer_latency t fit term = by (transfer_of term) (transfer_leaves term)
  where
    by : (made : Option Op) → ((op : Op) → made ≡ Some op → is_transfer op ≡ true) → latency_by t made ≡ 1
    by None leaves = refl
    by (Some op) leaves = let l = fit.latencies op in OnTrue_at (transfer_quick op (leaves op refl)) l.2

-- ---- places in a packet

-- a table that fits asks at least what Hexagon asks
pub needs_at_least : (t : Table) → IsFit t → (op : Op) → AreFitNeeds (least_needs (class_of op)) (needs_by t (Some op))
needs_at_least t fit op = by (slice_get t.uses (number_of op)) (fit.needs op)
  where
    by : (u : Option Needs) → IsSomeAnd u (AreFitNeeds (least_needs (class_of op)))
        → AreFitNeeds (least_needs (class_of op)) (unwrap_or u no_needs)
    by None h = absurd h
    by (Some u) h = h

-- the place of control transfers
pub control_need : (t : Table) → IsFit t → (op : Op) → is_control op ≡ true → 1 ≤ (needs_by t (Some op)).control
control_need t fit op h =
    let place : (least_needs (class_of op)).control ≡ 1 = grind (arith, nat_tests, control_place op h) in
    let all = needs_at_least t fit op in
    let control = all.control in
    let least = control.0 in
    omega (arith, place, least)

-- the place of stores
pub store_need : (t : Table) → IsFit t → (op : Op) → writes_memory op ≡ true → 1 ≤ (needs_by t (Some op)).store
store_need t fit op h =
    let place : (least_needs (class_of op)).store ≡ 1 = grind (arith, nat_tests, store_place op h) in
    let all = needs_at_least t fit op in
    let store = all.store in
    let least = store.0 in
    omega (arith, place, least)
