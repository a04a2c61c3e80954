-- Registers of one kind are both slots or neither.
use Rattle.std.proofs.Common.{ℕ, ◌≡◌, Bool, true, false, refl, sym, ap, ◌∙◌, arith}
use Rattle.std.specs.Prelude.{nat_le, nat_lt, if◌then◌else◌}
use Rattle.std.proofs.lemmas.Bool.Decides.{nat_tests}
use Rattle.un_isa.specs.declared.reg.Space.{Space}
use Rattle.un_isa.specs.declared.reg.Space.TheVariants.{R, P, M}
use Rattle.un_isa.specs.declared.reg.TheConstants.{GENERALS, FIRST_SLOT}
use Rattle.un_isa.specs.Registers.{space_of}

is_slot : Space → Bool
is_slot R = false
is_slot P = false
is_slot M = true

slot_test : (r : ℕ) → nat_le FIRST_SLOT r ≡ is_slot (space_of r)
unfolding is_slot
slot_test r = by (nat_lt r GENERALS) (nat_lt r FIRST_SLOT) refl refl
  where
    by : (k l : Bool) → nat_lt r GENERALS ≡ k → nat_lt r FIRST_SLOT ≡ l
        → nat_le FIRST_SLOT r ≡ is_slot (if k then R else if l then P else M)
    by true l e f = let none : nat_le FIRST_SLOT r ≡ false = grind (arith, nat_tests, e) in none
    by false true e f = let none : nat_le FIRST_SLOT r ≡ false = grind (arith, nat_tests, f) in none
    by false false e f = let some : nat_le FIRST_SLOT r ≡ true = grind (arith, nat_tests, f) in some

pub slot_alike : (a b : ℕ) → space_of a ≡ space_of b → nat_le FIRST_SLOT a ≡ nat_le FIRST_SLOT b
slot_alike a b same = slot_test a ∙ ap is_slot same ∙ sym (slot_test b)
