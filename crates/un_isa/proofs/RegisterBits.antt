-- The bits of a set with one more register, and of two sets together.
use Rattle.std.proofs.Common.{ℕ, ◌≡◌, ◌≢◌, ◌*◌, ◌^◌, ◌%◌, ◌<◌, Bool, true, false, nat_eq, max, ⊎_elim, bit_or, w64, refl, ap, subst, sym}
use Rattle.std.proofs.Common.{◌∙◌, arith}
use Rattle.std.specs.Prelude.{◌||◌}
use Rattle.std.specs.Int.{bit_at}
use Rattle.std.proofs.lemmas.Bool.{cases_eq}
use Rattle.std.proofs.lemmas.Bool.Decides.{nat_tests}
use Rattle.std.proofs.lemmas.Nat.Bits.{bit_at_set_same, bit_at_set_other, bit_at_or, bit_at-lt}
use Rattle.un_isa.specs.RegSets.{has}

or_true : (a : Bool) → true ≡ (a || true)
or_true true = refl
or_true false = refl

or_false : (a : Bool) → a ≡ (a || false)
or_false true = refl
or_false false = refl

set_same : (v k r : ℕ) → k < 64 → k ≡ r → bit_at (bit_or v (1 * 2 ^ k % 2 ^ 64)) r ≡ 1
set_same v k r lt e = subst (λ (n : ℕ). bit_at (bit_or v (1 * 2 ^ k % 2 ^ 64)) n ≡ 1) e (bit_at_set_same w64 v k (omega arith))

pub inserted : (v k q : ℕ) → k < 64 → has (bit_or v (1 * 2 ^ k % 2 ^ 64)) q ≡ (has v q || nat_eq k q)
inserted v k q lt = ⊎_elim (λ (e : k ≡ q). same e) (λ (ne : k ≢ q). other ne) (cases_eq k q)
  where
    same : k ≡ q → has (bit_or v (1 * 2 ^ k % 2 ^ 64)) q ≡ (has v q || nat_eq k q)
    same e =
        let t : nat_eq k q ≡ true = grind (arith, nat_tests) in
        ap (λ (n : ℕ). nat_eq n 1) (set_same v k q lt e) ∙ or_true (has v q) ∙ ap (λ (b : Bool). has v q || b) (sym t)

    other : k ≢ q → has (bit_or v (1 * 2 ^ k % 2 ^ 64)) q ≡ (has v q || nat_eq k q)
    other ne =
        let t : nat_eq k q ≡ false = grind (arith, nat_tests) in
        ap (λ (n : ℕ). nat_eq n 1) (bit_at_set_other w64 v k (omega arith) q (λ e. ne (sym e))) ∙ or_false (has v q)
        ∙ ap (λ (b : Bool). has v q || b) (sym t)

either : (a b : ℕ) → a < 2 → b < 2 → nat_eq (max a b) 1 ≡ (nat_eq a 1 || nat_eq b 1)
either a b la lb = grind (arith, nat_tests)

pub joined : (v w q : ℕ) → has (bit_or v w) q ≡ (has v q || has w q)
joined v w q = ap (λ (n : ℕ). nat_eq n 1) (bit_at_or v w q) ∙ either (bit_at v q) (bit_at w q) (bit_at-lt v q) (bit_at-lt w q)
