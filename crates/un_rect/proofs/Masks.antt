-- Registers of a mask, which are below 64.
use Rattle.std.proofs.Common.{ℕ, ◌≡◌, ◌+◌, ◌^◌, ◌<◌, ◌≤◌, ◌⊎◌, true, false, ◌&&◌, List, min, nat_eq, nat_lt, sym, ap, ◌∙◌, arith}
use Rattle.std.proofs.Common.{inl, inr}
use Rattle.std.specs.List.{list_any}
use Rattle.std.proofs.lemmas.Bool.Decides.{nat_tests}
use Rattle.std.proofs.lemmas.Nat.Bits.{bit_at_above}
use Rattle.un_domains.specs.Sets.{has, greatest}
use Rattle.un_domains.specs.OrderLaws.{same_test, and_true, both_true}
use Rattle.un_domains.specs.SetLaws.{has-fold_max}
use Rattle.un_isa.specs.Tables.{in_mask}
use Rattle.un_prop.specs.Somewhere.{any_before}
use Rattle.un_prop.specs.SomewhereLaws.{any_more}

is_low : (y : ℕ) → (y < 64) ⊎ (64 ≤ y)
is_low y = grind arith

low : (mask y : ℕ) → mask < 2 ^ 64 → in_mask mask y ≡ true → y < 64
low mask y fits k = elim (is_low y) [
  | inl lt ↦ lt
  | inr le ↦ absurd (let none : in_mask mask y ≡ false = ap (λ (n : ℕ). nat_eq n 1) (bit_at_above mask 64 y fits le) in cc (sym none ∙ k))
]

-- a look at those below 64, up to the greatest, sees all of a mask
pub mask_whole : (mask : ℕ) (xs : List ℕ) (r : ℕ) → mask < 2 ^ 64 → min (greatest xs + 1) 64 ≤ r
    → any_before (in_mask mask) xs r ≡ list_any (in_mask mask) xs
mask_whole mask xs r fits end = same_test (any_before (in_mask mask) xs r) (list_any (in_mask mask) xs)
    (any_more (λ z. nat_lt z r && in_mask mask z) (in_mask mask) xs xs (λ y h k. (h, (and_true (nat_lt y r) (in_mask mask y) k).1)))
    (any_more (in_mask mask) (λ z. nat_lt z r && in_mask mask z) xs xs
    (λ y h k. (h, both_true (nat_lt y r) (in_mask mask y) (before y h k) k)))
  where
    before : (y : ℕ) → has xs y ≡ true → in_mask mask y ≡ true → nat_lt y r ≡ true
    before y h k =
        let small = low mask y fits k in
        let top : y ≤ greatest xs = has-fold_max 0 xs y h in
        let lt : y < r = omega (arith, small, top, end) in
        grind (arith, nat_tests, lt)
