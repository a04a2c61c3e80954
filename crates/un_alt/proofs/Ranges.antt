-- Tests of the numbers of a range.
use Rattle.std.proofs.Common.{ℕ, zero, suc, ◌≡◌, ◌<◌, ◌≤◌, ◌+◌, ◌-◌, ◌∙◌, Bool, true, false, ◌&&◌, ◌||◌, nat_eq, nat_le}
use Rattle.std.proofs.Common.{nat_lt, refl, sym, ap}
use Rattle.std.proofs.Common.{arith}
use Rattle.std.specs.List.{list_any, range_with_len}
use Rattle.std.proofs.lemmas.Bool.Decides.{nat_tests}
use Rattle.un_domains.specs.Sets.{has}
use Rattle.un_domains.specs.OrderLaws.{same_test}

-- the rest of a range, from r on
pub range_rest : (p : ℕ → Bool) (r end : ℕ) → r < end
    → list_any p (range_with_len r (end - r)) ≡ (p r || list_any p (range_with_len (r + 1) (end - (r + 1))))
range_rest p r end lt = let more : end - r ≡ suc (end - (r + 1)) = omega (arith, lt) in
    ap (λ (n : ℕ). list_any p (range_with_len r n)) more

pub range_over : (p : ℕ → Bool) (r end : ℕ) → end ≤ r → list_any p (range_with_len r (end - r)) ≡ false
range_over p r end le = let none : end - r ≡ 0 = omega (arith, le) in ap (λ (n : ℕ). list_any p (range_with_len r n)) none

-- a number of a range
pub has_range : (first count n : ℕ) → has (range_with_len first count) n ≡ (nat_le first n && nat_lt (n - first) count)
has_range first zero n = none (nat_le first n) (nat_lt (n - first) 0) (grind (arith, nat_tests))
  where
    none : (b c : Bool) → c ≡ false → false ≡ (b && c)
    none true c e = sym e
    none false c e = refl
has_range first (suc count) n = ap (λ (b : Bool). nat_eq n first || b) (has_range (first + 1) count n)
    ∙ same_test (nat_eq n first || (nat_le (first + 1) n && nat_lt (n - (first + 1)) count)) (nat_le first n && nat_lt (n - first) (suc
    count))
    forth back
  where
    forth : (nat_eq n first || (nat_le (first + 1) n && nat_lt (n - (first + 1)) count)) ≡ true
        → (nat_le first n && nat_lt (n - first) (suc count)) ≡ true
    forth h = grind (arith, nat_tests, h)

    back : (nat_le first n && nat_lt (n - first) (suc count)) ≡ true
        → (nat_eq n first || (nat_le (first + 1) n && nat_lt (n - (first + 1)) count)) ≡ true
    back h = grind (arith, nat_tests, h)
