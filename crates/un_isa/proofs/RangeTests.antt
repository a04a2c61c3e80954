-- The test of a range says whether a number is in it.
use Rattle.std.proofs.Common.{◌≡◌, ℕ, ℤ, pos, negsuc, ◌≤◌, ◌≤ℤ◌, ◌&&◌, Bool, true, leb, int_le, int_eq, ◌↔◌, IsTrue, Decides}
use Rattle.std.proofs.Common.{refl, sym, true≢false, arith}
use Rattle.std.proofs.lemmas.Bool.Decides.{Decides-and, Decides-int_eq, Decides-like, same_from_decides, leb_tells}
use Rattle.std.proofs.lemmas.Int.{ints}
use Rattle.std.specs.Int.{int_rem_euclid}
use Rattle.un_isa.specs.declared.facts.Range.{Range}
use Rattle.un_isa.specs.declared.facts.Range.TheVariants.{Signed16, Signed10, Unsigned5, Offset, FrameOffset}
use Rattle.un_isa.specs.Operands.{least, greatest, InRange, in_range}

nat_le : (a b : ℕ) → Decides (leb a b) (a ≤ b)
nat_le a b = (λ e. grind (arith, leb_tells a b), λ h. grind (arith, leb_tells a b))

le_decides : (a b : ℤ) → Decides (int_le a b) (a ≤ℤ b)
le_decides (pos a) (pos b) = Decides-like (leb a b) (λ h. omega (arith, ints, h)) (λ h. omega (arith, ints, h)) (nat_le a b)
le_decides (pos a) (negsuc b) = (λ e. absurd (true≢false (sym e)), λ h. absurd (omega (arith, ints, h)))
le_decides (negsuc a) (pos b) = (λ e. omega (arith, ints), λ h. refl)
le_decides (negsuc a) (negsuc b) = Decides-like (leb b a) (λ h. omega (arith, ints, h)) (λ h. omega (arith, ints, h)) (nat_le b a)

both : (a b n : ℤ) → Decides (int_le a n && int_le n b) ((a ≤ℤ n) × (n ≤ℤ b))
both a b n = Decides-and _ _ (le_decides a n) (le_decides n b)

-- ranges of every number, and of multiples of 4
between : (a b n : ℤ) → Decides (int_le a n && int_le n b && true) ((a ≤ℤ n) × (n ≤ℤ b))
between a b n = Decides-like _ (λ h. h.0) (λ h. (h, refl)) (Decides-and _ _ (both a b n) (λ e. e, λ e. e))

words : (a b n : ℤ) → Decides (int_le a n && int_le n b && int_eq (int_rem_euclid n (pos 4)) (pos 0))
    ((a ≤ℤ n) × (n ≤ℤ b) × (int_rem_euclid n (pos 4) ≡ pos 0))
words a b n = Decides-like _ (λ h. (h.0.0, h.0.1, h.1)) (λ h. ((h.0, h.1), h.2))
    (Decides-and _ _ (both a b n) (Decides-int_eq (int_rem_euclid n (pos 4)) (pos 0)))

pub decides : (range : Range) (n : ℤ) → Decides (in_range range n) (InRange range n)
decides Signed16 n = between (least Signed16) (greatest Signed16) n
decides Signed10 n = between (least Signed10) (greatest Signed10) n
decides Unsigned5 n = between (least Unsigned5) (greatest Unsigned5) n
decides Offset n = words (least Offset) (greatest Offset) n
decides FrameOffset n = words (least FrameOffset) (greatest FrameOffset) n

-- a test that says so is that one
pub is_test : (range : Range) (n : ℤ) (r : Bool) → (IsTrue r ↔ InRange range n) → r ≡ in_range range n
is_test range n r h = same_from_decides r (in_range range n) h (decides range n)
