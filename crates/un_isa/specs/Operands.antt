-- Which operands and literals the operations take.
use Rattle.std.specs.Prelude.{ℕ, ℤ, pos, negsuc, ◌≡◌, ◌<◌, ◌≤ℤ◌, int_le, Bool, true, false, not, ◌&&◌, ◌||◌, is_some, List, [], ◌∷◌}
use Rattle.std.specs.Prelude.{length, Option, Some}
use Rattle.std.specs.Prelude.{None}
use Rattle.std.specs.Int.{int_rem_euclid}
use Rattle.std.specs.Ordering.{int_eq}
use Rattle.un_isa.specs.declared.op.Op.{Op}
use Rattle.un_isa.specs.declared.reg.Space.{Space}
use Rattle.un_isa.specs.declared.reg.Space.TheVariants.{R, P, M}
use Rattle.un_isa.specs.declared.facts.Class.{Class}
use Rattle.un_isa.specs.declared.facts.Class.TheVariants.{Alu32, Xtype, Loading, Storing, Control, Nothing}
use Rattle.un_isa.specs.declared.facts.Range.{Range}
use Rattle.un_isa.specs.declared.facts.Range.TheVariants.{Signed16, Signed10, Unsigned5, Offset, FrameOffset}
use Rattle.un_isa.specs.Facts.{class_of, operand_spaces, operand_count, result_space, literal_range}

-- the ranges of literals, each from its least number to its greatest: signed ones of 16 and 10 bits, unsigned ones of 5 bits, and
-- offsets of memory and of frame words, which are multiples of 4
abbrev pub least : Range → ℤ
least Signed16 = negsuc 32767
least Signed10 = negsuc 511
least Unsigned5 = pos 0
least Offset = negsuc 4095
least FrameOffset = pos 0

abbrev pub greatest : Range → ℤ
greatest Signed16 = pos 32767
greatest Signed10 = pos 511
greatest Unsigned5 = pos 31
greatest Offset = pos 4092
greatest FrameOffset = pos 4092

abbrev pub are_words : Range → Bool
are_words Signed16 = false
are_words Signed10 = false
are_words Unsigned5 = false
are_words Offset = true
are_words FrameOffset = true

abbrev InSteps : Range → ℤ → Bool → Type 0
InSteps range n false = (least range ≤ℤ n) × (n ≤ℤ greatest range)
InSteps range n true = (least range ≤ℤ n) × (n ≤ℤ greatest range) × (int_rem_euclid n (pos 4) ≡ pos 0)

abbrev pub InRange : Range → ℤ → Type 0
InRange range n = InSteps range n (are_words range)

-- the same as a test
abbrev pub in_range : Range → ℤ → Bool
in_range range n =
    int_le (least range) n && int_le n (greatest range) && (not (are_words range) || int_eq (int_rem_euclid n (pos 4)) (pos 0))

abbrev pub IsSigned16 : ℤ → Type 0
IsSigned16 n = InRange Signed16 n

abbrev pub IsUnsigned5 : ℤ → Type 0
IsUnsigned5 n = InRange Unsigned5 n

abbrev pub IsInRangeOf : Option Range → ℤ → Type 0
IsInRangeOf None n = Unit {0}
IsInRangeOf (Some range) n = InRange range n

-- a literal in the range of its operation; an operation that has none takes every number
abbrev pub IsLiteral : Op → ℤ → Type 0
IsLiteral op n = IsInRangeOf (literal_range op) n

abbrev pub IsLiteralOf : Option Range → ℤ → Type 0
IsLiteralOf None n = n ≡ pos 0
IsLiteralOf (Some range) n = InRange range n

-- a literal in the range of its operation; an operation that has none has 0
abbrev pub HasLiteral : Op → ℤ → Type 0
HasLiteral op n = IsLiteralOf (literal_range op) n

abbrev pub IsShiftOf : Option Range → ℤ → Type 0
IsShiftOf (Some Unsigned5) n = IsUnsigned5 n
IsShiftOf _ n = Unit {0}

-- a shift by 0 to 31; no other operation shifts
abbrev pub IsShift : Op → ℤ → Type 0
IsShift op n = IsShiftOf (literal_range op) n

-- the classes whose instructions compute
abbrev pub computes : Class → Bool
computes Alu32 = true
computes Xtype = true
computes Loading = false
computes Storing = false
computes Control = false
computes Nothing = false

-- the operations that compute a result from their operands: those of the classes ALU32 and XTYPE, but for those that move the
-- stack pointer, which have no result of their own
abbrev pub is_alu : Op → Bool
is_alu op = computes (class_of op) && is_some (result_space op)

-- a value that may stand in a space: a predicate is 0 or 1
abbrev pub IsValueIn : Space → ℕ → Type 0
IsValueIn R x = Unit {0}
IsValueIn P x = x < 2
IsValueIn M x = Unit {0}

abbrev pub AreValuesIn : List Space → List ℕ → Type 0
AreValuesIn [] xs = Unit {0}
AreValuesIn (s ∷ ss) [] = Unit {0}
AreValuesIn (s ∷ ss) (x ∷ xs) = IsValueIn s x × AreValuesIn ss xs

-- the operand that is a predicate is 0 or 1
abbrev pub HasTruth : Op → List ℕ → Type 0
HasTruth op xs = AreValuesIn (operand_spaces op) xs

-- an operation that computes a value of these operands and this literal
pub record CanEval (op : Op) (xs : List ℕ) (n : ℤ) : Type 0 where
  pub alu : is_alu op ≡ true
  pub operands : length xs ≡ operand_count op
  pub literal : IsLiteral op n
  pub truth : HasTruth op xs
