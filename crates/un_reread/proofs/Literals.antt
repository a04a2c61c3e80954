-- Literals as they are written have their values back.
use Rattle.std.proofs.Common.{◌≡◌, suc, ℤ, pos, negsuc, ◌+◌, ◌-◌, ◌^◌, ◌<◌, min, Option, Some, None, unsigned_abs, refl, arith}
use Rattle.std.proofs.lemmas.Int.{ints}
use Rattle.un_isa.specs.declared.op.Op.{Op}
use Rattle.un_isa.specs.declared.facts.Range.{Range}
use Rattle.un_isa.specs.declared.facts.Range.TheVariants.{Signed16, Signed10, Unsigned5}
use Rattle.un_isa.specs.Facts.{literal_range}
use Rattle.un_isa.specs.Operands.{IsLiteralOf, IsSigned16, HasLiteral}
use Rattle.un_faults.specs.Literals.{literal_value}
use Rattle.un_reread.specs.Printed.{as_number}

small : (literal : Option Range) (z : ℤ) → IsLiteralOf literal z → IsSigned16 z
small None z h = (omega (arith, ints), omega (arith, ints))
small (Some Signed16) z h = h
small (Some Signed10) z h = (omega (arith, ints), omega (arith, ints))
small (Some Unsigned5) z h = (omega (arith, ints), omega (arith, ints))
small (Some _) z (low, high, words) = (omega (arith, ints), omega (arith, ints))

abs_of : (z : ℤ) → IsSigned16 z → unsigned_abs z < 2 ^ 32
abs_of (pos n) h = let low : n < 32768 = omega (arith, ints) in omega arith
abs_of (negsuc n) h = let low : n < 32768 = omega (arith, ints) in omega arith

pub small_abs : (literal : Option Range) (z : ℤ) → IsLiteralOf literal z → unsigned_abs z < 2 ^ 32
small_abs literal z h = abs_of z (small literal z h)

value_of : (z : ℤ) → IsSigned16 z → literal_value (as_number z) ≡ z
value_of (pos n) h = let low : n < 32768 = omega (arith, ints) in let e : min n (2 ^ 31 - 1) ≡ n = omega arith in rw e refl
value_of (negsuc n) h = let low : n < 32768 = omega (arith, ints) in let e : min (n + 1) (2 ^ 31 - 1) ≡ suc n = omega arith in rw e refl

pub value_back : (op : Op) (z : ℤ) → HasLiteral op z → literal_value (as_number z) ≡ z
value_back op z h = value_of z (small (literal_range op) z h)
