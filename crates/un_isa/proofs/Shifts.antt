-- A literal in its range shifts by 0 to 31.
use Rattle.std.proofs.Common.{ℤ, Option, Some, None}
use Rattle.un_isa.specs.declared.op.Op.{Op}
use Rattle.un_isa.specs.declared.facts.Range.{Range}
use Rattle.un_isa.specs.declared.facts.Range.TheVariants.{Unsigned5}
use Rattle.un_isa.specs.Facts.{literal_range}
use Rattle.un_isa.specs.Operands.{IsLiteral, IsInRangeOf, IsShift, IsShiftOf}

of_range : (range : Option Range) (n : ℤ) → IsInRangeOf range n → IsShiftOf range n
of_range None n h = tt
of_range (Some Unsigned5) n h = h
of_range (Some _) n h = tt

pub literal_shift : (op : Op) (n : ℤ) → IsLiteral op n → IsShift op n
literal_shift op n h = of_range (literal_range op) n h
