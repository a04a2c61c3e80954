-- The literals of operations, as they are written.
use Rattle.std.specs.Prelude.{ℕ, zero, suc, ℤ, pos, negsuc, ◌-◌, ◌^◌, min, Bool, true, if◌then◌else◌}
use Rattle.std.specs.Option.{option_map_or}
use Rattle.un_isa.specs.declared.op.Op.{Op}
use Rattle.un_isa.specs.Facts.{literal_range}
use Rattle.un_isa.specs.Operands.{in_range}
use Rattle.un_faults.specs.Vocabulary.{Number}

abbrev pub negated : ℕ → ℤ
negated zero = pos 0
negated (suc n) = negsuc n

-- the number that is written; one that does not fit 32 bits is kept as the nearest that does
abbrev pub literal_value : Number → ℤ
literal_value n = if n.negative then negated (min n.size (2 ^ 31 - 1)) else pos (min n.size (2 ^ 31 - 1))

-- the literal is in the range of its operation, where that has one
abbrev pub literal_fits : Op → Number → Bool
literal_fits op n = option_map_or (λ range. in_range range (literal_value n)) (literal_range op) true
