-- Sets of registers.
use Rattle.std.specs.Prelude.{ℕ, Bool, List, filter}
use Rattle.std.specs.List.{range_with_len}
use Rattle.un_isa.specs.declared.reg.TheConstants.{REGISTERS}
use Rattle.un_isa.specs.Tables.{in_mask}

-- whether a register is in a set, which is seen as the mask that has a bit for each register of it
abbrev pub has : ℕ → ℕ → Bool
has set r = in_mask set r

-- the registers of a set, rising
abbrev pub members : ℕ → List ℕ
members set = filter (has set) (range_with_len 0 REGISTERS)
