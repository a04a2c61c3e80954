-- Registers by their numbers.
use Rattle.std.specs.Prelude.{ℕ, nat_lt, List, [], ◌∷◌, ◌++◌, filter, if◌then◌else◌}
use Rattle.std.specs.List.{range_with_len}
use Rattle.un_isa.specs.declared.reg.TheConstants.{LINK, GENERALS, FIRST_SLOT}
use Rattle.un_isa.specs.declared.reg.Space.{Space}
use Rattle.un_isa.specs.declared.reg.Space.TheVariants.{R, P, M}
use Rattle.un_isa.specs.declared.table.Table.{Table}
use Rattle.un_isa.specs.Tables.{in_mask}

-- the space of a number: general registers, predicates, then the slots of the frame
abbrev pub space_of : ℕ → Space
space_of r = if nat_lt r GENERALS then R else if nat_lt r FIRST_SLOT then P else M

-- the general registers that a function keeps, rising
unfoldable pub callee_saved : Table → List ℕ
callee_saved t = filter (in_mask t.saved) (range_with_len 0 GENERALS)

-- the registers whose values at a function's entry are wanted at its return: those that it keeps, and the link register
abbrev pub saved_registers : Table → List ℕ
saved_registers t = callee_saved t ++ LINK ∷ []
