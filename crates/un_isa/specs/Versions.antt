-- The versions of reports: a version names the table that its reports are judged by.
use Rattle.std.specs.Prelude.{ℕ, ◌≤◌, true, ◌==◌, if◌then◌else◌}
use Rattle.un_isa.specs.declared.table.Table.{Table}
use Rattle.un_isa.specs.declared.table.TheConstants.{LAST}
use Rattle.un_isa.specs.Hexagon.{HEXAGON}

-- a version that there is: 1 to the last
abbrev pub IsVersion : ℕ → Type 0
IsVersion v = (1 ≤ v) × (v ≤ LAST)

-- HEXAGON, where a jump may test what a compare of its own packet writes
abbrev pub FRESH : Table
FRESH = record HEXAGON { fresh = true }

-- the table that reports of a version are judged by: from version 3 on a jump may do so
abbrev pub table_of : ℕ → Table
table_of v = if v == 3 then FRESH else HEXAGON
