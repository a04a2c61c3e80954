-- Why a text is no table's, by number and by name.
use Rattle.std.specs.Prelude.{ℕ, List, [], codes, nat_eq, if◌then◌else◌}
use Rattle.un_target.specs.declared.error.TableCause.{TableCause}
use Rattle.un_target.specs.declared.error.TableCause.TheVariants.{NotJson, BadShape, BadLatency, BadUse, BadSaved}

-- the code of a cause
abbrev pub code_of : TableCause → ℕ
code_of NotJson = 1
code_of BadShape = 2
code_of BadLatency = 3
code_of BadUse = 4
code_of BadSaved = 5

-- the name of a cause why there is no table, and none for another number
abbrev pub table_fault_name : ℕ → List ℕ
table_fault_name code =
    if nat_eq code 1 then codes "NotJson" else
    if nat_eq code 2 then codes "BadShape" else
    if nat_eq code 3 then codes "BadLatency" else
    if nat_eq code 4 then codes "BadUse" else
    if nat_eq code 5 then codes "BadSaved" else []
