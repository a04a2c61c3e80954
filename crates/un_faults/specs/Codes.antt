-- The numbers of the faults, and their names.
use Rattle.std.specs.Prelude.{ℕ, List, [], codes, nat_eq, if◌then◌else◌}
use Rattle.un_faults.specs.declared.fault.Fault.{Fault}
use Rattle.un_faults.specs.declared.fault.Fault.TheVariants.{BadByte, BadLine, WideLiteral, DupLabel, UnknownLabel, NoBlock, AfterEnd}
use Rattle.un_faults.specs.declared.fault.Fault.TheVariants.{FallsOff, JumpToEntry, KindClash, MixedResult, LiveAtEntry, TooMany, BadFreq}

abbrev pub code_of : Fault → ℕ
code_of BadByte = 1
code_of BadLine = 2
code_of WideLiteral = 3
code_of DupLabel = 4
code_of UnknownLabel = 5
code_of NoBlock = 6
code_of AfterEnd = 7
code_of FallsOff = 8
code_of JumpToEntry = 9
code_of KindClash = 10
code_of MixedResult = 11
code_of LiveAtEntry = 12
code_of TooMany = 13
code_of BadFreq = 14

-- the name of a fault of a text, and none for another number
abbrev pub fault_name : ℕ → List ℕ
fault_name code =
    if nat_eq code 1 then codes "BadByte" else
    if nat_eq code 2 then codes "BadLine" else
    if nat_eq code 3 then codes "WideLiteral" else
    if nat_eq code 4 then codes "DupLabel" else
    if nat_eq code 5 then codes "UnknownLabel" else
    if nat_eq code 6 then codes "NoBlock" else
    if nat_eq code 7 then codes "AfterEnd" else
    if nat_eq code 8 then codes "FallsOff" else
    if nat_eq code 9 then codes "JumpToEntry" else
    if nat_eq code 10 then codes "KindClash" else
    if nat_eq code 11 then codes "MixedResult" else
    if nat_eq code 12 then codes "LiveAtEntry" else
    if nat_eq code 13 then codes "TooMany" else
    if nat_eq code 14 then codes "BadFreq" else []
