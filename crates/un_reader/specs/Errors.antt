-- What an answer other than a function says.
use Rattle.std.specs.Prelude.{ℕ, ◌≡◌}
use Rattle.un_faults.specs.declared.fault.Fault.{Fault}
use Rattle.un_reader.specs.declared.error.ReadError.{ReadError}
use Rattle.un_reader.specs.declared.error.ReadError.TheVariants.{NoMemory, TextFault}
use Rattle.un_faults.specs.Codes.{code_of}

-- a fault for which P holds, with its line and its code; nothing is said of want of memory
abbrev pub Tells : (ℕ → Fault → Type 0) → ReadError → Type 0
Tells P NoMemory = Unit {0}
Tells P (TextFault line code) = (fault : Fault) × (code ≡ code_of fault) × P line fault
