-- Errors of a reader of reports, and the places that they name.
use Rattle.std.specs.Prelude.{ℕ, ◌≡◌, ◌+◌, ⊤, List, ◌++◌}
use Rattle.un_report_reader.specs.declared.error.ReportError.{ReportError}
use Rattle.un_report_reader.specs.declared.error.ReportError.TheVariants.{NoMemory, BadReport}
use Rattle.un_report_reader.specs.declared.place.Place.{Place}

-- an error names this line, or there was no memory
abbrev pub Names : ℕ → ReportError → Type 0
Names number NoMemory = ⊤
Names number (BadReport line) = line ≡ number

-- a line is bad, counted from a place
pub record IsBadAt (bad : List ℕ → ℕ → Type 0) (at : Place) (number : ℕ) : Type 0 where
  pub line : ℕ
  pub is_bad : bad at.rest.now line
  pub numbered : number ≡ at.lines + line

-- an error is an answer at a place: there was no memory, or the line is bad
abbrev pub IsErrorAt : (List ℕ → ℕ → Type 0) → Place → ReportError → Type 0
IsErrorAt bad at NoMemory = ⊤
IsErrorAt bad at (BadReport number) = IsBadAt bad at number

-- a good value whose text stands at a place with so many lines, and the place behind it
pub record IsRead {V : Type 0} (good : V → Type 0) (text_of : V → List ℕ) (lines_of : V → ℕ) (at : Place) (value : V) (next : Place)
    : Type 0 where
  pub is_good : good value
  pub whole : at.rest.now ≡ text_of value ++ next.rest.now
  pub numbered : next.lines ≡ at.lines + lines_of value
