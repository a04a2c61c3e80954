-- The first line of a text that has a fault.
use Rattle.std.specs.Prelude.{ℕ, ◌≡◌, ◌+◌, ◌<◌, List, length, Some, None, map}
use Rattle.un_faults.specs.declared.fault.Fault.{Fault}
use Rattle.un_words.specs.declared.line.Line.{Line}
use Rattle.un_faults.specs.LineFaults.{fault_at}
use Rattle.un_words.specs.Shapes.{line_of}
use Rattle.un_words.specs.Pieces.{lines_in}

-- no line has a fault
abbrev pub HasNoLineFault : List (List ℕ) → Type 0
HasNoLineFault lines = (k : ℕ) → k < length lines → fault_at lines k ≡ None

-- this line, counted from 1, has this fault, and none before it has one
pub record IsFirstLineFault (lines : List (List ℕ)) (line : ℕ) (fault : Fault) : Type 0 where
  pub place : ℕ
  pub number : line ≡ place + 1
  pub here : fault_at lines place ≡ Some fault
  pub before : (k : ℕ) → k < place → fault_at lines k ≡ None

-- the lines of a text by their shapes, one for each, where none has a fault
abbrev pub shapes_in : List ℕ → List Line
shapes_in text = map line_of (lines_in text)
