-- The lines of a text by its blocks.
use Rattle.std.specs.Prelude.{ℕ, List, [], ◌∷◌, Option, Some, None}
use Rattle.std.specs.List.{cons_option}
use Rattle.un_faults.specs.Vocabulary.{Number, OpLine, TermLine, Line, Blank, Func, Block, Operation, Terminator}

-- the lines of a block: its label and frequency, its operations, and its terminator, where there is one
pub record Group : Type 0 where
  pub label : List ℕ
  pub freq : Number
  pub ops : List OpLine
  pub term : Option TermLine

-- a block line or a terminator ends the operations
abbrev pub op_or : Line → List OpLine → List OpLine
op_or Blank later = later
op_or (Func name params) later = later
op_or (Operation o) later = o ∷ later
op_or _ later = []

-- the operations of a block, by the lines behind its block line
abbrev pub ops_of : List Line → List OpLine
ops_of [] = []
ops_of (line ∷ lines) = op_or line (ops_of lines)

abbrev pub term_or : Line → Option TermLine → Option TermLine
term_or (Terminator term) later = Some term
term_or (Block label freq) later = None
term_or _ later = later

-- the terminator of a block, by the lines behind its block line
abbrev pub term_of : List Line → Option TermLine
term_of [] = None
term_of (line ∷ lines) = term_or line (term_of lines)

-- the block that a block line begins, by the lines behind it
abbrev pub group_on : Line → List Line → Option Group
group_on (Block label freq) rest = Some (record { label = label; freq = freq; ops = ops_of rest; term = term_of rest })
group_on _ rest = None

-- the blocks of a text, in order
abbrev pub grouped : List Line → List Group
grouped [] = []
grouped (line ∷ lines) = cons_option (group_on line lines) (grouped lines)
