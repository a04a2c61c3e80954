-- Texts of starts: the lines of one, the start that they give, and the first line that no start has at its place.
use Rattle.std.specs.Prelude.{ℕ, ◌≡◌, ◌≢◌, ◌+◌, ⊤, true, List, [], ◌∷◌, ◌++◌, Some, Result, Ok, Err, length}
use Rattle.un_isa.specs.declared.start.Start.{Start}
use Rattle.un_start.specs.declared.line.Line.{Line}
use Rattle.un_start.specs.declared.line.Line.TheVariants.{Blocks}
use Rattle.un_start.specs.declared.read.StartError.{StartError}
use Rattle.un_start.specs.declared.read.StartError.TheVariants.{NoMemory, BadStart}
use Rattle.un_start.specs.Lines.{Fits, line_text, lines_text}
use Rattle.un_start.specs.Places.{last_of, registers_in, words_in, replies_in, is_next}

-- the line may stand behind these, and its numbers are of 32 bits
pub record MayStand (before : List Line) (l : Line) : Type 0 where
  pub fits : Fits l
  pub next : is_next before l ≡ true

-- each line may stand behind these and those before it
abbrev pub StandBehind : List Line → List Line → Type 0
StandBehind before [] = ⊤
StandBehind before (l ∷ ls) = MayStand before l × StandBehind (before ++ l ∷ []) ls

abbrev pub AllStand : List Line → Type 0
AllStand ls = StandBehind [] ls

-- the last line tells how many blocks may be entered
abbrev pub EndsWith : List Line → ℕ → Type 0
EndsWith ls n = last_of ls ≡ Some (Blocks n)

-- the lines of a start with this number of blocks
pub record AreStart (ls : List Line) (n : ℕ) : Type 0 where
  pub stand : AllStand ls
  pub ends : EndsWith ls n

-- the start is the one that lines give
pub record IsGivenBy (ls : List Line) (s : Start) : Type 0 where
  pub regs : s.regs ≡ registers_in ls
  pub memory : s.memory ≡ words_in ls
  pub replies : s.replies ≡ replies_in ls

-- the text is one of this start and this number of blocks
pub record IsStartText (text : List ℕ) (s : Start) (n : ℕ) : Type 0 where
  pub lines : List Line
  pub are : AreStart lines n
  pub spelled : text ≡ lines_text lines
  pub given : IsGivenBy lines s

-- the text does not begin with a line that may stand behind these
abbrev pub BeginsNoNext : List Line → List ℕ → Type 0
BeginsNoNext before text = (l : Line) (rest : List ℕ) → MayStand before l → text ≢ line_text l ++ 10 ∷ rest

-- the first line, counted from 1, that does not stand where it may; where lines are missing, the one after the last
pub record IsFirstBad (text : List ℕ) (number : ℕ) : Type 0 where
  pub before : List Line
  pub rest : List ℕ
  pub stand : AllStand before
  pub whole : text ≡ lines_text before ++ rest
  pub bad : BeginsNoNext before rest
  pub unended : rest ≡ [] → (n : ℕ) → EndsWith before n → ⊥
  pub numbered : number ≡ length before + 1

-- an error is an answer to a text: there was no memory, or the line is the first bad one
abbrev pub IsErrorOf : List ℕ → StartError → Type 0
IsErrorOf text NoMemory = ⊤
IsErrorOf text (BadStart line) = IsFirstBad text line

-- an answer to the lines of a start is that start with its number of blocks, or there was no memory
abbrev pub IsReadBack : List Line → ℕ → Result (Start × ℕ) StartError → Type 0
IsReadBack ls n (Ok read) = IsGivenBy ls read.0 × (read.1 ≡ n)
IsReadBack ls n (Err e) = e ≡ NoMemory
