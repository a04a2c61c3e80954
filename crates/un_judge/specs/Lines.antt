-- The lines of a step log, each with its line feed.
use Rattle.std.specs.Prelude.{ℕ, ◌≡◌, ◌≢◌, ◌<◌, ◌≤◌, ◌^◌, List, [], ◌∷◌, ◌++◌, length, codes, decimal}
use Rattle.un_base.specs.Lines.{pieces_of}
use Rattle.un_steps.specs.declared.step.Rule.{Rule}
use Rattle.un_steps.specs.declared.step.Rule.TheVariants.{TooSoon, Idle, OutsideBlock, FromIdle, TooLateFor, OutsideSpace, NoSpace, Alike}
use Rattle.un_steps.specs.declared.step.Rule.TheVariants.{NotHome, NotCongruent, TooDear, NoFrame, TooFull}
use Rattle.un_steps.specs.declared.step.Step.{Step}
use Rattle.un_judge.specs.declared.line.First.{First}
use Rattle.un_judge.specs.declared.line.First.TheVariants.{End, Next}
use Rattle.un_judge.specs.declared.line.Line.{Line}
use Rattle.un_judge.specs.declared.line.Line.TheVariants.{Dot, Takes, Other}

-- ---- the grammar

abbrev pub rule_number : Rule → ℕ
rule_number TooSoon = 1
rule_number Idle = 2
rule_number OutsideBlock = 3
rule_number FromIdle = 4
rule_number TooLateFor = 5
rule_number OutsideSpace = 6
rule_number NoSpace = 7
rule_number Alike = 8
rule_number NotHome = 9
rule_number NotCongruent = 10
rule_number TooDear = 11
rule_number NoFrame = 12
rule_number TooFull = 13

-- a number, a blank, and what stands behind it
abbrev pub numbered : ℕ → List ℕ → List ℕ
numbered n rest = decimal n ++ 32 ∷ rest

-- a step's five numbers: of its rule, its place, its variable, and its first and its last value
abbrev pub step_text : Step → List ℕ
step_text s = numbered (rule_number s.rule) (numbered s.place (numbered s.var.0 (numbered s.first (decimal s.last))))

abbrev pub step_line : Step → List ℕ
step_line s = step_text s ++ codes "\n"

abbrev pub dot_line : List ℕ
dot_line = codes ".\n"

-- its rule is one of the first that hold, and its numbers are numbers of 32 bits
pub record Fits (rules : ℕ) (s : Step) : Type 0 where
  pub rule : rule_number s.rule ≤ rules
  pub place : s.place < 2 ^ 32
  pub var : s.var.0 < 2 ^ 32
  pub first : s.first < 2 ^ 32
  pub last : s.last < 2 ^ 32

-- a line is a step's
pub record IsStepLine (rules : ℕ) (line : List ℕ) (s : Step) : Type 0 where
  pub fits : Fits rules s
  pub spelled : line ≡ step_line s

-- ---- what is read

-- what a line says
abbrev pub Says : ℕ → List ℕ → Line → Type 0
Says rules line Dot = line ≡ dot_line
Says rules line (Takes s) = IsStepLine rules line s
Says rules line Other = (line ≢ dot_line) × ((s : Step) → IsStepLine rules line s → ⊥)

-- a text begins with a line that says this, and goes on with the rest
pub record BeginsWith (rules : ℕ) (text : List ℕ) (line : Line) (rest : List ℕ) : Type 0 where
  pub bytes : List ℕ
  pub pieces : pieces_of text ≡ bytes ∷ pieces_of rest
  pub says : Says rules bytes line
  pub shorter : length rest < length text

-- what a text begins with
abbrev pub Begins : ℕ → List ℕ → First → Type 0
Begins rules text End = text ≡ []
Begins rules text (Next line rest) = BeginsWith rules text line rest.now
