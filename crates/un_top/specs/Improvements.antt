-- A search from the numbers of a schedule on: its input, and what is put out.
use Rattle.std.specs.Prelude.{ℕ, ◌≡◌, ◌⊎◌, ⊤, List, ◌∷◌}
use Rattle.un_ir.specs.declared.function.Function.{Function}
use Rattle.un_isa.specs.declared.table.Table.{Table}
use Rattle.un_model.specs.Cost.{cost_of}
use Rattle.un_model.specs.Solutions.{ListsBroken, latency_gap}
use Rattle.un_model.specs.declared.model.Model.{Model}
use Rattle.un_model.specs.declared.model.Options.{Options}
use Rattle.un_model.specs.declared.model.Solution.{Solution}
use Rattle.un_outside.specs.declared.status.NoCause.TheVariants.{Solution as Numbers}
use Rattle.un_outside.specs.declared.status.Status.{Status}
use Rattle.un_outside.specs.declared.status.Status.TheVariants.{No}
use Rattle.un_problem.specs.Problems.{IsModelOf}
use Rattle.un_reader.specs.Read.{IsRead}
use Rattle.un_report_reader.specs.FirstBad.{IsFirstBadAlone}
use Rattle.un_report_reader.specs.Readings.{IsNumbers}
use Rattle.un_runs.specs.Inputs.{first_part, second_part}
use Rattle.un_runs.specs.Refusals.{IsFaultOf}
use Rattle.un_runs.specs.declared.refused.Refused.{Refused}
use Rattle.un_runs.specs.declared.refused.Refused.TheVariants.{NoMemory, TextFault, BadSecond}
use Rattle.un_violations.specs.Loose.{IsLoose, loose_domains}
use Rattle.un_top.specs.Checks.{no_line}
use Rattle.un_top.specs.Reports.{IsCodeWithin, IsSearchText}

-- ---- what is put out

-- the first clause of schedules of any length that numbers break has this number
pub record IsFirstLoose (m : Model) (s : Solution) (k : ℕ) : Type 0 where
  pub others : List ℕ
  pub lists : ListsBroken (latency_gap m.ext.table) (loose_domains m) m s.values (k ∷ others)

-- numbers are no schedule, and the first clause that they break is told
pub record IsBroken (m : Model) (s : Solution) (status : Status) (out : List ℕ) : Type 0 where
  pub clause : ℕ
  pub first : IsFirstLoose m s clause
  pub ends : status ≡ No (Numbers clause)
  pub printed : out ≡ no_line (Numbers clause)

-- they are a schedule, however long, and this is the report of a search: it has code that costs no more
pub record IsImproved (f : Function) (m : Model) (nodes : ℕ) (s : Solution) (status : Status) (out : List ℕ) : Type 0 where
  pub loose : IsLoose m s
  pub found : IsSearchText f m nodes (IsCodeWithin (cost_of m s)) status out

abbrev pub IsAnswerTo : Function → Model → ℕ → Solution → Status → List ℕ → Type 0
IsAnswerTo f m nodes s status out = IsBroken m s status out ⊎ IsImproved f m nodes s status out

-- the answer to the numbers that a text is, on a function, for a table and under options
pub record IsImprovementOf (t : Table) (o : Options) (nodes : ℕ) (f : Function) (text : List ℕ) (status : Status) (out : List ℕ) : Type 0 where
  pub numbers : Solution
  pub read : IsNumbers text numbers.values
  pub model : Model
  pub is_model : IsModelOf t f o model
  pub answer : IsAnswerTo f model nodes numbers status out

-- the same of the function in the first part of an input and the numbers in the second one
pub record IsImprovement (t : Table) (o : Options) (nodes : ℕ) (input : List ℕ) (status : Status) (out : List ℕ) : Type 0 where
  pub function : Function
  pub read : IsRead (first_part input) function
  pub told : IsImprovementOf t o nodes function (second_part input) status out

-- a function, and numbers
pub record IsNumbersInput (input : List ℕ) : Type 0 where
  pub function : Function
  pub read : IsRead (first_part input) function
  pub values : List ℕ
  pub numbers : IsNumbers (second_part input) values

-- ---- refusals

-- of the text of numbers
abbrev pub RefusesNumbers : List ℕ → Refused → Type 0
RefusesNumbers text NoMemory = ⊤
RefusesNumbers text (TextFault line code) = ⊥
RefusesNumbers text (BadSecond line) = IsFirstBadAlone text line

-- the first part is a function, and this line of the second one is bad
pub record IsBadNumbers (input : List ℕ) (line : ℕ) : Type 0 where
  pub function : Function
  pub read : IsRead (first_part input) function
  pub bad : IsFirstBadAlone (second_part input) line

-- of an input
abbrev pub RefusesImprovement : List ℕ → Refused → Type 0
RefusesImprovement input NoMemory = ⊤
RefusesImprovement input (TextFault line code) = IsFaultOf (first_part input) line code
RefusesImprovement input (BadSecond line) = IsBadNumbers input line
