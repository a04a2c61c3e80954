-- The check of a report: its input, and what is put out.
use Rattle.std.specs.Prelude.{ℕ, ◌≡◌, List, ◌++◌, ⊤, codes, decimal, OnOk}
use Rattle.std.specs.declared.result.Result.{Result}
use Rattle.std.specs.declared.result.Result.TheVariants.{Ok, Err}
use Rattle.un_base.specs.Lines.{joined_lines}
use Rattle.un_isa.specs.Versions.{table_of}
use Rattle.un_isa.specs.declared.table.Table.{Table}
use Rattle.un_ir.specs.declared.function.Function.{Function}
use Rattle.un_model.specs.declared.model.Model.{Model}
use Rattle.un_outside.specs.declared.status.Status.{Status}
use Rattle.un_outside.specs.declared.status.Status.TheVariants.{Done, No}
use Rattle.un_outside.specs.declared.status.NoCause.{NoCause}
use Rattle.un_outside.specs.declared.status.NoCause.TheVariants.{Name, Solution, Cost, Listing, Strict, Split, Alive, Closed, Mirror, Short, Spent, Bound}
use Rattle.un_problem.specs.Problems.{IsModelOf}
use Rattle.un_reader.specs.Read.{IsRead}
use Rattle.un_report.specs.declared.report.Answered.{Answered}
use Rattle.un_report.specs.declared.report.Answered.TheVariants.{Code, Infeasible, Spent as Stopped}
use Rattle.un_report.specs.declared.report.Report.{Report}
use Rattle.un_report_reader.specs.FirstBad.{IsFirstBad}
use Rattle.un_report_reader.specs.Readings.{IsReportRead}
use Rattle.un_report_reader.specs.declared.error.ReportError.{ReportError}
use Rattle.un_report_reader.specs.declared.error.ReportError.TheVariants as ReportErrors
use Rattle.un_check.specs.Causes.{IsTold, claim_of}
use Rattle.un_check.specs.Laws.{BoundsAll, HasCodeFor}
use Rattle.un_check.specs.Sound.{IsSound}
use Rattle.un_runs.specs.Inputs.{first_part, second_part}
use Rattle.un_runs.specs.Refusals.{IsFaultOf}
use Rattle.un_runs.specs.declared.refused.Refused.{Refused}
use Rattle.un_runs.specs.declared.refused.Refused.TheVariants.{NoMemory, TextFault, BadSecond}

-- ---- what is put out

-- the line for a report that is accepted
abbrev pub yes_line : Answered → List ℕ
yes_line (Code cost bound code s) = (codes "yes code cost " ++ decimal cost) ++ (codes " bound " ++ decimal bound) ++ codes "\n"
yes_line Infeasible = codes "yes infeasible\n"
yes_line Stopped = codes "yes spent\n"

-- a word and the number of a rule or a node
abbrev pub counted_line : List ℕ → ℕ → List ℕ
counted_line word n = (word ++ decimal n) ++ codes "\n"

-- the line for a cause
abbrev pub no_line : NoCause → List ℕ
no_line Name = codes "no name\n"
no_line (Solution rule) = counted_line (codes "no solution ") rule
no_line Cost = codes "no cost\n"
no_line Listing = codes "no listing\n"
no_line (Strict place) = counted_line (codes "no strict ") place
no_line (Split place) = counted_line (codes "no split ") place
no_line (Alive place) = counted_line (codes "no alive ") place
no_line (Closed place) = counted_line (codes "no closed ") place
no_line (Mirror place) = counted_line (codes "no mirror ") place
no_line Short = codes "no short\n"
no_line Spent = codes "no spent\n"
no_line Bound = codes "no bound\n"

-- the line for an answer to a report
abbrev pub told_line : Answered → Result (Unit {0}) NoCause → List ℕ
told_line a (Ok all) = yes_line a
told_line a (Err cause) = no_line cause

-- how a run ends that writes it whole
abbrev pub told_status : Result (Unit {0}) NoCause → Status
told_status (Ok all) = Done
told_status (Err cause) = No cause

-- ---- over an input

-- the answer to the report that a text is, on a function, by the table that its version tells: what it claims is all right, or there is a
-- first cause. Where it is all right, the report is sound; and by the function's model its code does what the function does, for its cost,
-- and no solution costs less than its bound
pub record IsAnswered (by : ℕ → Table) (f : Function) (text : List ℕ) (a : Answered) (result : Result (Unit {0}) NoCause) : Type 0 where
  pub report : Report
  pub reported : IsReportRead text report
  pub answer : report.answer ≡ a
  pub told : IsTold (by report.version) f report.options (claim_of report) result
  pub sound : OnOk result (IsSound (by report.version) f report)
  pub code : OnOk result ((m : Model) → IsModelOf (by report.version) f report.options m → HasCodeFor f m report.answer)
  pub bounds : OnOk result ((m : Model) → IsModelOf (by report.version) f report.options m → BoundsAll m report.answer)

-- its line, and how a run ends that writes it
pub record IsCheckBy (by : ℕ → Table) (f : Function) (text : List ℕ) (status : Status) (out : List ℕ) : Type 0 where
  pub answer : Answered
  pub told : Result (Unit {0}) NoCause
  pub answered : IsAnswered by f text answer told
  pub ends : status ≡ told_status told
  pub printed : out ≡ told_line answer told

-- by the tables of the versions
abbrev pub IsCheckOf : Function → List ℕ → Status → List ℕ → Type 0
IsCheckOf f text status out = IsCheckBy table_of f text status out

-- the same of the function in the first part of an input and the report in the second one
pub record IsCheck (input : List ℕ) (status : Status) (out : List ℕ) : Type 0 where
  pub function : Function
  pub read : IsRead (first_part input) function
  pub check : IsCheckOf function (second_part input) status out

-- a function, and a report
pub record IsCheckInput (input : List ℕ) : Type 0 where
  pub function : Function
  pub read : IsRead (first_part input) function
  pub report : Report
  pub reported : IsReportRead (second_part input) report

-- what `check` reads of a function's text and a report's: a line `---` stands between them
abbrev pub check_text : List ℕ → List ℕ → List ℕ
check_text text report = text ++ (codes "---\n" ++ report)

-- each line of a text has its line feed
abbrev pub IsOfLines : List ℕ → Type 0
IsOfLines text = (lines : List (List ℕ)) × (text ≡ joined_lines lines)

-- ---- refusals

-- why there is no outcome where a report's text is not read
abbrev pub unviewed_by : ReportError → Refused
unviewed_by ReportErrors.NoMemory = NoMemory
unviewed_by (ReportErrors.BadReport line) = BadSecond line

-- of a report's text
abbrev pub RefusesReport : List ℕ → Refused → Type 0
RefusesReport text NoMemory = ⊤
RefusesReport text (TextFault line code) = ⊥
RefusesReport text (BadSecond line) = IsFirstBad text line

-- the first part is a function, and this line of the second one is bad
pub record IsBadCheck (input : List ℕ) (line : ℕ) : Type 0 where
  pub function : Function
  pub read : IsRead (first_part input) function
  pub bad : IsFirstBad (second_part input) line

-- of an input
abbrev pub RefusesCheck : List ℕ → Refused → Type 0
RefusesCheck input NoMemory = ⊤
RefusesCheck input (TextFault line code) = IsFaultOf (first_part input) line code
RefusesCheck input (BadSecond line) = IsBadCheck input line
