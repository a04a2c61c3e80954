-- The commands that go by a table: it is one part of their input, and what they put out is by it.
use Rattle.std.specs.Prelude.{ℕ, ◌≡◌, ◌≤◌, ⊤, List, length}
use Rattle.un_ir.specs.declared.function.Function.{Function}
use Rattle.un_isa.specs.Fit.{IsFit}
use Rattle.un_isa.specs.declared.table.Table.{Table}
use Rattle.un_model.specs.declared.model.Options.{Options}
use Rattle.un_outside.specs.declared.status.Status.{Status}
use Rattle.un_outside.specs.declared.status.Status.TheVariants.{NoMemory, BadReport, BadTable}
use Rattle.un_reader.specs.Read.{IsRead}
use Rattle.un_report.specs.declared.report.Report.{Report}
use Rattle.un_report_reader.specs.FirstBad.{IsFirstBad}
use Rattle.un_report_reader.specs.Readings.{IsReportRead}
use Rattle.un_runs.specs.Grammars.{AreCodeTexts}
use Rattle.un_runs.specs.Inputs.{first_part, second_part, middle_part, last_part}
use Rattle.un_runs.specs.Refusals.{IsBadRun}
use Rattle.un_runs.specs.Shown.{IsRunOfListing}
use Rattle.un_target.specs.Causes.{code_of}
use Rattle.un_target.specs.Tables.{IsTableText, IsBadTable}
use Rattle.un_target.specs.declared.error.TableCause.{TableCause}
use Rattle.un_top.specs.Checks.{IsCheckBy}
use Rattle.un_top.specs.Reports.{IsReportOf}
use Rattle.un_top.specs.declared.limits.TheConstants.{INPUT}

-- ---- texts of tables

-- the text is that of a table
pub record IsGoodTable (text : List ℕ) : Type 0 where
  pub table : Table
  pub is_table : IsTableText text table

-- the text is that of none, by the cause of this number
pub record IsCodeOf (text : List ℕ) (code : ℕ) : Type 0 where
  pub cause : TableCause
  pub bad : IsBadTable text cause
  pub coded : code ≡ code_of cause

-- why there is no table of a text, as the answer of a command
abbrev pub RefusesTable : List ℕ → Status → Type 0
RefusesTable text NoMemory = ⊤
RefusesTable text (BadTable code) = IsCodeOf text code
RefusesTable text _ = ⊥

-- ---- what is put out

-- the report of the function in the first part of an input by the table in the second one
pub record IsTableReport (o : Options) (nodes : ℕ) (input : List ℕ) (status : Status) (out : List ℕ) : Type 0 where
  pub table : Table
  pub is_table : IsTableText (second_part input) table
  pub fits : IsFit table
  pub report : IsReportOf table o nodes (first_part input) status out

-- the check by the table in the middle part of an input of the report in the last one, on the function in the first one
pub record IsTableCheck (input : List ℕ) (status : Status) (out : List ℕ) : Type 0 where
  pub function : Function
  pub read : IsRead (first_part input) function
  pub table : Table
  pub is_table : IsTableText (middle_part input) table
  pub fits : IsFit table
  pub check : IsCheckBy (λ version. table) function (last_part input) status out

-- the outcome by the table in the middle part of an input of the code in the first one from the start in the last one
pub record IsTableRun (input : List ℕ) (out : List ℕ) : Type 0 where
  pub table : Table
  pub is_table : IsTableText (middle_part input) table
  pub fits : IsFit table
  pub run : IsRunOfListing table (first_part input) (last_part input) out

-- ---- inputs that are good

-- a function and a table
pub record IsFunctionTable (input : List ℕ) : Type 0 where
  pub function : Function
  pub read : IsRead (first_part input) function
  pub table : IsGoodTable (second_part input)

-- a function, a table and a report
pub record IsTableCheckInput (input : List ℕ) : Type 0 where
  pub function : Function
  pub read : IsRead (first_part input) function
  pub table : IsGoodTable (middle_part input)
  pub report : Report
  pub reported : IsReportRead (last_part input) report

-- a listing, a table and a start
abbrev pub IsTableRunInput : List ℕ → Type 0
IsTableRunInput input = IsGoodTable (middle_part input) × AreCodeTexts (first_part input) (last_part input)

-- ---- answers behind what an input begins with: its table is refused, or a line of its last part

-- an input within the limit has such a front, and this text of a table is refused, by the cause of this number
pub record IsBadTableBehind (front : Type 0) (input text : List ℕ) (code : ℕ) : Type 0 where
  pub few : length input ≤ INPUT
  pub read : front
  pub refused : IsCodeOf text code

-- it is that of a table, and this line behind it is bad
pub record IsBadLineBehind (front : Type 0) (input text : List ℕ) (bad : ℕ → Type 0) (line : ℕ) : Type 0 where
  pub few : length input ≤ INPUT
  pub read : front
  pub table : IsGoodTable text
  pub refused : bad line

-- an answer is that a table is refused, or that a line is
abbrev pub IsLateBy : (ℕ → Type 0) → (ℕ → Type 0) → Status → Type 0
IsLateBy table line (BadTable code) = table code
IsLateBy table line (BadReport n) = line n
IsLateBy table line _ = ⊥

-- the first part is a function
abbrev pub HasFunction : List ℕ → Type 0
HasFunction input = (f : Function) × IsRead (first_part input) f

-- of a function and a table
abbrev pub IsLateReport : List ℕ → Status → Type 0
IsLateReport input status = IsLateBy (IsBadTableBehind (HasFunction input) input (second_part input)) (λ line. ⊥) status

-- of a function, a table and a report
abbrev pub IsLateCheck : List ℕ → Status → Type 0
IsLateCheck input status =
    IsLateBy (IsBadTableBehind (HasFunction input) input (middle_part input))
    (IsBadLineBehind (HasFunction input) input (middle_part input) (IsFirstBad (last_part input))) status

-- of a listing, a table and a start: the table comes first
abbrev pub IsLateRun : List ℕ → Status → Type 0
IsLateRun input status =
    IsLateBy (IsBadTableBehind ⊤ input (middle_part input))
    (IsBadLineBehind ⊤ input (middle_part input) (IsBadRun (first_part input) (last_part input))) status
