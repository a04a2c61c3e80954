-- What each command does: a record for each.
use Rattle.std.specs.Prelude.{ℕ, ◌≡◌, ◌<◌, ◌≤◌, ◌⊎◌, length, Bool, List}
use Rattle.un_baseline.specs.RoomyOptions.{AreRoomyFor}
use Rattle.un_commands.specs.Alloc.{model_options}
use Rattle.un_commands.specs.declared.command.Command.{Command}
use Rattle.un_commands.specs.declared.command.Command.TheVariants.{Reads, Makes}
use Rattle.un_commands.specs.declared.command.MakingCommand.{MakingCommand}
use Rattle.un_commands.specs.declared.command.MakingCommand.TheVariants.{Generate, GenerateAlloc}
use Rattle.un_commands.specs.declared.command.ReadingCommand.{ReadingCommand}
use Rattle.un_commands.specs.declared.command.ReadingCommand.TheVariants.{Alloc, Run, RunCode, Check, Improve, AllocTable, CheckTable, RunCodeTable, Refute, RefuteCheck}
use Rattle.un_commands.specs.declared.command.ReadingCommand.TheVariants.{Steps, StepsCheck}
use Rattle.un_commands.specs.declared.command.SearchOptions.{SearchOptions}
use Rattle.un_ir.specs.declared.function.Function.{Function}
use Rattle.un_isa.specs.Hexagon.{HEXAGON}
use Rattle.un_isa.specs.Versions.{table_of}
use Rattle.un_isa.specs.declared.table.TheConstants.{LAST}
use Rattle.un_outside.specs.declared.status.NoCause.{NoCause}
use Rattle.un_outside.specs.declared.status.NoCause.TheVariants.{Solution}
use Rattle.un_outside.specs.declared.status.Status.{Status}
use Rattle.un_outside.specs.declared.status.Status.TheVariants.{Done, Infeasible, Spent, NoMemory, No, BadReport, Found, Cut, NoLog, BadSteps}
use Rattle.un_reader.specs.Read.{IsRead}
use Rattle.un_reader.specs.declared.limits.TheConstants.{TEXT}
use Rattle.un_runs.specs.Grammars.{IsSourceInput, IsCodeInput}
use Rattle.un_runs.specs.Inputs.{first_part}
use Rattle.un_runs.specs.Refusals.{IsFaultOf as IsFault, IsBadSourceRun, IsBadCodeRun}
use Rattle.un_runs.specs.Shown.{IsSourceRun, IsCodeRun, IsGeneratedText}
use Rattle.un_top.specs.Checks.{IsCheck, IsCheckInput, IsBadCheck}
use Rattle.un_top.specs.Generated.{IsGeneratedReport}
use Rattle.un_top.specs.Improvements.{IsImprovement, IsNumbersInput, IsBadNumbers}
use Rattle.un_top.specs.Refutations.{IsRefuting, IsRefutationCheck, IsRefutationInput, IsBadRefutation}
use Rattle.un_top.specs.Reports.{IsReportOf}
use Rattle.un_top.specs.Steps.{IsSteps, IsStepsCheck, IsLateSteps, IsLateStepsCheck, IsLogInput}
use Rattle.un_top.specs.Tables.{IsTableReport, IsTableCheck, IsTableRun, IsFunctionTable, IsTableCheckInput, IsTableRunInput}
use Rattle.un_top.specs.Tables.{IsLateReport, IsLateCheck, IsLateRun}
use Rattle.un_top.specs.declared.limits.TheConstants.{INPUT}

-- what a command does with an input
pub record Behaviour : Type 1 where
  -- how many bytes the input may have
  pub most : ℕ
  -- what is put out over a text, and how a run ends that writes it whole
  pub Output : List ℕ → Status → List ℕ → Type 0
  -- how such runs end
  pub Ending : Status → Type 0
  -- the line and the code of the fault of a text
  pub Fault : List ℕ → ℕ → ℕ → Type 0
  -- a text has none
  pub Faultless : List ℕ → Type 0
  -- the answer where there is none, but what stands behind the function is refused
  pub Late : List ℕ → Status → Type 0
  -- a text is in its grammars and within its limits
  pub Good : List ℕ → Type 0
  -- how a run over a good text ends where nothing outside fails
  pub EndsWell : List ℕ → Status → Type 0

-- ---- inputs in two parts

-- an input of too many bytes
pub record IsTooLong (text : List ℕ) (line code : ℕ) : Type 0 where
  pub long : INPUT < length text
  pub no_line : line ≡ 0
  pub too_many : code ≡ 13

-- the first fault of a function in the first part of an input, or of its length
abbrev pub IsPartFault : List ℕ → ℕ → ℕ → Type 0
IsPartFault text line code = IsTooLong text line code ⊎ ((length text ≤ INPUT) × IsFault (first_part text) line code)

-- there is none
abbrev pub HasNoPartFault : List ℕ → Type 0
HasNoPartFault text = (length text ≤ INPUT) × ((f : Function) × IsRead (first_part text) f)

-- a line of the second part is refused, of an input within the limit
abbrev pub IsBadPart : (List ℕ → ℕ → Type 0) → List ℕ → Status → Type 0
IsBadPart bad text (BadReport line) = (length text ≤ INPUT) × bad text line
IsBadPart bad text _ = ⊥

-- nothing is refused behind a function
abbrev pub NoneLate : List ℕ → Status → Type 0
NoneLate text status = ⊥

-- ---- how runs end

-- the output was written whole, or there was no memory for it
abbrev pub IsDone : Status → Type 0
IsDone Done = Unit {0}
IsDone NoMemory = Unit {0}
IsDone _ = ⊥

-- or a search found no code
abbrev pub IsSearched : Status → Type 0
IsSearched Infeasible = Unit {0}
IsSearched Spent = Unit {0}
IsSearched status = IsDone status

-- or a report, or the numbers of a schedule, were not accepted
abbrev pub IsChecked : Status → Type 0
IsChecked (No cause) = Unit {0}
IsChecked status = IsDone status

-- or code was found, or the nodes were used
abbrev pub IsRefuteEnd : Status → Type 0
IsRefuteEnd (Found cost) = Unit {0}
IsRefuteEnd Cut = Unit {0}
IsRefuteEnd status = IsDone status

-- or a Split or a leaf gave no log
abbrev pub IsLogEnd : Status → Type 0
IsLogEnd (NoLog node) = Unit {0}
IsLogEnd status = IsChecked status

-- or there was a Split, or a log was not accepted
abbrev pub IsJudgeEnd : Status → Type 0
IsJudgeEnd (NoLog node) = Unit {0}
IsJudgeEnd (BadSteps line) = Unit {0}
IsJudgeEnd status = IsChecked status

abbrev pub EndsDone : Status → Type 0
EndsDone status = status ≡ Done

abbrev pub EndsSearch : Status → Type 0
EndsSearch status = (status ≡ Done) ⊎ ((status ≡ Infeasible) ⊎ (status ≡ Spent))

abbrev pub EndsCheck : Status → Type 0
EndsCheck status = (status ≡ Done) ⊎ ((cause : NoCause) × (status ≡ No cause))

-- there is code, or the numbers are no schedule
abbrev pub EndsImprove : Status → Type 0
EndsImprove status = (status ≡ Done) ⊎ ((clause : ℕ) × (status ≡ No (Solution clause)))

-- there is none below the limit, or there is, or the nodes were used
abbrev pub EndsRefute : Status → Type 0
EndsRefute status = (status ≡ Done) ⊎ (((cost : ℕ) × (status ≡ Found cost)) ⊎ (status ≡ Cut))

-- ---- the commands over an input

-- the report of a function; a search finds code where each name can be kept in a frame slot of its own
abbrev pub of_alloc : SearchOptions → Behaviour
of_alloc o = record {
  most = TEXT;
  Output = λ text status out. IsReportOf (table_of LAST) (model_options o) o.nodes text status out;
  Ending = EndsSearch;
  Fault = IsFault;
  Faultless = λ text. (f : Function) × IsRead text f;
  Late = NoneLate;
  Good = λ text. (f : Function) × IsRead text f;
  EndsWell = λ text status. IsSearched status × (((f : Function) → IsRead text f → AreRoomyFor f (model_options o)) → IsDone status);
}

-- what a function does from a start
abbrev pub of_run : Behaviour
of_run = record {
  most = INPUT;
  Output = λ text status out. (status ≡ Done) × (length text ≤ INPUT) × IsSourceRun text out;
  Ending = EndsDone;
  Fault = IsPartFault;
  Faultless = HasNoPartFault;
  Late = IsBadPart IsBadSourceRun;
  Good = λ text. (length text ≤ INPUT) × IsSourceInput text;
  EndsWell = λ text status. IsDone status;
}

-- what code does from a start
abbrev pub of_run_code : Behaviour
of_run_code = record {
  most = INPUT;
  Output = λ text status out. (status ≡ Done) × (length text ≤ INPUT) × IsCodeRun HEXAGON text out;
  Ending = EndsDone;
  Fault = IsTooLong;
  Faultless = λ text. length text ≤ INPUT;
  Late = IsBadPart IsBadCodeRun;
  Good = λ text. (length text ≤ INPUT) × IsCodeInput text;
  EndsWell = λ text status. IsDone status;
}

-- the answer to a report
abbrev pub of_check : Behaviour
of_check = record {
  most = INPUT;
  Output = λ text status out. (length text ≤ INPUT) × IsCheck text status out;
  Ending = EndsCheck;
  Fault = IsPartFault;
  Faultless = HasNoPartFault;
  Late = IsBadPart IsBadCheck;
  Good = λ text. (length text ≤ INPUT) × IsCheckInput text;
  EndsWell = λ text status. IsChecked status;
}

-- the report of a function, by a search from the numbers of a schedule of any length on
abbrev pub of_improve : SearchOptions → Behaviour
of_improve o = record {
  most = INPUT;
  Output = λ text status out. (length text ≤ INPUT) × IsImprovement (table_of LAST) (model_options o) o.nodes text status out;
  Ending = EndsImprove;
  Fault = IsPartFault;
  Faultless = HasNoPartFault;
  Late = IsBadPart IsBadNumbers;
  Good = λ text. (length text ≤ INPUT) × IsNumbersInput text;
  EndsWell = λ text status. IsChecked status;
}

-- whether a function has code below a limit
abbrev pub of_refute : ℕ → SearchOptions → Behaviour
of_refute limit o = record {
  most = TEXT;
  Output = λ text status out. IsRefuting (table_of LAST) (model_options o) o.nodes limit text status out;
  Ending = EndsRefute;
  Fault = IsFault;
  Faultless = λ text. (f : Function) × IsRead text f;
  Late = NoneLate;
  Good = λ text. (f : Function) × IsRead text f;
  EndsWell = λ text status. IsRefuteEnd status;
}

-- the answer to a refutation
abbrev pub of_refutation : Behaviour
of_refutation = record {
  most = INPUT;
  Output = λ text status out. (length text ≤ INPUT) × IsRefutationCheck (table_of LAST) text status out;
  Ending = EndsCheck;
  Fault = IsPartFault;
  Faultless = HasNoPartFault;
  Late = IsBadPart IsBadRefutation;
  Good = λ text. (length text ≤ INPUT) × IsRefutationInput text;
  EndsWell = λ text status. IsChecked status;
}

-- the log of a report's tree
abbrev pub of_steps : Bool → Behaviour
of_steps counts = record {
  most = INPUT;
  Output = λ text status out. (length text ≤ INPUT) × IsSteps counts text status out;
  Ending = EndsCheck;
  Fault = IsPartFault;
  Faultless = HasNoPartFault;
  Late = IsLateSteps counts;
  Good = λ text. (length text ≤ INPUT) × IsCheckInput text;
  EndsWell = λ text status. IsLogEnd status;
}

-- the answer to a log
abbrev pub of_steps_check : Bool → Behaviour
of_steps_check counts = record {
  most = INPUT;
  Output = λ text status out. (length text ≤ INPUT) × IsStepsCheck counts text status out;
  Ending = EndsCheck;
  Fault = IsPartFault;
  Faultless = HasNoPartFault;
  Late = IsLateStepsCheck counts;
  Good = λ text. (length text ≤ INPUT) × IsLogInput text;
  EndsWell = λ text status. IsJudgeEnd status;
}

-- ---- the same by a table that is a part of the input

abbrev pub of_alloc_table : SearchOptions → Behaviour
of_alloc_table o = record {
  most = INPUT;
  Output = λ text status out. (length text ≤ INPUT) × IsTableReport (model_options o) o.nodes text status out;
  Ending = EndsSearch;
  Fault = IsPartFault;
  Faultless = HasNoPartFault;
  Late = IsLateReport;
  Good = λ text. (length text ≤ INPUT) × IsFunctionTable text;
  EndsWell = λ text status. IsSearched status
      × (((f : Function) → IsRead (first_part text) f → AreRoomyFor f (model_options o)) → IsDone status);
}

abbrev pub of_check_table : Behaviour
of_check_table = record {
  most = INPUT;
  Output = λ text status out. (length text ≤ INPUT) × IsTableCheck text status out;
  Ending = EndsCheck;
  Fault = IsPartFault;
  Faultless = HasNoPartFault;
  Late = IsLateCheck;
  Good = λ text. (length text ≤ INPUT) × IsTableCheckInput text;
  EndsWell = λ text status. IsChecked status;
}

abbrev pub of_run_code_table : Behaviour
of_run_code_table = record {
  most = INPUT;
  Output = λ text status out. (status ≡ Done) × (length text ≤ INPUT) × IsTableRun text out;
  Ending = EndsDone;
  Fault = IsTooLong;
  Faultless = λ text. length text ≤ INPUT;
  Late = IsLateRun;
  Good = λ text. (length text ≤ INPUT) × IsTableRunInput text;
  EndsWell = λ text status. IsDone status;
}

abbrev pub behaviour_of : ReadingCommand → Behaviour
behaviour_of (Alloc o) = of_alloc o
behaviour_of Run = of_run
behaviour_of RunCode = of_run_code
behaviour_of Check = of_check
behaviour_of (Improve o) = of_improve o
behaviour_of (AllocTable o) = of_alloc_table o
behaviour_of CheckTable = of_check_table
behaviour_of RunCodeTable = of_run_code_table
behaviour_of (Refute limit o) = of_refute limit o
behaviour_of RefuteCheck = of_refutation
behaviour_of (Steps counts) = of_steps counts
behaviour_of (StepsCheck counts) = of_steps_check counts

-- ---- the commands without one

-- what such a command puts out, and how a run ends that writes it whole
abbrev pub IsMade : MakingCommand → Status → List ℕ → Type 0
IsMade (Generate seed size) status out = (status ≡ Done) × IsGeneratedText seed size out
IsMade (GenerateAlloc seed size nodes) status out = IsGeneratedReport seed size nodes status out

-- ---- all commands

-- what a command puts out, over a text where it reads one, and how a run ends that writes it whole
abbrev pub IsOutput : Command → List ℕ → Status → List ℕ → Type 0
IsOutput (Reads command) text status out = (behaviour_of command).Output text status out
IsOutput (Makes command) text status out = IsMade command status out

-- how such runs end
abbrev pub Ends : Command → Status → Type 0
Ends (Reads command) status = (behaviour_of command).Ending status
Ends (Makes command) status = EndsDone status
