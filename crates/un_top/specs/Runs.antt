-- What a run of the program leaves on `out` and `err`.
use Rattle.std.specs.Prelude.{ℕ, ◌≡◌, ◌⊎◌, List, [], ◌∷◌, codes}
use Rattle.std.specs.Prelude.{IfSome}
use Rattle.std.specs.declared.option.Option.{Option}
use Rattle.std.specs.List.{concat}
use Rattle.std.specs.Fmt.{decimal}
use Rattle.std.specs.Io.KnownBytes.{Appends}
use Rattle.un_commands.specs.Commands.{IsCommand, IsBadWord}
use Rattle.un_commands.specs.declared.command.Command.{Command}
use Rattle.un_commands.specs.declared.command.Command.TheVariants.{Reads}
use Rattle.un_commands.specs.declared.command.ReadingCommand.{ReadingCommand}
use Rattle.un_faults.specs.Codes.{fault_name}
use Rattle.un_outside.specs.Causes.{Rose, AppendsPrefix}
use Rattle.un_outside.specs.declared.status.Status.{Status}
use Rattle.un_outside.specs.declared.status.Status.TheVariants.{Done, Infeasible, Spent, TextFault, Usage, ReadFault, WriteFault, NoMemory, No}
use Rattle.un_outside.specs.declared.status.Status.TheVariants.{BadReport, BadTable, Found, Cut, NoLog, BadSteps}
use Rattle.un_runs.specs.declared.refused.Refused.{Refused}
use Rattle.un_runs.specs.declared.refused.Refused.TheVariants as RefusedBy
use Rattle.un_target.specs.Causes.{table_fault_name}
use Rattle.un_top.specs.Behaviours.{Behaviour, behaviour_of, IsOutput, Ends}

-- ---- answers

-- the output was written whole
abbrev pub IsWritten : Status → Type 0
IsWritten Done = Unit {0}
IsWritten Infeasible = Unit {0}
IsWritten Spent = Unit {0}
IsWritten (No cause) = Unit {0}
IsWritten (Found cost) = Unit {0}
IsWritten Cut = Unit {0}
IsWritten _ = ⊥

-- the answers that come of what a command reads behind its function
abbrev pub IsLate : Status → Type 0
IsLate (BadReport line) = Unit {0}
IsLate (BadTable code) = Unit {0}
IsLate (NoLog node) = Unit {0}
IsLate (BadSteps line) = Unit {0}
IsLate _ = ⊥

-- the answers that come of a whole input
abbrev pub IsOfWhole : Status → Type 0
IsOfWhole status = IsWritten status ⊎ IsLate status

-- the answers before anything is written
abbrev pub IsRefusal : Status → Type 0
IsRefusal (TextFault line code) = Unit {0}
IsRefusal (Usage place) = Unit {0}
IsRefusal ReadFault = Unit {0}
IsRefusal NoMemory = Unit {0}
IsRefusal status = IsLate status

-- how a run of the program ends where there is no outcome
abbrev pub status_by : Refused → Status
status_by RefusedBy.NoMemory = NoMemory
status_by (RefusedBy.TextFault line code) = TextFault line code
status_by (RefusedBy.BadSecond line) = BadReport line

-- ---- by what a command does with an input

-- why nothing is put out over a text
abbrev pub RefusesText : Behaviour → List ℕ → Status → Type 0
RefusesText b text (TextFault line code) = b.Fault text line code
RefusesText b text NoMemory = Unit {0}
RefusesText b text status = b.Late text status

-- why nothing is put out over what a source gives, where that tells its bytes, whose count of faults was and is now so
abbrev pub Refuses : Behaviour → Option (List ℕ) → ℕ → ℕ → Status → Type 0
Refuses b told before now (TextFault line code) = IfSome told (λ text. b.Fault text line code)
Refuses b told before now ReadFault = Rose before now
Refuses b told before now NoMemory = Unit {0}
Refuses b told before now status = IsLate status × IfSome told (λ text. b.Late text status)

-- ---- by words

-- the words are those of a command, and this is its output over a text
pub record IsOutputOf (words : List (List ℕ)) (text : List ℕ) (status : Status) (out : List ℕ) : Type 0 where
  pub command : Command
  pub asked : IsCommand words command
  pub output : IsOutput command text status out

-- they are those of a command whose output ends a run so
pub record EndsSo (words : List (List ℕ)) (status : Status) : Type 0 where
  pub command : Command
  pub asked : IsCommand words command
  pub ends : Ends command status

-- this is the fault of what it reads
pub record IsFaultOf (words : List (List ℕ)) (text : List ℕ) (line code : ℕ) : Type 0 where
  pub command : ReadingCommand
  pub asked : IsCommand words (Reads command)
  pub fault : (behaviour_of command).Fault text line code

-- this is its answer where what it reads behind its function is refused
pub record IsLateOf (words : List (List ℕ)) (text : List ℕ) (status : Status) : Type 0 where
  pub command : ReadingCommand
  pub asked : IsCommand words (Reads command)
  pub late : (behaviour_of command).Late text status

-- why words put nothing out
abbrev pub RefusesWords : List (List ℕ) → Option (List ℕ) → ℕ → ℕ → Status → Type 0
RefusesWords words told before now (Usage place) = IsBadWord words place
RefusesWords words told before now (TextFault line code) = IfSome told (λ text. IsFaultOf words text line code)
RefusesWords words told before now ReadFault = Rose before now
RefusesWords words told before now NoMemory = Unit {0}
RefusesWords words told before now status = IsLate status × IfSome told (λ text. IsLateOf words text status)

-- ---- what a run leaves

-- `out` grew by the output of a run that ends so
abbrev pub Outputs : Status → List (List ℕ) → List ℕ → Option (List ℕ) → Option (List ℕ) → Type 0
Outputs status words text old new = (out : List ℕ) × IsOutputOf words text status out × Appends old new out

-- what `out` holds after a run over these words and this text: the output of the command where it was written whole, a prefix of it
-- after a fault of writing
abbrev pub OutAfter : Status → List (List ℕ) → List ℕ → Option (List ℕ) → Option (List ℕ) → Type 0
OutAfter Done words text old new = Outputs Done words text old new
OutAfter Infeasible words text old new = Outputs Infeasible words text old new
OutAfter Spent words text old new = Outputs Spent words text old new
OutAfter (No cause) words text old new = Outputs (No cause) words text old new
OutAfter (Found cost) words text old new = Outputs (Found cost) words text old new
OutAfter Cut words text old new = Outputs Cut words text old new
OutAfter WriteFault words text old new =
    (status : Status) × (out : List ℕ) × IsOutputOf words text status out × AppendsPrefix old new out
OutAfter _ words text old new = new ≡ old

-- an output was written whole, with its own status, or a prefix of it with a fault of writing
abbrev pub Wrote : Status → List ℕ → Status → Option (List ℕ) → Option (List ℕ) → Type 0
Wrote own text status old new =
    ((status ≡ own) × Appends old new text) ⊎ ((status ≡ WriteFault) × AppendsPrefix old new text)

-- the statuses that come of no output leave `out` as it was
abbrev pub KeepsOut : Status → Option (List ℕ) → Option (List ℕ) → Type 0
KeepsOut Done old new = Unit {0}
KeepsOut Infeasible old new = Unit {0}
KeepsOut Spent old new = Unit {0}
KeepsOut (No cause) old new = Unit {0}
KeepsOut (Found cost) old new = Unit {0}
KeepsOut Cut old new = Unit {0}
KeepsOut WriteFault old new = Unit {0}
KeepsOut _ old new = new ≡ old

-- a run over an input with a fault at this line and of this code answers it, unless the words, the source or want of memory
-- stood before
abbrev pub AnswersFault : Status → ℕ → ℕ → Type 0
AnswersFault (TextFault l c) line code = (l ≡ line) × (c ≡ code)
AnswersFault (Usage place) line code = Unit {0}
AnswersFault ReadFault line code = Unit {0}
AnswersFault NoMemory line code = Unit {0}
AnswersFault _ line code = ⊥

-- a run over an input with this late answer has it, unless the source or want of memory stood before
abbrev pub AnswersLate : Status → Status → Type 0
AnswersLate ReadFault late = Unit {0}
AnswersLate NoMemory late = Unit {0}
AnswersLate status late = status ≡ late

-- an input without a fault is refused with none
abbrev pub AnswersAccepted : Status → Type 0
AnswersAccepted (TextFault line code) = ⊥
AnswersAccepted _ = Unit {0}

-- a run whose output is written whole ends as its command does
abbrev pub IsAnswer : List (List ℕ) → Status → Type 0
IsAnswer words status = IsWritten status → EndsSo words status

abbrev pub table_line : ℕ → List ℕ
table_line code = concat (codes "bad table: " ∷ decimal code ∷ codes " " ∷ table_fault_name code ∷ codes "\n" ∷ [])

-- a text, a number and a line feed
abbrev pub numbered : List ℕ → ℕ → List ℕ
numbered before number = concat (before ∷ decimal number ∷ codes "\n" ∷ [])

abbrev pub fault_line : ℕ → ℕ → List ℕ
fault_line line code =
    concat (codes "line " ∷ decimal line ∷ codes ": " ∷ decimal code ∷ codes " " ∷ fault_name code ∷ codes "\n" ∷ [])

-- the line on `err` for a status: none where the output was written
abbrev pub line_of : Status → List ℕ
line_of Done = []
line_of Infeasible = []
line_of Spent = []
line_of (TextFault line code) = fault_line line code
line_of (Usage place) = numbered (codes "usage: word ") place
line_of ReadFault = codes "read fault\n"
line_of WriteFault = codes "write fault\n"
line_of NoMemory = codes "no memory\n"
line_of (No cause) = []
line_of (Found cost) = []
line_of Cut = []
line_of (BadReport line) = numbered (codes "bad report: line ") line
line_of (BadTable code) = table_line code
line_of (NoLog node) = numbered (codes "no log: node ") node
line_of (BadSteps line) = numbered (codes "bad steps: line ") line
