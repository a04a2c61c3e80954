-- What the answers before writing say of the answer of a run.
use Rattle.std.proofs.Common.{ℕ, ◌≡◌, ◌<◌, ◌⊎◌, inl, inr, List, [], append-nil, length, subst, refl, sym, ◌∙◌}
use Rattle.std.specs.declared.option.Option.{Option}
use Rattle.std.specs.declared.option.Option.TheVariants.{Some, None}
use Rattle.std.specs.declared.result.Result.{Result}
use Rattle.std.specs.declared.result.Result.TheVariants.{Ok, Err}
use Rattle.std.specs.Option.{IfSome}
use Rattle.std.specs.Io.KnownBytes.{Appends}
use Rattle.std.specs.Result.{IfErr, IfOk, OnErr, OnOk}
use Rattle.un_outside.specs.Causes.{AppendsPrefix}
use Rattle.un_outside.specs.declared.status.Status.{Status}
use Rattle.un_outside.specs.declared.status.Status.TheVariants.{Done, Infeasible, Spent, TextFault, Usage, ReadFault, WriteFault, NoMemory, No}
use Rattle.un_outside.specs.declared.status.Status.TheVariants.{BadReport, BadTable, Found, Cut, NoLog, BadSteps}
use Rattle.un_commands.proofs.CommandLaws.{one_command}
use Rattle.un_commands.proofs.WordLaws.{command_is_good}
use Rattle.un_commands.specs.Commands.{IsCommand}
use Rattle.un_commands.specs.declared.command.Command.{Command}
use Rattle.un_commands.specs.declared.command.Command.TheVariants.{Reads, Makes}
use Rattle.un_commands.specs.declared.command.MakingCommand.{MakingCommand}
use Rattle.un_commands.specs.declared.command.MakingCommand.TheVariants.{Generate, GenerateAlloc}
use Rattle.un_commands.specs.declared.command.ReadingCommand.{ReadingCommand}
use Rattle.un_top.specs.declared.output.Output.{Output}
use Rattle.un_top.specs.Behaviours.{Behaviour, behaviour_of, IsDone, IsMade, IsOutput}
use Rattle.un_top.specs.Runs.{IsFaultOf, IsLateOf, IsOutputOf, EndsSo, AnswersFault, AnswersLate, AnswersAccepted, IsAnswer}
use Rattle.un_top.specs.Runs.{RefusesText, Refuses, RefusesWords}
use Rattle.un_top.specs.Runs.{IsRefusal, IsWritten, IsLate, IsOfWhole, Wrote, KeepsOut, OutAfter}
use Rattle.un_top.proofs.Lawful.{IsLawful, lawful}

-- an input that is too long has its fault
pub too_long_by : (told : Option (List ℕ)) (command : ReadingCommand) (max : ℕ) → max ≡ (behaviour_of command).most
    → IfSome told (λ (bs : List ℕ). max < length bs) → IfSome told (λ (text : List ℕ). (behaviour_of command).Fault text 0 13)
too_long_by None command max most h = tt
too_long_by (Some text) command max most h =
    let laws = lawful command in laws.too_long text (subst (λ (n : ℕ). n < length text) most h)

-- ---- from the text that was read to the source, and from the command to its words

-- what a command puts out over the text that was read is that over the source's
pub over_told : (told : Option (List ℕ)) (b : Behaviour) (text items : List ℕ) (outcome : Result Output Status) → text ≡ items
    → IfSome told (λ (bs : List ℕ). items ≡ bs) → IfOk outcome (λ out. b.Output text out.status out.text.items)
    → IfOk outcome (λ out. IfSome told (λ (bs : List ℕ). b.Output bs out.status out.text.items))
over_told told b text items (Err e) same is h = tt
over_told None b text items (Ok out) same is h = tt
over_told (Some bs) b text items (Ok out) same is h = subst (λ (t : List ℕ). b.Output t out.status out.text.items) (same ∙ is) h

-- an answer that comes of what stands behind a function
late_told : (told : Option (List ℕ)) (b : Behaviour) (laws : IsLawful b) (text : List ℕ) (s : Status)
    → IfSome told (λ (bs : List ℕ). text ≡ bs) → b.Late text s → IsLate s × IfSome told (λ (bs : List ℕ). b.Late bs s)
late_told None b laws text s is h = (laws.is_late text s h, tt)
late_told (Some bs) b laws text s is h = (laws.is_late text s h, subst (λ (t : List ℕ). b.Late t s) is h)

fault_told : (told : Option (List ℕ)) (b : Behaviour) (text : List ℕ) (l c : ℕ) → IfSome told (λ (bs : List ℕ). text ≡ bs)
    → b.Fault text l c → IfSome told (λ (bs : List ℕ). b.Fault bs l c)
fault_told None b text l c is h = tt
fault_told (Some bs) b text l c is h = subst (λ (t : List ℕ). b.Fault t l c) is h

refuses_told : (told : Option (List ℕ)) (b : Behaviour) (laws : IsLawful b) (text : List ℕ) (before now : ℕ) (s : Status)
    → IfSome told (λ (bs : List ℕ). text ≡ bs) → RefusesText b text s → Refuses b told before now s
refuses_told told b laws text before now Done is h = late_told told b laws text Done is h
refuses_told told b laws text before now Infeasible is h = late_told told b laws text Infeasible is h
refuses_told told b laws text before now Spent is h = late_told told b laws text Spent is h
refuses_told told b laws text before now (TextFault l c) is h = fault_told told b text l c is h
refuses_told told b laws text before now (Usage place) is h = late_told told b laws text (Usage place) is h
refuses_told told b laws text before now ReadFault is h = absurd (laws.is_late text ReadFault h)
refuses_told told b laws text before now WriteFault is h = late_told told b laws text WriteFault is h
refuses_told told b laws text before now NoMemory is h = tt
refuses_told told b laws text before now (No cause) is h = late_told told b laws text (No cause) is h
refuses_told told b laws text before now (Found cost) is h = late_told told b laws text (Found cost) is h
refuses_told told b laws text before now Cut is h = late_told told b laws text Cut is h
refuses_told told b laws text before now (BadReport l) is h = late_told told b laws text (BadReport l) is h
refuses_told told b laws text before now (BadTable c) is h = late_told told b laws text (BadTable c) is h
refuses_told told b laws text before now (NoLog i) is h = late_told told b laws text (NoLog i) is h
refuses_told told b laws text before now (BadSteps n) is h = late_told told b laws text (BadSteps n) is h

pub refused_told : (told : Option (List ℕ)) (command : ReadingCommand) (text items : List ℕ) (before now : ℕ) (outcome : Result Output Status)
    → text ≡ items → IfSome told (λ (bs : List ℕ). items ≡ bs) → IfErr outcome (RefusesText (behaviour_of command) text)
    → IfErr outcome (Refuses (behaviour_of command) told before now)
refused_told told command text items before now (Ok out) same is h = tt
refused_told told command text items before now (Err s) same is h =
    refuses_told told (behaviour_of command) (lawful command) text before now s (read_as told text items same is) h
  where
    read_as : (told : Option (List ℕ)) (text items : List ℕ) → text ≡ items → IfSome told (λ (bs : List ℕ). items ≡ bs)
        → IfSome told (λ (bs : List ℕ). text ≡ bs)
    read_as None text items same is = tt
    read_as (Some bs) text items same is = same ∙ is

-- what comes of a later part of an input comes after its end
pub late_ends : (outcome : Result Output Status) (P : Type 0) → P → IfErr outcome (λ s. IsLate s → P)
late_ends (Ok out) P at = tt
late_ends (Err s) P at = λ late. at

-- the output of a command by its words
pub output_by : (words : List (List ℕ)) (command : ReadingCommand) (told : Option (List ℕ)) (outcome : Result Output Status)
    → IsCommand words (Reads command)
    → IfOk outcome (λ out. IfSome told (λ (text : List ℕ). (behaviour_of command).Output text out.status out.text.items))
    → IfOk outcome (λ out. IfSome told (λ (text : List ℕ). IsOutputOf words text out.status out.text.items))
output_by words command told (Err s) asked h = tt
output_by words command None (Ok out) asked h = tt
output_by words command (Some text) (Ok out) asked h = record { command = Reads command; asked = asked; output = h }

-- of one that reads nothing, over whatever text
pub made_by : (words : List (List ℕ)) (command : MakingCommand) (outcome : Result Output Status) → IsCommand words (Makes command)
    → IfOk outcome (λ out. IsMade command out.status out.text.items)
    → IfOk outcome (λ out. (text : List ℕ) → IsOutputOf words text out.status out.text.items)
made_by words command (Ok out) asked h = λ text. record { command = Makes command; asked = asked; output = h }
made_by words command (Err s) asked h = tt

pub made_over : (words : List (List ℕ)) (outcome : Result Output Status) (text : List ℕ)
    → IfOk outcome (λ out. (text : List ℕ) → IsOutputOf words text out.status out.text.items)
    → IfOk outcome (λ out. IsOutputOf words text out.status out.text.items)
made_over words (Ok out) text h = h text
made_over words (Err s) text h = tt

pub made_told : (words : List (List ℕ)) (told : Option (List ℕ)) (outcome : Result Output Status)
    → IfOk outcome (λ out. (text : List ℕ) → IsOutputOf words text out.status out.text.items)
    → IfOk outcome (λ out. IfSome told (λ (text : List ℕ). IsOutputOf words text out.status out.text.items))
made_told words told (Err s) h = tt
made_told words None (Ok out) h = tt
made_told words (Some text) (Ok out) h = h text

late_by : (words : List (List ℕ)) (command : ReadingCommand) (told : Option (List ℕ)) (s : Status) → IsCommand words (Reads command)
    → IsLate s × IfSome told (λ (text : List ℕ). (behaviour_of command).Late text s)
    → IsLate s × IfSome told (λ (text : List ℕ). IsLateOf words text s)
late_by words command None s asked h = (h.0, tt)
late_by words command (Some text) s asked h = (h.0, record { command = command; asked = asked; late = h.1 })

fault_by : (words : List (List ℕ)) (command : ReadingCommand) (told : Option (List ℕ)) (l c : ℕ) → IsCommand words (Reads command)
    → IfSome told (λ (text : List ℕ). (behaviour_of command).Fault text l c) → IfSome told (λ (text : List ℕ). IsFaultOf words text l c)
fault_by words command None l c asked h = tt
fault_by words command (Some text) l c asked h = record { command = command; asked = asked; fault = h }

refuses_by : (words : List (List ℕ)) (command : ReadingCommand) (told : Option (List ℕ)) (before now : ℕ) (s : Status)
    → IsCommand words (Reads command) → Refuses (behaviour_of command) told before now s → RefusesWords words told before now s
refuses_by words command told before now Done asked h = late_by words command told Done asked h
refuses_by words command told before now Infeasible asked h = late_by words command told Infeasible asked h
refuses_by words command told before now Spent asked h = late_by words command told Spent asked h
refuses_by words command told before now (TextFault l c) asked h = fault_by words command told l c asked h
refuses_by words command told before now (Usage place) asked h = absurd h.0
refuses_by words command told before now ReadFault asked h = h
refuses_by words command told before now WriteFault asked h = late_by words command told WriteFault asked h
refuses_by words command told before now NoMemory asked h = tt
refuses_by words command told before now (No cause) asked h = late_by words command told (No cause) asked h
refuses_by words command told before now (Found cost) asked h = late_by words command told (Found cost) asked h
refuses_by words command told before now Cut asked h = late_by words command told Cut asked h
refuses_by words command told before now (BadReport l) asked h = late_by words command told (BadReport l) asked h
refuses_by words command told before now (BadTable c) asked h = late_by words command told (BadTable c) asked h
refuses_by words command told before now (NoLog i) asked h = late_by words command told (NoLog i) asked h
refuses_by words command told before now (BadSteps n) asked h = late_by words command told (BadSteps n) asked h

pub refused_by : (words : List (List ℕ)) (command : ReadingCommand) (told : Option (List ℕ)) (before now : ℕ) (outcome : Result Output Status)
    → IsCommand words (Reads command) → IfErr outcome (Refuses (behaviour_of command) told before now)
    → IfErr outcome (RefusesWords words told before now)
refused_by words command told before now (Ok out) asked h = tt
refused_by words command told before now (Err s) asked h = refuses_by words command told before now s asked h

short_by : (words : List (List ℕ)) (told : Option (List ℕ)) (before now : ℕ) (s : Status) → s ≡ NoMemory
    → RefusesWords words told before now s
short_by words told before now s e = subst (RefusesWords words told before now) (sym e) tt

-- a command that reads nothing is refused for want of memory alone
pub short_words : (words : List (List ℕ)) (told : Option (List ℕ)) (before now : ℕ) (outcome : Result Output Status)
    → IfErr outcome (λ s. s ≡ NoMemory) → IfErr outcome (RefusesWords words told before now)
short_words words told before now (Ok out) h = tt
short_words words told before now (Err s) h = short_by words told before now s h

-- words are those of one command
pub other_kind : (words : List (List ℕ)) (a : ReadingCommand) (b : MakingCommand) → IsCommand words (Reads a) → IsCommand words (Makes b) → ⊥
other_kind words a b x y = cc (one_command words (Reads a) (Makes b) x y)

-- ---- how outputs end a run

reading_ends : (command : ReadingCommand) (outcome : Result Output Status)
    → (text : List ℕ) → IfOk outcome (λ out. (behaviour_of command).Output text out.status out.text.items)
    → IfOk outcome (λ out. (behaviour_of command).Ending out.status)
reading_ends command (Ok out) text h = let laws = lawful command in laws.ends text out.status out.text.items h
reading_ends command (Err s) text h = tt

pub ends_ok : (command : ReadingCommand) (text : List ℕ) (outcome : Result Output Status)
    → IfOk outcome (λ out. (behaviour_of command).Output text out.status out.text.items)
    → IfOk outcome (λ out. (behaviour_of command).Ending out.status)
ends_ok command text outcome h = reading_ends command outcome text h

pub reading_so : (words : List (List ℕ)) (command : ReadingCommand) (outcome : Result Output Status) → IsCommand words (Reads command)
    → IfOk outcome (λ out. (behaviour_of command).Ending out.status) → IfOk outcome (λ out. EndsSo words out.status)
reading_so words command (Ok out) asked h = record { command = Reads command; asked = asked; ends = h }
reading_so words command (Err s) asked h = tt

-- a command that reads nothing ends so where its output is written whole
made_done : (command : MakingCommand) (status : Status) (out : List ℕ) → IsMade command status out → status ≡ Done
made_done (Generate seed size) status out h = h.0
made_done (GenerateAlloc seed size nodes) status out h = h.done

pub making_so : (words : List (List ℕ)) (command : MakingCommand) (outcome : Result Output Status) → IsCommand words (Makes command)
    → IfOk outcome (λ out. IsMade command out.status out.text.items) → IfOk outcome (λ out. EndsSo words out.status)
making_so words command (Ok out) asked h =
    record { command = Makes command; asked = asked; ends = made_done command out.status out.text.items h }
making_so words command (Err s) asked h = tt

-- a run of such a command ends so, or writing failed, or there was no memory
made_output : (words : List (List ℕ)) (command : MakingCommand) (output : Command) (text : List ℕ) (status : Status) (out : List ℕ)
    → IsCommand words (Makes command) → IsCommand words output → IsOutput output text status out → status ≡ Done
made_output words command (Makes own) text status out asked is h = made_done own status out h
made_output words command (Reads own) text status out asked is h = absurd (other_kind words own command is asked)

pub made_well : (words : List (List ℕ)) (command : MakingCommand) (outcome : Result Output Status) (status : Status)
    (old new : Option (List ℕ)) → IsCommand words (Makes command)
    → IfOk outcome (λ out. (text : List ℕ) → IsOutputOf words text out.status out.text.items) → IfErr outcome (λ s. s ≡ NoMemory)
    → IfErr outcome (λ e. status ≡ e) → IfOk outcome (λ o. Wrote o.status o.text.items status old new)
    → (status ≡ WriteFault) ⊎ IsDone status
made_well words command (Ok out) status old new asked made short e (inl whole) =
    let o = made [] in
    let done = made_output words command o.command [] out.status out.text.items asked o.asked o.output in
    inr (subst IsDone (sym (whole.0 ∙ done)) tt)
made_well words command (Ok out) status old new asked made short e (inr half) = inl half.0
made_well words command (Err s) status old new asked made short e wrote = inr (subst IsDone (sym (e ∙ short)) tt)

-- ---- what a refusal says

is_refusal : (words : List (List ℕ)) (told : Option (List ℕ)) (before now : ℕ) (s : Status) → RefusesWords words told before now s
    → IsRefusal s
is_refusal words told before now Done h = h.0
is_refusal words told before now Infeasible h = h.0
is_refusal words told before now Spent h = h.0
is_refusal words told before now (TextFault l c) h = tt
is_refusal words told before now (Usage place) h = tt
is_refusal words told before now ReadFault h = tt
is_refusal words told before now WriteFault h = h.0
is_refusal words told before now NoMemory h = tt
is_refusal words told before now (No cause) h = h.0
is_refusal words told before now (Found cost) h = h.0
is_refusal words told before now Cut h = h.0
is_refusal words told before now (BadReport l) h = h.0
is_refusal words told before now (BadTable c) h = h.0
is_refusal words told before now (NoLog i) h = h.0
is_refusal words told before now (BadSteps n) h = h.0

pub only_of : (words : List (List ℕ)) (told : Option (List ℕ)) (before now : ℕ) (outcome : Result Output Status)
    → IfErr outcome (RefusesWords words told before now) → IfErr outcome IsRefusal
only_of words told before now (Ok out) h = tt
only_of words told before now (Err s) h = is_refusal words told before now s h

pub refusal_at : (outcome : Result Output Status) (s : Status) (P : Status → Type 0) → IfErr outcome P → outcome ≡ Err s → P s
refusal_at (Ok out) s P h e = absurd (cc e)
refusal_at (Err x) s P h e = let same : x ≡ s = cc e in subst P same h

-- ---- by words, which are those of one command

same_reading : (words : List (List ℕ)) (a b : ReadingCommand) → IsCommand words (Reads a) → IsCommand words (Reads b) → a ≡ b
same_reading words a b x y = let same : Reads a ≡ Reads b = one_command words (Reads a) (Reads b) x y in cc

pub fault_as : (words : List (List ℕ)) (command : ReadingCommand) (text : List ℕ) (line code : ℕ) → IsCommand words (Reads command)
    → IsFaultOf words text line code → (behaviour_of command).Fault text line code
fault_as words command text line code asked h =
    subst (λ (k : ReadingCommand). (behaviour_of k).Fault text line code) (same_reading words h.command command h.asked asked) h.fault

pub late_as : (words : List (List ℕ)) (command : ReadingCommand) (text : List ℕ) (s : Status) → IsCommand words (Reads command)
    → IsLateOf words text s → (behaviour_of command).Late text s
late_as words command text s asked h =
    subst (λ (k : ReadingCommand). (behaviour_of k).Late text s) (same_reading words h.command command h.asked asked) h.late

reading_as : (words : List (List ℕ)) (command : ReadingCommand) (text : List ℕ) (status : Status) (out : List ℕ) (own : Command)
    → IsCommand words (Reads command) → IsCommand words own → IsOutput own text status out → (behaviour_of command).Output text status out
reading_as words command text status out (Reads own) asked is h =
    subst (λ (k : ReadingCommand). (behaviour_of k).Output text status out) (same_reading words own command is asked) h
reading_as words command text status out (Makes own) asked is h = absurd (other_kind words command own asked is)

pub output_as : (words : List (List ℕ)) (command : ReadingCommand) (text : List ℕ) (status : Status) (out : List ℕ)
    → IsCommand words (Reads command) → IsOutputOf words text status out → (behaviour_of command).Output text status out
output_as words command text status out asked h = reading_as words command text status out h.command asked h.asked h.output

-- an output has neither a fault nor a late answer beside it
output_fault : (words : List (List ℕ)) (text : List ℕ) (line code : ℕ) (command : Command) (status : Status) (out : List ℕ)
    → IsCommand words command → IsOutput command text status out → IsFaultOf words text line code → ⊥
output_fault words text line code (Reads command) status out asked h f =
    let laws = lawful command in laws.output_fault text status out line code h (fault_as words command text line code asked f)
output_fault words text line code (Makes command) status out asked h f = other_kind words f.command command f.asked asked

output_late : (words : List (List ℕ)) (text : List ℕ) (late : Status) (command : Command) (status : Status) (out : List ℕ)
    → IsCommand words command → IsOutput command text status out → IsLateOf words text late → ⊥
output_late words text late (Reads command) status out asked h l =
    let laws = lawful command in laws.output_late text status out late h (late_as words command text late asked l)
output_late words text late (Makes command) status out asked h l = other_kind words l.command command l.asked asked

pub one_fault_of : (words : List (List ℕ)) (text : List ℕ) (l c line code : ℕ) → IsFaultOf words text l c → IsFaultOf words text line code
    → (l ≡ line) × (c ≡ code)
one_fault_of words text l c line code a b =
    let laws = lawful a.command in laws.one_fault text l c line code a.fault (fault_as words a.command text line code a.asked b)

late_fault : (words : List (List ℕ)) (text : List ℕ) (s : Status) (line code : ℕ) → IsLateOf words text s → IsFaultOf words text line code → ⊥
late_fault words text s line code l f =
    let laws = lawful l.command in laws.late_fault text s line code l.late (fault_as words l.command text line code l.asked f)

pub one_late_of : (words : List (List ℕ)) (text : List ℕ) (s t : Status) → IsLateOf words text s → IsLateOf words text t → s ≡ t
one_late_of words text s t a b = let laws = lawful a.command in laws.one_late text s t a.late (late_as words a.command text t a.asked b)

-- a status that is none of those of writing comes from before it
pub from_before : (outcome : Result Output Status) (status s : Status) (old new : Option (List ℕ)) → IfErr outcome (λ e. status ≡ e)
    → IfOk outcome (λ o. IsWritten o.status) → IfOk outcome (λ o. Wrote o.status o.text.items status old new) → status ≡ s
    → (IsWritten s → ⊥) → (s ≡ WriteFault → ⊥) → outcome ≡ Err s
from_before (Ok x) status s old new err own (inl done) e not_written not_write =
    absurd (not_written (subst IsWritten (sym done.0 ∙ e) own))
from_before (Ok x) status s old new err own (inr fault) e not_written not_write = absurd (not_write (sym e ∙ fault.0))
from_before (Err x) status s old new err own wrote e not_written not_write = let same : x ≡ s = sym err ∙ e in cc

-- a refusal before writing answers the input's fault
refused_fault : (words : List (List ℕ)) (text : List ℕ) (line code before now : ℕ) (s : Status)
    → RefusesWords words (Some text) before now s → IsFaultOf words text line code → AnswersFault s line code
refused_fault words text line code before now Done r h = absurd (late_fault words text Done line code r.1 h)
refused_fault words text line code before now Infeasible r h = absurd (late_fault words text Infeasible line code r.1 h)
refused_fault words text line code before now Spent r h = absurd (late_fault words text Spent line code r.1 h)
refused_fault words text line code before now (TextFault l c) r h = one_fault_of words text l c line code r h
refused_fault words text line code before now (Usage place) r h = tt
refused_fault words text line code before now ReadFault r h = tt
refused_fault words text line code before now WriteFault r h = absurd (late_fault words text WriteFault line code r.1 h)
refused_fault words text line code before now NoMemory r h = tt
refused_fault words text line code before now (No cause) r h = absurd (late_fault words text (No cause) line code r.1 h)
refused_fault words text line code before now (Found cost) r h = absurd (late_fault words text (Found cost) line code r.1 h)
refused_fault words text line code before now Cut r h = absurd (late_fault words text Cut line code r.1 h)
refused_fault words text line code before now (BadReport l) r h = absurd (late_fault words text (BadReport l) line code r.1 h)
refused_fault words text line code before now (BadTable c) r h = absurd (late_fault words text (BadTable c) line code r.1 h)
refused_fault words text line code before now (NoLog i) r h = absurd (late_fault words text (NoLog i) line code r.1 h)
refused_fault words text line code before now (BadSteps n) r h = absurd (late_fault words text (BadSteps n) line code r.1 h)

-- a run that wrote, or refused before it, answers the input's fault
pub answers_fault : (words : List (List ℕ)) (told : Option (List ℕ)) (before now : ℕ) (outcome : Result Output Status) (status : Status)
    → IfErr outcome (RefusesWords words told before now)
    → IfErr outcome (λ e. status ≡ e)
    → IfOk outcome (λ out. IfSome told (λ (text : List ℕ). IsOutputOf words text out.status out.text.items))
    → IfSome told (λ (text : List ℕ). (line code : ℕ) → IsFaultOf words text line code → AnswersFault status line code)
answers_fault words None before now outcome status r e o = tt
answers_fault words (Some text) before now (Ok out) status r e o = λ line code h.
    absurd (output_fault words text line code o.command out.status out.text.items o.asked o.output h)
answers_fault words (Some text) before now (Err s) status r e o = λ line code h.
    subst (λ (t : Status). AnswersFault t line code) (sym e) (refused_fault words text line code before now s r h)

-- a refusal before writing is the input's late answer
refused_late : (words : List (List ℕ)) (text : List ℕ) (before now : ℕ) (s late : Status) → RefusesWords words (Some text) before now s
    → IsLateOf words text late → AnswersLate s late
refused_late words text before now Done late r h = one_late_of words text Done late r.1 h
refused_late words text before now Infeasible late r h = one_late_of words text Infeasible late r.1 h
refused_late words text before now Spent late r h = one_late_of words text Spent late r.1 h
refused_late words text before now (TextFault l c) late r h = absurd (late_fault words text late l c h r)
refused_late words text before now (Usage place) late r h = absurd (command_is_good words (Reads h.command) place h.asked r)
refused_late words text before now ReadFault late r h = tt
refused_late words text before now WriteFault late r h = one_late_of words text WriteFault late r.1 h
refused_late words text before now NoMemory late r h = tt
refused_late words text before now (No cause) late r h = one_late_of words text (No cause) late r.1 h
refused_late words text before now (Found cost) late r h = one_late_of words text (Found cost) late r.1 h
refused_late words text before now Cut late r h = one_late_of words text Cut late r.1 h
refused_late words text before now (BadReport l) late r h = one_late_of words text (BadReport l) late r.1 h
refused_late words text before now (BadTable c) late r h = one_late_of words text (BadTable c) late r.1 h
refused_late words text before now (NoLog i) late r h = one_late_of words text (NoLog i) late r.1 h
refused_late words text before now (BadSteps n) late r h = one_late_of words text (BadSteps n) late r.1 h

-- a run that wrote, or refused before it, answers the input's late answer
pub answers_late : (words : List (List ℕ)) (told : Option (List ℕ)) (before now : ℕ) (outcome : Result Output Status) (status : Status)
    → IfErr outcome (RefusesWords words told before now)
    → IfErr outcome (λ e. status ≡ e)
    → IfOk outcome (λ out. IfSome told (λ (text : List ℕ). IsOutputOf words text out.status out.text.items))
    → IfSome told (λ (text : List ℕ). (late : Status) → IsLateOf words text late → AnswersLate status late)
answers_late words None before now outcome status r e o = tt
answers_late words (Some text) before now (Ok out) status r e o = λ late h.
    absurd (output_late words text late o.command out.status out.text.items o.asked o.output h)
answers_late words (Some text) before now (Err s) status r e o = λ late h.
    subst (λ (t : Status). AnswersLate t late) (sym e) (refused_late words text before now s late r h)

-- a late answer was refused before writing, and is the input's
late_refusal : (words : List (List ℕ)) (told : Option (List ℕ)) (before now : ℕ) (s : Status) → IsLate s
    → RefusesWords words told before now s → IfSome told (λ (text : List ℕ). IsLateOf words text s)
late_refusal words told before now Done late r = absurd late
late_refusal words told before now Infeasible late r = absurd late
late_refusal words told before now Spent late r = absurd late
late_refusal words told before now (TextFault l c) late r = absurd late
late_refusal words told before now (Usage place) late r = absurd late
late_refusal words told before now ReadFault late r = absurd late
late_refusal words told before now WriteFault late r = absurd late
late_refusal words told before now NoMemory late r = absurd late
late_refusal words told before now (No cause) late r = absurd late
late_refusal words told before now (Found cost) late r = absurd late
late_refusal words told before now Cut late r = absurd late
late_refusal words told before now (BadReport l) late r = r.1
late_refusal words told before now (BadTable c) late r = r.1
late_refusal words told before now (NoLog i) late r = r.1
late_refusal words told before now (BadSteps n) late r = r.1

not_late : (s : Status) → IsWritten s → IsLate s → ⊥
not_late Done w late = late
not_late Infeasible w late = late
not_late Spent w late = late
not_late (TextFault l c) w late = late
not_late (Usage place) w late = late
not_late ReadFault w late = late
not_late WriteFault w late = late
not_late NoMemory w late = late
not_late (No cause) w late = late
not_late (Found cost) w late = late
not_late Cut w late = late
not_late (BadReport l) w late = w
not_late (BadTable c) w late = w
not_late (NoLog i) w late = w
not_late (BadSteps n) w late = w

pub late_is : (words : List (List ℕ)) (told : Option (List ℕ)) (before now : ℕ) (outcome : Result Output Status) (status : Status)
    (old new : Option (List ℕ)) → IfErr outcome (RefusesWords words told before now) → IfErr outcome (λ e. status ≡ e)
    → IfOk outcome (λ o. IsWritten o.status) → IfOk outcome (λ o. Wrote o.status o.text.items status old new)
    → IsLate status → IfSome told (λ (text : List ℕ). IsLateOf words text status)
late_is words told before now (Ok out) status old new r e own (inl whole) late = absurd (not_late out.status own (subst IsLate whole.0 late))
late_is words told before now (Ok out) status old new r e own (inr half) late = absurd (let none : IsLate WriteFault = subst IsLate half.0 late in none)
late_is words told before now (Err s) status old new r e own w late =
    subst (λ (t : Status). IfSome told (λ (text : List ℕ). IsLateOf words text t)) (sym e)
    (late_refusal words told before now s (subst IsLate e late) r)

-- a status that tells a fault only where the input has one is no fault where it has none
accepted_by : (words : List (List ℕ)) (text : List ℕ) (command : ReadingCommand) (status : Status) → IsCommand words (Reads command)
    → (behaviour_of command).Faultless text → ((line code : ℕ) → status ≡ TextFault line code → IsFaultOf words text line code)
    → AnswersAccepted status
accepted_by words text command Done asked good told = tt
accepted_by words text command Infeasible asked good told = tt
accepted_by words text command Spent asked good told = tt
accepted_by words text command (TextFault l c) asked good told =
    let laws = lawful command in laws.no_fault text l c good (fault_as words command text l c asked (told l c refl))
accepted_by words text command (Usage place) asked good told = tt
accepted_by words text command ReadFault asked good told = tt
accepted_by words text command WriteFault asked good told = tt
accepted_by words text command NoMemory asked good told = tt
accepted_by words text command (No cause) asked good told = tt
accepted_by words text command (Found cost) asked good told = tt
accepted_by words text command Cut asked good told = tt
accepted_by words text command (BadReport l) asked good told = tt
accepted_by words text command (BadTable c) asked good told = tt
accepted_by words text command (NoLog i) asked good told = tt
accepted_by words text command (BadSteps n) asked good told = tt

pub answers_accepted : (words : List (List ℕ)) (told : Option (List ℕ)) (status : Status)
    → ((line code : ℕ) → status ≡ TextFault line code → IfSome told (λ (text : List ℕ). IsFaultOf words text line code))
    → IfSome told (λ (text : List ℕ). (command : ReadingCommand) → IsCommand words (Reads command) → (behaviour_of command).Faultless text
    → AnswersAccepted status)
answers_accepted words None status fault = tt
answers_accepted words (Some text) status fault = λ command asked good. accepted_by words text command status asked good fault

-- what `out` holds after a refusal before writing, over whatever text
refused_out : (s : Status) (words : List (List ℕ)) (text : List ℕ) (old new : Option (List ℕ)) → IsRefusal s → new ≡ old
    → OutAfter s words text old new
refused_out Done words text old new r k = absurd r
refused_out Infeasible words text old new r k = absurd r
refused_out Spent words text old new r k = absurd r
refused_out (TextFault l c) words text old new r k = k
refused_out (Usage place) words text old new r k = k
refused_out ReadFault words text old new r k = k
refused_out WriteFault words text old new r k = absurd r
refused_out NoMemory words text old new r k = k
refused_out (No cause) words text old new r k = absurd r
refused_out (Found cost) words text old new r k = absurd r
refused_out Cut words text old new r k = absurd r
refused_out (BadReport l) words text old new r k = k
refused_out (BadTable c) words text old new r k = k
refused_out (NoLog i) words text old new r k = k
refused_out (BadSteps n) words text old new r k = k

-- what `out` holds after an output was written whole
whole_out : (words : List (List ℕ)) (text out : List ℕ) (old new : Option (List ℕ)) (s : Status) → IsWritten s → IsOutputOf words text s out
    → Appends old new out → OutAfter s words text old new
whole_out words text out old new Done w o a = (out, o, a)
whole_out words text out old new Infeasible w o a = (out, o, a)
whole_out words text out old new Spent w o a = (out, o, a)
whole_out words text out old new (TextFault l c) w o a = absurd w
whole_out words text out old new (Usage place) w o a = absurd w
whole_out words text out old new ReadFault w o a = absurd w
whole_out words text out old new WriteFault w o a = absurd w
whole_out words text out old new NoMemory w o a = absurd w
whole_out words text out old new (No cause) w o a = (out, o, a)
whole_out words text out old new (Found cost) w o a = (out, o, a)
whole_out words text out old new Cut w o a = (out, o, a)
whole_out words text out old new (BadReport l) w o a = absurd w
whole_out words text out old new (BadTable c) w o a = absurd w
whole_out words text out old new (NoLog i) w o a = absurd w
whole_out words text out old new (BadSteps n) w o a = absurd w

-- what `out` holds after a run that wrote, or refused before it
pub out_after : (words : List (List ℕ)) (told : Option (List ℕ)) (outcome : Result Output Status) (status : Status)
    (old new : Option (List ℕ)) → IfErr outcome IsRefusal → IfErr outcome (λ e. status ≡ e) → OnErr outcome (new ≡ old)
    → IfOk outcome (λ o. IsWritten o.status) → IfOk outcome (λ o. Wrote o.status o.text.items status old new)
    → IfOk outcome (λ out. IfSome told (λ (text : List ℕ). IsOutputOf words text out.status out.text.items))
    → IfSome told (λ (text : List ℕ). OutAfter status words text old new)
out_after words None outcome status old new r e k own w o = tt
out_after words (Some text) (Ok out) status old new r e k own (inl done) o =
    subst (λ (s : Status). OutAfter s words text old new) (sym done.0) (whole_out words text out.text.items old new out.status own o done.1)
out_after words (Some text) (Ok out) status old new r e k own (inr fault) o =
    subst (λ (s : Status). OutAfter s words text old new) (sym fault.0) (out.status, out.text.items, o, fault.1)
out_after words (Some text) (Err x) status old new r e k own w o =
    subst (λ (s : Status). OutAfter s words text old new) (sym e) (refused_out x words text old new r k)

-- what was written whole keeps no `out`
written_keeps : (s : Status) (old new : Option (List ℕ)) → IsWritten s → KeepsOut s old new
written_keeps Done old new w = tt
written_keeps Infeasible old new w = tt
written_keeps Spent old new w = tt
written_keeps (TextFault l c) old new w = absurd w
written_keeps (Usage place) old new w = absurd w
written_keeps ReadFault old new w = absurd w
written_keeps WriteFault old new w = absurd w
written_keeps NoMemory old new w = absurd w
written_keeps (No cause) old new w = tt
written_keeps (Found cost) old new w = tt
written_keeps Cut old new w = tt
written_keeps (BadReport l) old new w = absurd w
written_keeps (BadTable c) old new w = absurd w
written_keeps (NoLog i) old new w = absurd w
written_keeps (BadSteps n) old new w = absurd w

-- a refusal before writing keeps `out`, and writes nothing
refused_keeps : (s : Status) (old new : Option (List ℕ)) → IsRefusal s → new ≡ old → KeepsOut s old new × (IsWritten s → ⊥)
refused_keeps Done old new r k = absurd r
refused_keeps Infeasible old new r k = absurd r
refused_keeps Spent old new r k = absurd r
refused_keeps (TextFault l c) old new r k = (k, λ w. w)
refused_keeps (Usage place) old new r k = (k, λ w. w)
refused_keeps ReadFault old new r k = (k, λ w. w)
refused_keeps WriteFault old new r k = absurd r
refused_keeps NoMemory old new r k = (k, λ w. w)
refused_keeps (No cause) old new r k = absurd r
refused_keeps (Found cost) old new r k = absurd r
refused_keeps Cut old new r k = absurd r
refused_keeps (BadReport l) old new r k = (k, λ w. w)
refused_keeps (BadTable c) old new r k = (k, λ w. w)
refused_keeps (NoLog i) old new r k = (k, λ w. w)
refused_keeps (BadSteps n) old new r k = (k, λ w. w)

pub kept_and_answered : (words : List (List ℕ)) (outcome : Result Output Status) (status : Status) (old new : Option (List ℕ))
    → IfErr outcome IsRefusal → IfErr outcome (λ e. status ≡ e) → OnErr outcome (new ≡ old)
    → IfOk outcome (λ o. IsWritten o.status) → IfOk outcome (λ o. EndsSo words o.status)
    → IfOk outcome (λ o. Wrote o.status o.text.items status old new)
    → KeepsOut status old new × IsAnswer words status
kept_and_answered words (Ok x) status old new r e k own a (inl done) =
    subst (λ (s : Status). KeepsOut s old new × IsAnswer words s) (sym done.0) (written_keeps x.status old new own, λ w. a)
kept_and_answered words (Ok x) status old new r e k own a (inr fault) =
    subst (λ (s : Status). KeepsOut s old new × IsAnswer words s) (sym fault.0) (tt, λ w. absurd w)
kept_and_answered words (Err x) status old new r e k own a w =
    let kept = refused_keeps x old new r k in
    subst (λ (s : Status). KeepsOut s old new × IsAnswer words s) (sym e) (kept.0, λ written. absurd (kept.1 written))

-- a refusal is no output
not_written : (s : Status) → IsRefusal s → IsWritten s → ⊥
not_written Done r w = r
not_written Infeasible r w = r
not_written Spent r w = r
not_written (TextFault l c) r w = w
not_written (Usage place) r w = w
not_written ReadFault r w = w
not_written WriteFault r w = w
not_written NoMemory r w = w
not_written (No cause) r w = r
not_written (Found cost) r w = r
not_written Cut r w = r
not_written (BadReport l) r w = w
not_written (BadTable c) r w = w
not_written (NoLog i) r w = w
not_written (BadSteps n) r w = w

-- what holds of an output, and of a refusal for a later part of an input, holds of an answer that comes of a whole input
pub when_whole : {T : Type 0} (outcome : Result T Status) (status : Status) (P : Type 0) → IfErr outcome IsRefusal
    → IfErr outcome (λ e. status ≡ e) → OnOk outcome P → IfErr outcome (λ s. IsLate s → P) → IsOfWhole status → P
when_whole (Ok x) status P r e h late w = h
when_whole (Err x) status P r e h late (inl w) = absurd (not_written x r (subst IsWritten e w))
when_whole (Err x) status P r e h late (inr w) = late (subst IsLate e w)

-- a refusal is the status
pub status_of : {T : Type 0} (outcome : Result T Status) (status s : Status) → IfErr outcome (λ e. status ≡ e) → outcome ≡ Err s
    → status ≡ s
status_of (Ok x) status s e is = absurd (cc is)
status_of (Err x) status s e is = let same : x ≡ s = cc is in e ∙ same

-- the line that is written whole, or to a prefix of it
pub line_written : {T E : Type 0} (written : Result T E) (old new : Option (List ℕ)) (line : List ℕ) → OnOk written (Appends old new line)
    → OnErr written (AppendsPrefix old new line) → AppendsPrefix old new line
line_written (Ok x) old new line all prefix = (line, [], append-nil line, all)
line_written (Err x) old new line all prefix = prefix

pub line_whole : {T E : Type 0} (written : Result T E) (A R : Type 0) → OnOk written A → OnErr written R → R ⊎ A
line_whole (Ok x) A R all failed = inr all
line_whole (Err x) A R all failed = inl failed
