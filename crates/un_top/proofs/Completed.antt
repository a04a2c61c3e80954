-- How runs over good inputs end.
use Rattle.std.proofs.Common.{ℕ, ◌≡◌, ◌⊎◌, inl, inr, List, refl}
use Rattle.std.specs.declared.option.Option.{Option}
use Rattle.std.specs.declared.option.Option.TheVariants.{Some, None}
use Rattle.std.specs.Option.{IfSome}
use Rattle.un_commands.proofs.WordLaws.{command_is_good}
use Rattle.un_commands.specs.Commands.{IsCommand, IsBadWord}
use Rattle.un_commands.specs.declared.command.Command.TheVariants.{Reads}
use Rattle.un_commands.specs.declared.command.ReadingCommand.{ReadingCommand}
use Rattle.un_outside.specs.declared.status.Status.{Status}
use Rattle.un_outside.specs.declared.status.Status.TheVariants.{Done, Infeasible, Spent, TextFault, Usage, ReadFault, WriteFault, NoMemory, No}
use Rattle.un_outside.specs.declared.status.Status.TheVariants.{BadReport, BadTable, Found, Cut, NoLog, BadSteps}
use Rattle.un_top.specs.Behaviours.{behaviour_of}
use Rattle.un_top.specs.Runs.{IsLate, IsOutputOf, IsFaultOf, IsLateOf, OutAfter}
use Rattle.un_top.proofs.Answered.{fault_as, late_as, output_as}
use Rattle.un_top.proofs.Lawful.{lawful}

-- a run that wrote an output whole ended well
wrote_well : (words : List (List ℕ)) (command : ReadingCommand) (text out : List ℕ) (status : Status) → IsCommand words (Reads command)
    → IsOutputOf words text status out → (behaviour_of command).EndsWell text status
wrote_well words command text out status asked o =
    let laws = lawful command in laws.well text status out (output_as words command text status out asked o)

-- and so did one that answers for a later part of a good input
late_well : (words : List (List ℕ)) (command : ReadingCommand) (text : List ℕ) (status : Status) → IsCommand words (Reads command)
    → (behaviour_of command).Good text → IsLateOf words text status → (behaviour_of command).EndsWell text status
late_well words command text status asked good late =
    let laws = lawful command in laws.good_late text status good (late_as words command text status asked late)

module _ (words : List (List ℕ)) (text : List ℕ) (command : ReadingCommand) (old new : Option (List ℕ)) (R W : Type 0)
    (asked : IsCommand words (Reads command)) (good : (behaviour_of command).Good text) where
  completed : (status : Status)
      → ((place : ℕ) → status ≡ Usage place → IsBadWord words place)
      → ((line code : ℕ) → status ≡ TextFault line code → IsFaultOf words text line code)
      → (IsLate status → IsLateOf words text status)
      → (status ≡ ReadFault → R) → (status ≡ WriteFault → W) → OutAfter status words text old new
      → R ⊎ (W ⊎ (behaviour_of command).EndsWell text status)
  completed Done u f b r w o = inr (inr (wrote_well words command text o.0 Done asked o.1))
  completed Infeasible u f b r w o = inr (inr (wrote_well words command text o.0 Infeasible asked o.1))
  completed Spent u f b r w o = inr (inr (wrote_well words command text o.0 Spent asked o.1))
  completed (TextFault l c) u f b r w o = let laws = lawful command in absurd (laws.good_fault text l c good (fault_as words command text l c asked (f l c refl)))
  completed (Usage place) u f b r w o = absurd (command_is_good words (Reads command) place asked (u place refl))
  completed ReadFault u f b r w o = inl (r refl)
  completed WriteFault u f b r w o = inr (inl (w refl))
  completed NoMemory u f b r w o = let laws = lawful command in inr (inr (laws.short text))
  completed (No cause) u f b r w o = inr (inr (wrote_well words command text o.0 (No cause) asked o.1))
  completed (Found cost) u f b r w o = inr (inr (wrote_well words command text o.0 (Found cost) asked o.1))
  completed Cut u f b r w o = inr (inr (wrote_well words command text o.0 Cut asked o.1))
  completed (BadReport l) u f b r w o = inr (inr (late_well words command text (BadReport l) asked good (b tt)))
  completed (BadTable c) u f b r w o = inr (inr (late_well words command text (BadTable c) asked good (b tt)))
  completed (NoLog i) u f b r w o = inr (inr (late_well words command text (NoLog i) asked good (b tt)))
  completed (BadSteps n) u f b r w o = inr (inr (late_well words command text (BadSteps n) asked good (b tt)))

-- a run over a good input puts its output out, or there was no memory, where nothing outside fails
pub completes : (words : List (List ℕ)) (told : Option (List ℕ)) (status : Status) (old new : Option (List ℕ)) (R W : Type 0)
    → ((place : ℕ) → status ≡ Usage place → IsBadWord words place)
    → ((line code : ℕ) → status ≡ TextFault line code → IfSome told (λ (text : List ℕ). IsFaultOf words text line code))
    → (IsLate status → IfSome told (λ (text : List ℕ). IsLateOf words text status))
    → (status ≡ ReadFault → R) → (status ≡ WriteFault → W)
    → IfSome told (λ (text : List ℕ). OutAfter status words text old new)
    → IfSome told (λ (text : List ℕ). (command : ReadingCommand) → IsCommand words (Reads command) → (behaviour_of command).Good text
    → R ⊎ (W ⊎ (behaviour_of command).EndsWell text status))
completes words None status old new R W u f b r w o = tt
completes words (Some text) status old new R W u f b r w o = λ command asked good.
    completed words text command old new R W asked good status u f b r w o
