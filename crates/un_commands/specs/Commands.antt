-- The grammar of the words of a command line.
use Rattle.std.specs.Prelude.{ℕ, ◌≡◌, ◌+◌, ◌<◌, ◌^◌, List, [], ◌∷◌, codes, take}
use Rattle.un_commands.specs.declared.command.Command.{Command}
use Rattle.un_commands.specs.declared.command.Command.TheVariants.{Reads, Makes}
use Rattle.un_commands.specs.declared.command.ReadingCommand.TheVariants.{Alloc, Run, RunCode, Check, Improve, AllocTable, CheckTable, RunCodeTable}
use Rattle.un_commands.specs.declared.command.ReadingCommand.TheVariants.{Refute, RefuteCheck, Steps, StepsCheck}
use Rattle.un_commands.specs.declared.command.MakingCommand.TheVariants.{Generate, GenerateAlloc}
use Rattle.un_commands.specs.Alloc.{IsAlloc, IsAllocTable, IsImprove, IsRefute, AreSearchOptions}
use Rattle.un_commands.specs.Generate.{IsSize, IsGenerate, IsGenerateAlloc}
use Rattle.un_commands.specs.Settings.{IsCountOfNodes}
use Rattle.un_commands.specs.Steps.{steps_words, steps_check_words}

-- the words of a line are those of a command
abbrev pub IsCommand : List (List ℕ) → Command → Type 0
IsCommand words (Reads (Alloc options)) = IsAlloc words options
IsCommand words (Reads Run) = words ≡ codes "run" ∷ []
IsCommand words (Reads RunCode) = words ≡ codes "run" ∷ codes "--code" ∷ []
IsCommand words (Reads Check) = words ≡ codes "check" ∷ []
IsCommand words (Reads (Improve options)) = IsImprove words options
IsCommand words (Reads (AllocTable options)) = IsAllocTable words options
IsCommand words (Reads CheckTable) = words ≡ codes "check" ∷ codes "--table" ∷ []
IsCommand words (Reads RunCodeTable) = words ≡ codes "run" ∷ codes "--code" ∷ codes "--table" ∷ []
IsCommand words (Reads (Refute limit options)) = IsRefute words limit options
IsCommand words (Reads RefuteCheck) = words ≡ codes "refute" ∷ codes "--check" ∷ []
IsCommand words (Reads (Steps counts)) = words ≡ steps_words counts
IsCommand words (Reads (StepsCheck counts)) = words ≡ steps_check_words counts
IsCommand words (Makes (Generate seed size)) = IsGenerate words seed size
IsCommand words (Makes (GenerateAlloc seed size nodes)) = IsGenerateAlloc words seed size nodes

-- the first k words, or all of them where there are fewer, are the first k of some command's words
pub record BeginsCommand (words : List (List ℕ)) (k : ℕ) : Type 0 where
  pub command : Command
  pub spelled : List (List ℕ)
  pub is_command : IsCommand spelled command
  pub begins : take k words ≡ take k spelled

-- the least place at which no command begins with the words up to and with that place; where more words are needed, it is
-- the number of words
pub record IsBadWord (words : List (List ℕ)) (place : ℕ) : Type 0 where
  pub good : BeginsCommand words place
  pub bad : BeginsCommand words (place + 1) → ⊥

-- the numbers of a command are in their ranges
abbrev pub IsRanged : Command → Type 0
IsRanged (Reads (Alloc options)) = AreSearchOptions options
IsRanged (Reads Run) = Unit {0}
IsRanged (Reads RunCode) = Unit {0}
IsRanged (Reads Check) = Unit {0}
IsRanged (Reads (Improve options)) = AreSearchOptions options
IsRanged (Reads (AllocTable options)) = AreSearchOptions options
IsRanged (Reads CheckTable) = Unit {0}
IsRanged (Reads RunCodeTable) = Unit {0}
IsRanged (Reads (Refute limit options)) = (limit < 2 ^ 64) × AreSearchOptions options
IsRanged (Reads RefuteCheck) = Unit {0}
IsRanged (Reads (Steps counts)) = Unit {0}
IsRanged (Reads (StepsCheck counts)) = Unit {0}
IsRanged (Makes (Generate seed size)) = (seed < 2 ^ 64) × IsSize size
IsRanged (Makes (GenerateAlloc seed size nodes)) = (seed < 2 ^ 64) × IsSize size × IsCountOfNodes nodes
