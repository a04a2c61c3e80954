-- What stands at a place of a command line.
use Rattle.std.specs.Prelude.{ℕ, ◌≡◌, ◌+◌, ◌≤◌, ◌⊎◌, Bool, true, false, List, Some, None, decimal, slice_get}
use Rattle.un_commands.specs.declared.setting.Setting.{Setting}
use Rattle.un_commands.specs.declared.setting.Setting.TheVariants.{Nodes, Regs, Slots}
use Rattle.un_commands.specs.declared.setting.Given.{Given}
use Rattle.un_commands.specs.Settings.{IsInRange, flag_of, number_of}

-- the word at a place is this one
abbrev pub StandsAt : List (List ℕ) → ℕ → List ℕ → Type 0
StandsAt words place word = slice_get words place ≡ Some word

-- no number from least to most stands at a place
abbrev pub NoNumberAt : List (List ℕ) → ℕ → ℕ → ℕ → Type 0
NoNumberAt words place least most = (n : ℕ) → least ≤ n → n ≤ most → ¬ StandsAt words place (decimal n)

-- the option is not given yet
abbrev pub IsFresh : Given → Setting → Type 0
IsFresh given (Nodes n) = given.nodes ≡ None
IsFresh given (Regs n) = given.regs ≡ None
IsFresh given (Slots k) = given.slots ≡ None

-- this setting of an option that is not given yet stands at a place and the next
pub record IsNext (words : List (List ℕ)) (place : ℕ) (given : Given) (setting : Setting) : Type 0 where
  pub fresh : IsFresh given setting
  pub flag : StandsAt words place (flag_of setting)
  pub number : StandsAt words (place + 1) (decimal (number_of setting))
  pub ranged : IsInRange setting

-- no option that is not given yet stands at a place
abbrev pub NoFlagAt : List (List ℕ) → ℕ → Given → Type 0
NoFlagAt words place given = (setting : Setting) → IsFresh given setting → ¬ StandsAt words place (flag_of setting)

-- an option that is not given yet stands at a place, as that of some setting, and none of its values at the next
pub record NoValueAt (words : List (List ℕ)) (place : ℕ) (given : Given) : Type 0 where
  pub some : Setting
  pub fresh : IsFresh given some
  pub ranged : IsInRange some
  pub flag : StandsAt words place (flag_of some)
  pub none : (setting : Setting) → flag_of setting ≡ flag_of some → IsInRange setting
      → ¬ StandsAt words (place + 1) (decimal (number_of setting))

-- the place at which no setting goes on, either for its option or for its value
abbrev pub IsBadSetting : List (List ℕ) → ℕ → Given → ℕ → Type 0
IsBadSetting words place given bad =
    ((bad ≡ place) × NoFlagAt words place given) ⊎ ((bad ≡ place + 1) × NoValueAt words place given)

-- the flag may stand among the settings, and is not given yet
abbrev pub MayAsk : Bool → Bool → Type 0
MayAsk takes table = (takes ≡ true) × (table ≡ false)
