-- The words of the commands that search: `alloc`, `improve` and `refute C`, each with settings, and `alloc` with the flag `--table` among
-- them too.
use Rattle.std.specs.Prelude.{ℕ, ◌≡◌, ◌<◌, ◌^◌, ◌⊎◌, Bool, true, false, List, [], ◌∷◌, ◌++◌, All, codes, decimal}
use Rattle.std.specs.List.{flat_map}
use Rattle.un_model.specs.declared.model.Options.{Options}
use Rattle.un_model.specs.Options.{AreOptions}
use Rattle.un_commands.specs.declared.command.SearchOptions.{SearchOptions}
use Rattle.un_commands.specs.declared.setting.Given.{Given}
use Rattle.un_commands.specs.Settings.{IsInRange, Part, part_words, settings_in, Say, AsksTable, over_defaults, IsCountOfNodes}

-- ---- the words that stand before the settings

abbrev pub alloc_opening : List (List ℕ)
alloc_opening = codes "alloc" ∷ []

abbrev pub improve_opening : List (List ℕ)
improve_opening = codes "improve" ∷ []

abbrev pub refute_opening : ℕ → List (List ℕ)
refute_opening limit = codes "refute" ∷ decimal limit ∷ []

-- one of these, and whether the flag may stand among the settings behind it
abbrev pub IsOpening : List (List ℕ) → Bool → Type 0
IsOpening opening takes = ((opening ≡ alloc_opening) × (takes ≡ true))
    ⊎ (((opening ≡ improve_opening) × (takes ≡ false))
    ⊎ ((limit : ℕ) × (limit < 2 ^ 64) × (opening ≡ refute_opening limit) × (takes ≡ false)))

-- ---- what may stand behind them

-- settings in any order, each option at most once, and in any place among them the flag, once, where a table is asked for
pub record HasSettings (opening : List (List ℕ)) (words : List (List ℕ)) (table : Bool) (options : SearchOptions) : Type 0 where
  pub parts : List Part
  pub given : Given
  pub spelled : words ≡ opening ++ flat_map part_words parts
  pub ranged : All IsInRange (settings_in parts)
  pub said : Say (settings_in parts) given
  pub tabled : AsksTable parts table
  pub chosen : options ≡ over_defaults given

abbrev pub IsAlloc : List (List ℕ) → SearchOptions → Type 0
IsAlloc words options = HasSettings alloc_opening words false options

abbrev pub IsAllocTable : List (List ℕ) → SearchOptions → Type 0
IsAllocTable words options = HasSettings alloc_opening words true options

abbrev pub IsImprove : List (List ℕ) → SearchOptions → Type 0
IsImprove words options = HasSettings improve_opening words false options

-- a limit, and settings behind it
pub record IsRefute (words : List (List ℕ)) (limit : ℕ) (options : SearchOptions) : Type 0 where
  pub limit_fits : limit < 2 ^ 64
  pub settings : HasSettings (refute_opening limit) words false options

-- what a search may use of the processor
abbrev pub model_options : SearchOptions → Options
model_options options = record { regs = options.regs; slots = options.slots }

-- the options are in their ranges
pub record AreSearchOptions (options : SearchOptions) : Type 0 where
  pub nodes : IsCountOfNodes options.nodes
  pub allowed : AreOptions (model_options options)
