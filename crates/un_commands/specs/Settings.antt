-- The options of a search on a command line: how each is spelled, and what several of them say together.
use Rattle.std.specs.Prelude.{ℕ, ◌≡◌, ◌≤◌, Bool, true, false, List, [], ◌∷◌, Some, None, codes, count_by, decimal, if◌then◌else◌, unwrap_or}
use Rattle.std.specs.Option.{option_to_list}
use Rattle.std.specs.List.{flat_map}
use Rattle.un_isa.specs.declared.reg.TheConstants.{SLOTS}
use Rattle.un_model.specs.Options.{IsCountOfRegisters}
use Rattle.un_commands.specs.declared.command.SearchOptions.{SearchOptions}
use Rattle.un_commands.specs.declared.command.TheConstants.{MOST_NODES, DEFAULT_NODES}
use Rattle.un_commands.specs.declared.setting.Setting.{Setting}
use Rattle.un_commands.specs.declared.setting.Setting.TheVariants.{Nodes, Regs, Slots}
use Rattle.un_commands.specs.declared.setting.Given.{Given}

-- how many nodes a tree may be given
abbrev pub IsCountOfNodes : ℕ → Type 0
IsCountOfNodes n = (1 ≤ n) × (n ≤ MOST_NODES)

-- the value is one that the option may have
abbrev pub IsInRange : Setting → Type 0
IsInRange (Nodes n) = IsCountOfNodes n
IsInRange (Regs n) = IsCountOfRegisters n
IsInRange (Slots k) = k ≤ SLOTS

-- the word that names the option
abbrev pub flag_of : Setting → List ℕ
flag_of (Nodes n) = codes "--nodes"
flag_of (Regs n) = codes "--regs"
flag_of (Slots k) = codes "--slots"

-- the value that it is set to
abbrev pub number_of : Setting → ℕ
number_of (Nodes n) = n
number_of (Regs n) = n
number_of (Slots k) = k

-- its two words
abbrev pub words_of : Setting → List (List ℕ)
words_of setting = flag_of setting ∷ decimal (number_of setting) ∷ []

-- the value where the option is that of nodes
abbrev pub nodes_in : Setting → List ℕ
nodes_in (Nodes n) = n ∷ []
nodes_in (Regs n) = []
nodes_in (Slots k) = []

-- where it is that of registers
abbrev pub regs_in : Setting → List ℕ
regs_in (Nodes n) = []
regs_in (Regs n) = n ∷ []
regs_in (Slots k) = []

-- where it is that of slots
abbrev pub slots_in : Setting → List ℕ
slots_in (Nodes n) = []
slots_in (Regs n) = []
slots_in (Slots k) = k ∷ []

-- what settings say together: each option is set at most once, and this is its value, if any
pub record Say (settings : List Setting) (given : Given) : Type 0 where
  pub nodes : flat_map nodes_in settings ≡ option_to_list given.nodes
  pub regs : flat_map regs_in settings ≡ option_to_list given.regs
  pub slots : flat_map slots_in settings ≡ option_to_list given.slots

-- ---- what may stand behind the first word: settings, and behind `alloc` the flag `--table` too, which has no value

pub data Part : Type 0 where
  Sets : Setting → Part
  Flag : Part

abbrev pub part_words : Part → List (List ℕ)
part_words (Sets setting) = words_of setting
part_words Flag = codes "--table" ∷ []

abbrev pub set_by : Part → List Setting
set_by (Sets setting) = setting ∷ []
set_by Flag = []

-- the settings among them
abbrev pub settings_in : List Part → List Setting
settings_in parts = flat_map set_by parts

abbrev pub is_flag : Part → Bool
is_flag (Sets setting) = false
is_flag Flag = true

-- the flag stands once where a table is asked for, and else nowhere
abbrev pub AsksTable : List Part → Bool → Type 0
AsksTable parts table = count_by is_flag parts ≡ if table then 1 else 0

-- ---- as a state

abbrev pub none_given : Given
none_given = record { nodes = None; regs = None; slots = None }

-- with the value of one option put in
abbrev pub with_setting : Given → Setting → Given
with_setting given (Nodes n) = record given { nodes = Some n }
with_setting given (Regs n) = record given { regs = Some n }
with_setting given (Slots k) = record given { slots = Some k }

-- the options of a search, each the value given or its default
abbrev pub over_defaults : Given → SearchOptions
over_defaults given = record {
  nodes = unwrap_or given.nodes DEFAULT_NODES;
  regs = given.regs;
  slots = unwrap_or given.slots SLOTS;
}
