-- What the machine asks of single instructions and of the room for its records.
use Rattle.std.specs.Prelude.{ℕ, ◌≡◌, ◌≤◌, ◌||◌, List, [], All, length, vec_capacity}
use Rattle.std.specs.Bool.{OnTrue}
use Rattle.std.specs.List.{find}
use Rattle.std.specs.Option.{option_to_list}
use Rattle.un_isa.specs.declared.instr.Instr.{Instr}
use Rattle.un_isa.specs.Operands.{IsShift}
use Rattle.un_packet.specs.declared.code.TheConstants.{ARGUMENTS}
use Rattle.un_packet.specs.declared.state.Spare.{Spare}
use Rattle.un_packet.specs.CodeRules.{IsThere}
use Rattle.un_isa.specs.Does.{is_jump}
use Rattle.un_isa.specs.Does.{is_call}

-- shifts by less than a word, a call's few arguments, and the labels of calls and jumps
pub record IsRunnable (i : Instr) : Type 0 where
  pub shift : IsShift i.op i.imm
  pub few : length i.srcs ≤ ARGUMENTS
  pub label : OnTrue (is_call i.op || is_jump i.op) (IsThere i.label)

abbrev pub AreRunnable : List Instr → Type 0
AreRunnable is = All IsRunnable is

-- how many calls of a packet there are, 0 or 1: the first alone counts
abbrev pub calls_in : List Instr → ℕ
calls_in is = length (option_to_list (find (λ (i : Instr). is_call i.op) is))

-- room for a record: for six arguments, and for a memory of so many words
pub record IsSpare (words : ℕ) (s : Spare) : Type 0 where
  pub none : s.args.items ≡ []
  pub room : ARGUMENTS ≤ vec_capacity s.args
  pub memory : length s.memory ≡ words
