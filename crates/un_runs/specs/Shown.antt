-- What runs and seeds come to, as text.
use Rattle.std.specs.Prelude.{ℕ, ◌≡◌, ◌%◌, ◌&&◌, Bool, true, nat_eq, nat_le, List, [], slice_index}
use Rattle.un_isa.specs.declared.outcome.Outcome.{Outcome}
use Rattle.un_isa.specs.declared.reg.TheConstants.{STACK}
use Rattle.un_isa.specs.declared.start.Start.{Start}
use Rattle.un_isa.specs.declared.table.Table.{Table}
use Rattle.un_ir.specs.declared.function.Function.{Function}
use Rattle.un_ir.specs.Text.{function_text}
use Rattle.un_gen.specs.Generated.{IsGenerated}
use Rattle.un_packet.specs.declared.code.Code.{Code}
use Rattle.un_packet.specs.Ends.{IsOutcome}
use Rattle.un_packet.specs.Run.{packet_run}
use Rattle.un_reader.specs.Read.{IsRead}
use Rattle.un_listing_reader.specs.Reading.{IsListingOf}
use Rattle.un_source.specs.Outcomes.{IsSourceOutcome}
use Rattle.un_outcome.specs.Outcomes.{outcome_text}
use Rattle.un_start.specs.StartTexts.{IsStartText}
use Rattle.un_runs.specs.Inputs.{first_part, second_part}

-- the outcome of a function from the start of a text, with that text's number of blocks
pub record IsRunOf (f : Function) (text out : List ℕ) : Type 0 where
  pub start : Start
  pub count : ℕ
  pub started : IsStartText text start count
  pub outcome : Outcome
  pub is : IsSourceOutcome f start count outcome
  pub printed : out ≡ outcome_text f.names outcome

-- the same of the function that stands in the first part of an input
pub record IsSourceRun (input out : List ℕ) : Type 0 where
  pub function : Function
  pub read : IsRead (first_part input) function
  pub run : IsRunOf function (second_part input) out

-- the stack pointer is a multiple of 8, and there is room for a frame below it
abbrev pub has_room : ℕ → List ℕ → Bool
has_room frame regs = nat_eq (slice_index regs STACK % 8) 0 && nat_le frame (slice_index regs STACK)

-- the outcome of code, by a table of the processor, from the start of a text, which has room for the code's frame
pub record IsRunOfCode (t : Table) (c : Code) (text out : List ℕ) : Type 0 where
  pub start : Start
  pub count : ℕ
  pub started : IsStartText text start count
  pub room : has_room c.frame start.regs ≡ true
  pub outcome : Outcome
  pub is : IsOutcome c.blocks (packet_run t c start count) outcome
  pub printed : out ≡ outcome_text [] outcome

-- the same of the code of a listing
pub record IsRunOfListing (t : Table) (listing text out : List ℕ) : Type 0 where
  pub code : Code
  pub listed : IsListingOf listing code
  pub run : IsRunOfCode t code text out

-- of that in the first part of an input, from the start in the second one
abbrev pub IsCodeRun : Table → List ℕ → List ℕ → Type 0
IsCodeRun t input out = IsRunOfListing t (first_part input) (second_part input) out

-- the text of the function that a seed and a size generate
pub record IsGeneratedText (seed size : ℕ) (out : List ℕ) : Type 0 where
  pub function : Function
  pub is : IsGenerated seed size function
  pub printed : out ≡ function_text function
