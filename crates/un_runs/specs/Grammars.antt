-- Inputs whose parts are in their grammars.
use Rattle.std.specs.Prelude.{ℕ, ◌≡◌, true, List}
use Rattle.un_isa.specs.declared.start.Start.{Start}
use Rattle.un_ir.specs.declared.function.Function.{Function}
use Rattle.un_packet.specs.declared.code.Code.{Code}
use Rattle.un_reader.specs.Read.{IsRead}
use Rattle.un_listing_reader.specs.Reading.{IsListingOf}
use Rattle.un_start.specs.StartTexts.{IsStartText}
use Rattle.un_runs.specs.Inputs.{first_part, second_part}
use Rattle.un_runs.specs.Shown.{has_room}

-- a function, and a start
pub record IsSourceInput (input : List ℕ) : Type 0 where
  pub function : Function
  pub read : IsRead (first_part input) function
  pub start : Start
  pub count : ℕ
  pub started : IsStartText (second_part input) start count

-- the listing of code, and a start with room for its frame
pub record AreCodeTexts (listing text : List ℕ) : Type 0 where
  pub code : Code
  pub listed : IsListingOf listing code
  pub start : Start
  pub count : ℕ
  pub started : IsStartText text start count
  pub room : has_room code.frame start.regs ≡ true

abbrev pub IsCodeInput : List ℕ → Type 0
IsCodeInput input = AreCodeTexts (first_part input) (second_part input)
