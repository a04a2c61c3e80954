-- Which answers other than an outcome come, and when.
use Rattle.std.specs.Prelude.{ℕ, ◌≡◌, ◌⊎◌, ⊤, false, List, ◌++◌, count_by}
use Rattle.un_base.specs.Lines.{is_line_feed}
use Rattle.un_faults.specs.Codes.{code_of}
use Rattle.un_faults.specs.declared.fault.Fault.{Fault}
use Rattle.un_isa.specs.declared.start.Start.{Start}
use Rattle.un_ir.specs.declared.function.Function.{Function}
use Rattle.un_packet.specs.declared.code.Code.{Code}
use Rattle.un_reader.specs.Read.{IsRead, IsTextFault}
use Rattle.un_listing_reader.specs.Reading.{IsListingOf, IsFirstBad as IsBadListing}
use Rattle.un_start.specs.StartTexts.{IsStartText, IsFirstBad as IsBadStart}
use Rattle.un_listing_reader.specs.declared.read.ListingError.{ListingError}
use Rattle.un_listing_reader.specs.declared.read.ListingError.TheVariants.{NoMemory as NoListingMemory, BadListing}
use Rattle.un_reader.specs.declared.error.ReadError.{ReadError}
use Rattle.un_reader.specs.declared.error.ReadError.TheVariants.{NoMemory as NoReadMemory, TextFault as Faulty}
use Rattle.un_start.specs.declared.read.StartError.{StartError}
use Rattle.un_start.specs.declared.read.StartError.TheVariants.{NoMemory as NoStartMemory, BadStart}
use Rattle.un_runs.specs.declared.refused.Refused.{Refused}
use Rattle.un_runs.specs.declared.refused.Refused.TheVariants.{NoMemory, TextFault, BadSecond}
use Rattle.un_runs.specs.Inputs.{first_part, second_part}
use Rattle.un_runs.specs.Shown.{has_room}

-- the answer to what a reader of functions, of starts or of listings finds
abbrev pub function_refused : ReadError → Refused
function_refused NoReadMemory = NoMemory
function_refused (Faulty line code) = TextFault line code

abbrev pub start_refused : StartError → Refused
start_refused NoStartMemory = NoMemory
start_refused (BadStart line) = BadSecond line

abbrev pub listing_refused : ListingError → Refused
listing_refused NoListingMemory = NoMemory
listing_refused (BadListing line) = BadSecond line

-- the line and the code of a text's first fault
pub record IsFaultOf (text : List ℕ) (line code : ℕ) : Type 0 where
  pub fault : Fault
  pub is : IsTextFault text line fault
  pub coded : code ≡ code_of fault

-- of a function's text
abbrev pub RefusesFunction : List ℕ → Refused → Type 0
RefusesFunction text NoMemory = ⊤
RefusesFunction text (TextFault line code) = IsFaultOf text line code
RefusesFunction text (BadSecond line) = ⊥

-- of a start's text
abbrev pub RefusesStart : List ℕ → Refused → Type 0
RefusesStart text NoMemory = ⊤
RefusesStart text (TextFault line code) = ⊥
RefusesStart text (BadSecond line) = IsBadStart text line

-- of a listing
abbrev pub RefusesListing : List ℕ → Refused → Type 0
RefusesListing text NoMemory = ⊤
RefusesListing text (TextFault line code) = ⊥
RefusesListing text (BadSecond line) = IsBadListing text line

-- a start without room for a frame stands at the front of the text: its last line is bad, whatever stands behind it
pub record HasNoRoom (frame : ℕ) (text : List ℕ) (line : ℕ) : Type 0 where
  pub front : List ℕ
  pub rest : List ℕ
  pub whole : text ≡ front ++ rest
  pub start : Start
  pub count : ℕ
  pub started : IsStartText front start count
  pub tight : has_room frame start.regs ≡ false
  pub last : line ≡ count_by is_line_feed front

-- none stands there
abbrev pub IsRoomy : ℕ → List ℕ → Type 0
IsRoomy frame text = (line : ℕ) → HasNoRoom frame text line → ⊥

-- the first bad line of a start for code with a frame
abbrev pub IsBadFor : ℕ → List ℕ → ℕ → Type 0
IsBadFor frame text line = HasNoRoom frame text line ⊎ (IsRoomy frame text × IsBadStart text line)

-- where a start has no room, its last line is bad
abbrev pub IsTight : List ℕ → Refused → Type 0
IsTight text NoMemory = ⊤
IsTight text (TextFault line code) = ⊥
IsTight text (BadSecond line) = line ≡ count_by is_line_feed text

-- of a start for code with a frame
abbrev pub RefusesFor : ℕ → List ℕ → Refused → Type 0
RefusesFor frame text NoMemory = ⊤
RefusesFor frame text (TextFault line code) = ⊥
RefusesFor frame text (BadSecond line) = IsBadFor frame text line

-- the first part is a function, and this line of the second one is bad
pub record IsBadSourceRun (input : List ℕ) (line : ℕ) : Type 0 where
  pub function : Function
  pub read : IsRead (first_part input) function
  pub bad : IsBadStart (second_part input) line

abbrev pub RefusesSource : List ℕ → Refused → Type 0
RefusesSource input NoMemory = ⊤
RefusesSource input (TextFault line code) = IsFaultOf (first_part input) line code
RefusesSource input (BadSecond line) = IsBadSourceRun input line

-- a text is a listing, and this line of a start is bad for its code
pub record IsBadForListing (listing text : List ℕ) (line : ℕ) : Type 0 where
  pub code : Code
  pub listed : IsListingOf listing code
  pub bad : IsBadFor code.frame text line

-- the listing is looked at first
abbrev pub IsBadRun : List ℕ → List ℕ → ℕ → Type 0
IsBadRun listing text line = IsBadListing listing line ⊎ IsBadForListing listing text line

-- of a listing and a start
abbrev pub RefusesRun : List ℕ → List ℕ → Refused → Type 0
RefusesRun listing text NoMemory = ⊤
RefusesRun listing text (TextFault line code) = ⊥
RefusesRun listing text (BadSecond line) = IsBadRun listing text line

-- where they are the two parts of an input
abbrev pub IsBadCodeRun : List ℕ → ℕ → Type 0
IsBadCodeRun input line = IsBadRun (first_part input) (second_part input) line

abbrev pub RefusesCode : List ℕ → Refused → Type 0
RefusesCode input refused = RefusesRun (first_part input) (second_part input) refused
