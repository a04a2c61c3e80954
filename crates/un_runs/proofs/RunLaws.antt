-- Refusals of the parts of an input are those of the input.
use Rattle.std.proofs.Common.{◌≡◌, ℕ, inl, inr, false, List, ◌++◌, subst}
use Rattle.un_isa.specs.declared.start.Start.{Start}
use Rattle.un_ir.specs.declared.function.Function.{Function}
use Rattle.un_packet.specs.declared.code.Code.{Code}
use Rattle.un_reader.specs.Errors.{Tells}
use Rattle.un_reader.specs.Read.{IsRead, IsTextFault}
use Rattle.un_reader.specs.declared.error.ReadError.{ReadError}
use Rattle.un_reader.specs.declared.error.ReadError.TheVariants.{NoMemory as NoReadMemory, TextFault as Faulty}
use Rattle.un_listing_reader.specs.declared.read.ListingError.{ListingError}
use Rattle.un_listing_reader.specs.declared.read.ListingError.TheVariants.{NoMemory as NoListingMemory, BadListing}
use Rattle.un_start.specs.declared.read.StartError.{StartError}
use Rattle.un_start.specs.declared.read.StartError.TheVariants.{NoMemory as NoStartMemory, BadStart}
use Rattle.un_listing_reader.specs.Reading.{IsListingOf, IsErrorOf as IsListingError}
use Rattle.un_start.specs.StartTexts.{IsStartText, IsFirstBad as IsBadStart, IsErrorOf as IsStartError}
use Rattle.un_runs.specs.declared.refused.Refused.{Refused}
use Rattle.un_runs.specs.declared.refused.Refused.TheVariants.{NoMemory, TextFault, BadSecond}
use Rattle.un_runs.specs.Inputs.{first_part, second_part}
use Rattle.un_runs.specs.Refusals.{function_refused, start_refused, listing_refused, RefusesFunction, RefusesStart, RefusesListing, RefusesFor, RefusesSource, RefusesRun, IsTight, IsRoomy, IsFaultOf}
use Rattle.un_runs.specs.Shown.{has_room, IsRunOf, IsSourceRun}

-- ---- what a reader finds

pub function_is_refused : (text : List ℕ) (e : ReadError) → Tells (IsTextFault text) e → RefusesFunction text (function_refused e)
function_is_refused text NoReadMemory h = tt
function_is_refused text (Faulty line code) h = record { fault = h.0; is = h.2; coded = h.1 }

pub start_is_refused : (text : List ℕ) (e : StartError) → IsStartError text e → RefusesStart text (start_refused e)
start_is_refused text NoStartMemory h = tt
start_is_refused text (BadStart line) h = h

pub listing_is_refused : (text : List ℕ) (e : ListingError) → IsListingError text e → RefusesListing text (listing_refused e)
listing_is_refused text NoListingMemory h = tt
listing_is_refused text (BadListing line) h = h

-- ---- functions and starts

pub source_first : (input part : List ℕ) (e : Refused) → part ≡ first_part input → RefusesFunction part e → RefusesSource input e
source_first input part NoMemory is h = tt
source_first input part (TextFault line code) is h = subst (λ (t : List ℕ). IsFaultOf t line code) is h
source_first input part (BadSecond line) is h = absurd h

pub source_second : (input first second : List ℕ) (f : Function) (e : Refused) → first ≡ first_part input → second ≡ second_part input
    → IsRead first f → RefusesStart second e → RefusesSource input e
source_second input first second f NoMemory a b read h = tt
source_second input first second f (TextFault line code) a b read h = absurd h
source_second input first second f (BadSecond line) a b read h = record {
  function = f;
  read = subst (λ (t : List ℕ). IsRead t f) a read;
  bad = subst (λ (t : List ℕ). IsBadStart t line) b h;
}

pub source_is : (input first second out : List ℕ) (f : Function) → first ≡ first_part input → second ≡ second_part input
    → IsRead first f → IsRunOf f second out → IsSourceRun input out
source_is input first second out f a b read run = record {
  function = f;
  read = subst (λ (t : List ℕ). IsRead t f) a read;
  run = subst (λ (t : List ℕ). IsRunOf f t out) b run;
}

-- ---- code

pub code_first : (listing text : List ℕ) (e : Refused) → RefusesListing listing e → RefusesRun listing text e
code_first listing text NoMemory h = tt
code_first listing text (TextFault line code) h = absurd h
code_first listing text (BadSecond line) h = inl h

pub code_second : (listing text : List ℕ) (c : Code) (e : Refused) → IsListingOf listing c → RefusesFor c.frame text e
    → RefusesRun listing text e
code_second listing text c NoMemory listed h = tt
code_second listing text c (TextFault line code) listed h = absurd h
code_second listing text c (BadSecond line) listed h = inr (record { code = c; listed = listed; bad = h })

-- a line of a start is bad for code as it is, where none without room stands before it
pub for_line : (frame : ℕ) (text : List ℕ) (line : ℕ) → IsRoomy frame text → IsBadStart text line → RefusesFor frame text (BadSecond line)
for_line frame text line roomy bad = inr (roomy, bad)

-- or where a start without room ends
pub for_room : (frame : ℕ) (text front rest : List ℕ) (start : Start) (count : ℕ) (e : Refused) → text ≡ front ++ rest
    → IsStartText front start count → has_room frame start.regs ≡ false → IsTight front e → RefusesFor frame text e
for_room frame text front rest start count NoMemory whole started tight h = tt
for_room frame text front rest start count (TextFault line code) whole started tight h = absurd h
for_room frame text front rest start count (BadSecond line) whole started tight h =
    inl (record { front = front; rest = rest; whole = whole; start = start; count = count; started = started; tight = tight; last = h })
