-- The answer, as one part, and its own parts.
use Rattle.std.specs.Prelude.{ℕ, ◌≡◌, ◌+◌, ◌≤◌, ⊤, List, [], ◌++◌, All, length}
use Rattle.un_base.specs.Lines.{pieces_of}
use Rattle.un_listing.specs.Listing.{code_lines}
use Rattle.un_listing_reader.specs.declared.read.ListingError.{ListingError}
use Rattle.un_listing_reader.specs.declared.read.ListingError.TheVariants as ListingErrors
use Rattle.un_packet.specs.declared.code.Code.{Code as CodeValue}
use Rattle.un_report.specs.Reports.{listing_text, solution_text}
use Rattle.un_report.specs.declared.report.Answered.{Answered}
use Rattle.un_report.specs.declared.report.Answered.TheVariants.{Code, Infeasible, Spent}
use Rattle.un_report_reader.specs.Errors.{Names, IsRead}
use Rattle.un_report_reader.specs.Lines.{IsLong, IsShort, cost_text, bound_text, line_count}
use Rattle.un_report_reader.specs.declared.error.ReportError.{ReportError}
use Rattle.un_report_reader.specs.declared.error.ReportError.TheVariants.{NoMemory}
use Rattle.un_report_reader.specs.declared.kind.Kind.{Kind}
use Rattle.un_report_reader.specs.declared.kind.Kind.TheVariants as KindOf
use Rattle.un_report_reader.specs.declared.limits.Limits.{Limits}
use Rattle.un_report_reader.specs.declared.place.Place.{Place}

-- ---- cost and bound

abbrev pub AreCosts : (ℕ × ℕ) → Type 0
AreCosts p = IsLong p.0 × IsLong p.1

abbrev pub costs_lines : (ℕ × ℕ) → List ℕ
costs_lines p = cost_text p.0 ++ bound_text p.1

abbrev pub two : (ℕ × ℕ) → ℕ
two p = 2

-- ---- the listing

-- the first lines of a text, so many, and what is left behind them
pub record IsBehindLines (text : List ℕ) (count : ℕ) (rest : List ℕ) : Type 0 where
  pub lines : List (List ℕ)
  pub cut : pieces_of text ≡ lines ++ pieces_of rest
  pub counted : length lines ≡ count

-- an error of a listing that begins at a place, counted from there
abbrev pub IsErrorFrom : Place → ListingError → ReportError → Type 0
IsErrorFrom at ListingErrors.NoMemory e = e ≡ NoMemory
IsErrorFrom at (ListingErrors.BadListing line) e = Names (at.lines + line) e

-- the number of its lines is one of 32 bits, and its frame is not too large
abbrev pub IsListed : Limits → CodeValue → Type 0
IsListed l c = IsShort (length (code_lines c)) × (c.frame ≤ l.frame)

abbrev pub listing_lines : CodeValue → ℕ
listing_lines c = 1 + length (code_lines c)

abbrev pub IsListingRead : Limits → Place → CodeValue → Place → Type 0
IsListingRead l = IsRead (IsListed l) listing_text listing_lines

-- ---- the solution

-- numbers of 32 bits, and no more of them than such a number
abbrev pub AreValues : List ℕ → Type 0
AreValues xs = IsShort (length xs) × All IsShort xs

abbrev pub solution_lines : List ℕ → ℕ
solution_lines xs = 1 + line_count (length xs)

abbrev pub IsSolutionRead : Place → List ℕ → Place → Type 0
IsSolutionRead = IsRead AreValues solution_text solution_lines

-- ---- answers

abbrev pub kind_of : Answered → Kind
kind_of (Code cost bound code solution) = KindOf.Code
kind_of Infeasible = KindOf.Infeasible
kind_of Spent = KindOf.Spent

-- its numbers are of 64 bits and of 32 bits, as they are in a report
abbrev pub IsAnswer : Limits → Answered → Type 0
IsAnswer l (Code cost bound code solution) = IsLong cost × IsLong bound × IsListed l code × AreValues solution.values
IsAnswer l Infeasible = ⊤
IsAnswer l Spent = ⊤

-- what stands behind the line of its kind
abbrev pub behind_kind : Answered → List ℕ
behind_kind (Code cost bound code solution) =
    cost_text cost ++ (bound_text bound ++ (listing_text code ++ solution_text solution.values))
behind_kind Infeasible = []
behind_kind Spent = []

abbrev pub lines_behind : Answered → ℕ
lines_behind (Code cost bound code solution) = 2 + (listing_lines code + solution_lines solution.values)
lines_behind Infeasible = 0
lines_behind Spent = 0

abbrev pub answer_lines : Answered → ℕ
answer_lines a = 1 + lines_behind a

-- code behind the line of its kind
pub record IsCodeRead (l : Limits) (at : Place) (a : Answered) (next : Place) : Type 0 where
  pub is_code : kind_of a ≡ KindOf.Code
  pub is_read : IsRead (IsAnswer l) behind_kind lines_behind at a next
