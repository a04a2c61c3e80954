-- The first line of a text that is outside the grammar of reports. Each relation here is of what is left of a text at a part of a
-- report and of a line, counted from there: the part is not there, and this is its first bad line, or it is, and the line is behind it.
-- What stands behind the version is read by the version's limits.
use Rattle.std.specs.Prelude.{ℕ, ◌≡◌, ◌≢◌, ◌+◌, ◌/◌, ◌<◌, ◌≤◌, ◌⊎◌, List, [], ◌∷◌, ◌++◌, All, codes, decimal, length, take}
use Rattle.std.specs.List.{concat}
use Rattle.un_base.specs.Lines.{pieces_of}
use Rattle.un_isa.specs.Versions.{IsVersion}
use Rattle.un_listing.specs.Listing.{code_text}
use Rattle.un_listing_reader.specs.Reading.{IsFirstBadWithin}
use Rattle.un_packet.specs.declared.code.Code.{Code}
use Rattle.un_report.specs.declared.report.TheConstants.{NUMBERS}
use Rattle.un_report.specs.Reports.{after_number, numbers_from, numbers_text}
use Rattle.un_report_reader.specs.declared.kind.Kind.{Kind}
use Rattle.un_report_reader.specs.declared.kind.Kind.TheVariants as KindOf
use Rattle.un_report_reader.specs.declared.limits.Limits.{Limits}
use Rattle.un_report_reader.specs.Limits.{limits_of, AreFewLines, IsAllowed}
use Rattle.un_report_reader.specs.Lines.{one, version_text, IsName, function_text, AreSettings, settings_text, IsAny, kind_text}
use Rattle.un_report_reader.specs.Lines.{IsLong, IsShort, cost_text, bound_text, listing_head, HasLines, solution_head, AreNumbers}
use Rattle.un_report_reader.specs.Lines.{line_count, tree_head, AreNodes, IsPlain, end_text}
use Rattle.un_tree.specs.declared.node.Node.{Node}
use Rattle.un_tree.specs.Texts.{Fits, node_line, tree_text}

-- ---- parts

-- the text of no good value stands here
abbrev pub BeginsNone : {V : Type 0} → (V → Type 0) → (V → List ℕ) → List ℕ → Type 0
BeginsNone {V} good text_of text = (v : V) (rest : List ℕ) → good v → text ≢ text_of v ++ rest

-- the line is the first, which should be that of a good value
abbrev pub IsBadLine : {V : Type 0} → (V → Type 0) → (V → List ℕ) → List ℕ → ℕ → Type 0
IsBadLine good text_of text line = BeginsNone good text_of text × (line ≡ 1)

-- the text of a good value stands here, and the line is bad behind it
pub record IsBadBehind {V : Type 0} (good : V → Type 0) (text_of : V → List ℕ) (lines_of : V → ℕ) (later : V → List ℕ → ℕ → Type 0)
    (text : List ℕ) (line : ℕ) : Type 0 where
  pub value : V
  pub rest : List ℕ
  pub behind : ℕ
  pub is_good : good value
  pub whole : text ≡ text_of value ++ rest
  pub is_bad : later value rest behind
  pub numbered : line ≡ lines_of value + behind

-- a part of one line, and what follows it
abbrev pub InLine : {V : Type 0} → (V → Type 0) → (V → List ℕ) → (V → List ℕ → ℕ → Type 0) → List ℕ → ℕ → Type 0
InLine good text_of later text line = IsBadLine good text_of text line ⊎ IsBadBehind good text_of one later text line

-- ---- the end

-- nothing follows the end
abbrev pub InNothing : List ℕ → ℕ → Type 0
InNothing text line = (text ≢ []) × (line ≡ 1)

abbrev pub InEnd : List ℕ → ℕ → Type 0
InEnd = InLine IsPlain end_text (λ v. InNothing)

-- ---- the tree

-- no line of a node that the report may have is the first line of the text
abbrev pub BeginsNoAllowed : Limits → List ℕ → Type 0
BeginsNoAllowed l text = (n : Node) (rest : List ℕ) → Fits n → IsAllowed l n → text ≢ node_line n ++ 10 ∷ rest

-- the lines so far are those of fewer nodes, and the next is no node's that the report may have
pub record IsBadNode (l : Limits) (count : ℕ) (text : List ℕ) (line : ℕ) : Type 0 where
  pub before : List Node
  pub rest : List ℕ
  pub fit : All Fits before
  pub allowed : All (IsAllowed l) before
  pub few : length before < count
  pub whole : text ≡ tree_text before ++ rest
  pub is_bad : BeginsNoAllowed l rest
  pub numbered : line ≡ length before + 1

abbrev pub InNodes : Limits → ℕ → List ℕ → ℕ → Type 0
InNodes l count text line = IsBadNode l count text line ⊎ IsBadBehind (AreNodes l count) tree_text length (λ nodes. InEnd) text line

abbrev pub InTree : Limits → List ℕ → ℕ → Type 0
InTree l = InLine (AreFewLines l) tree_head (InNodes l)

-- ---- the solution

-- the number at place k of so many does not stand here, with what stands after it
abbrev pub BeginsNoNumber : ℕ → ℕ → List ℕ → Type 0
BeginsNoNumber count k text = (n : ℕ) (rest : List ℕ) → IsShort n → text ≢ (decimal n ++ after_number count k) ++ rest

-- fewer numbers stand here, and the next does not; the line is the one in which it should
pub record IsBadNumber (count : ℕ) (text : List ℕ) (line : ℕ) : Type 0 where
  pub before : List ℕ
  pub rest : List ℕ
  pub short : All IsShort before
  pub few : length before < count
  pub whole : text ≡ numbers_from count 0 before ++ rest
  pub is_bad : BeginsNoNumber count (length before) rest
  pub numbered : line ≡ length before / NUMBERS + 1

abbrev pub numbers_lines : List ℕ → ℕ
numbers_lines xs = line_count (length xs)

abbrev pub InNumbers : Limits → ℕ → List ℕ → ℕ → Type 0
InNumbers l count text line =
    IsBadNumber count text line ⊎ IsBadBehind (AreNumbers count) numbers_text numbers_lines (λ xs. InTree l) text line

abbrev pub InSolution : Limits → List ℕ → ℕ → Type 0
InSolution l = InLine IsShort solution_head (InNumbers l)

-- a line of the solution itself
abbrev pub IsBadSolution : List ℕ → ℕ → Type 0
IsBadSolution = InLine IsShort solution_head IsBadNumber

-- of a text that is to be the solution alone: nothing follows its numbers
abbrev pub InLastNumbers : ℕ → List ℕ → ℕ → Type 0
InLastNumbers count text line =
    IsBadNumber count text line ⊎ IsBadBehind (AreNumbers count) numbers_text numbers_lines (λ xs. InNothing) text line

abbrev pub IsFirstBadAlone : List ℕ → ℕ → Type 0
IsFirstBadAlone text line = InLine IsShort solution_head InLastNumbers text line

-- ---- the listing

abbrev pub first_lines : ℕ → List ℕ → List ℕ
first_lines count text = concat (take count (pieces_of text))

-- the bad line of a listing is that of so many lines; where lines are missing, the text goes on with a byte that ends none
abbrev pub IsBadCode : Limits → ℕ → List ℕ → ℕ → Type 0
IsBadCode l count text line =
    ((count ≤ length (pieces_of text)) × IsFirstBadWithin l.frame (first_lines count text) line)
    ⊎ ((length (pieces_of text) < count) × IsFirstBadWithin l.frame (text ++ codes "?") line)

abbrev pub lines_in_code : ℕ → Code → ℕ
lines_in_code count c = count

abbrev pub InCode : Limits → ℕ → List ℕ → ℕ → Type 0
InCode l count text line =
    IsBadCode l count text line ⊎ IsBadBehind (HasLines l count) code_text (lines_in_code count) (λ c. InSolution l) text line

abbrev pub InListing : Limits → List ℕ → ℕ → Type 0
InListing l = InLine IsShort listing_head (InCode l)

-- ---- the answer

abbrev pub InBound : Limits → List ℕ → ℕ → Type 0
InBound l = InLine IsLong bound_text (λ bound. InListing l)

abbrev pub InCost : Limits → List ℕ → ℕ → Type 0
InCost l = InLine IsLong cost_text (λ cost. InBound l)

abbrev pub BehindKind : Limits → Kind → List ℕ → ℕ → Type 0
BehindKind l KindOf.Code = InCost l
BehindKind l KindOf.Infeasible = InTree l
BehindKind l KindOf.Spent = InTree l

abbrev pub InAnswer : Limits → List ℕ → ℕ → Type 0
InAnswer l = InLine IsAny kind_text (BehindKind l)

-- ---- the head

abbrev pub InModel : Limits → List ℕ → ℕ → Type 0
InModel l = InLine (AreSettings l) settings_text (λ settings. InAnswer l)

abbrev pub InFunction : Limits → List ℕ → ℕ → Type 0
InFunction l = InLine IsName function_text (λ name. InModel l)

abbrev pub InVersion : List ℕ → ℕ → Type 0
InVersion = InLine IsVersion version_text (λ v. InFunction (limits_of v))

-- the first line outside the grammar, counted from 1
abbrev pub IsFirstBad : List ℕ → ℕ → Type 0
IsFirstBad text line = InVersion text line
