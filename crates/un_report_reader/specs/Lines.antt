-- The parts of a report, one after another: the text of each, which values it may have, and how many lines it takes.
use Rattle.std.specs.Prelude.{ℕ, ◌≡◌, ◌+◌, ◌-◌, ◌/◌, ◌^◌, ◌≤◌, true, List, ◌++◌, All, codes, decimal, length}
use Rattle.un_base.specs.Names.{is_name}
use Rattle.un_commands.specs.Settings.{IsCountOfNodes}
use Rattle.un_listing.specs.Listing.{code_lines}
use Rattle.un_model.specs.declared.model.Options.{Options}
use Rattle.un_packet.specs.declared.code.Code.{Code}
use Rattle.un_report.specs.declared.report.TheConstants.{NUMBERS}
use Rattle.un_report.specs.Reports.{model_text}
use Rattle.un_report_reader.specs.Limits.{AreWithin, IsAllowed}
use Rattle.un_report_reader.specs.Parts.{IsWithin}
use Rattle.un_report_reader.specs.declared.kind.Kind.{Kind}
use Rattle.un_report_reader.specs.declared.kind.Kind.TheVariants as KindOf
use Rattle.un_report_reader.specs.declared.limits.Limits.{Limits}
use Rattle.un_tree.specs.declared.node.Node.{Node}
use Rattle.un_tree.specs.Texts.{Fits}

-- one line
abbrev pub one : {V : Type 0} → V → ℕ
one v = 1

-- ---- the head

-- a line of a word and a number
abbrev pub number_text : List ℕ → ℕ → List ℕ
number_text word n = word ++ (decimal n ++ codes "\n")

-- the line of the version
abbrev pub version_text : ℕ → List ℕ
version_text = number_text (codes "unison ")

abbrev pub IsName : List ℕ → Type 0
IsName name = is_name name ≡ true

abbrev pub function_text : List ℕ → List ℕ
function_text name = codes "function " ++ (name ++ codes "\n")

-- the options of a model, and how many nodes a search was given
abbrev pub AreSettings : Limits → (Options × ℕ) → Type 0
AreSettings l s = AreWithin l s.0 × IsCountOfNodes s.1

abbrev pub settings_text : (Options × ℕ) → List ℕ
settings_text s = model_text s.0 s.1

-- ---- the answer

abbrev pub IsAny : Kind → Type 0
IsAny kind = Unit {0}

abbrev pub kind_text : Kind → List ℕ
kind_text KindOf.Code = codes "answer code\n"
kind_text KindOf.Infeasible = codes "answer infeasible\n"
kind_text KindOf.Spent = codes "answer spent\n"

-- a number of so many bits
abbrev pub IsLong : ℕ → Type 0
IsLong = IsWithin 0 (2 ^ 64 - 1)

abbrev pub IsShort : ℕ → Type 0
IsShort = IsWithin 0 (2 ^ 32 - 1)

abbrev pub cost_text : ℕ → List ℕ
cost_text = number_text (codes "cost ")

abbrev pub bound_text : ℕ → List ℕ
bound_text = number_text (codes "bound ")

-- how many lines a listing has, and that its frame is not too large
abbrev pub listing_head : ℕ → List ℕ
listing_head = number_text (codes "listing ")

abbrev pub HasLines : Limits → ℕ → Code → Type 0
HasLines l count c = (length (code_lines c) ≡ count) × (c.frame ≤ l.frame)

-- how many numbers a solution has
abbrev pub solution_head : ℕ → List ℕ
solution_head = number_text (codes "solution ")

abbrev pub AreNumbers : ℕ → List ℕ → Type 0
AreNumbers count xs = (length xs ≡ count) × All IsShort xs

-- how many lines so many numbers take
abbrev pub line_count : ℕ → ℕ
line_count count = (count + (NUMBERS - 1)) / NUMBERS

-- ---- the tree

-- how many lines a tree has: one for each node
abbrev pub tree_head : ℕ → List ℕ
tree_head = number_text (codes "tree ")

abbrev pub AreNodes : Limits → ℕ → List Node → Type 0
AreNodes l count nodes = (length nodes ≡ count) × All Fits nodes × All (IsAllowed l) nodes

abbrev pub IsPlain : Unit {0} → Type 0
IsPlain v = Unit {0}

abbrev pub end_text : Unit {0} → List ℕ
end_text v = codes "end\n"
