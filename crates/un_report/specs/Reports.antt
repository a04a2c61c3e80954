-- The text of a report.
use Rattle.std.specs.Prelude.{ℕ, ◌+◌, ◌%◌, ◌||◌, ◌==◌, List, [], ◌∷◌, ◌++◌, Option, None, Some, length, codes, decimal, if◌then◌else◌}
use Rattle.un_listing.specs.Listing.{code_lines, code_text}
use Rattle.un_model.specs.declared.model.Options.{Options}
use Rattle.un_packet.specs.declared.code.Code.{Code as CodeValue}
use Rattle.un_report.specs.declared.report.TheConstants.{NUMBERS}
use Rattle.un_report.specs.declared.report.Answered.{Answered}
use Rattle.un_report.specs.declared.report.Answered.TheVariants.{Code, Infeasible, Spent}
use Rattle.un_report.specs.declared.report.Report.{Report}
use Rattle.un_tree.specs.Texts.{tree_text}
use Rattle.un_tree.specs.declared.node.Node.{Node}

-- what stands after the number at place k of so many: a line feed after the last one of a line and after the last one of all
abbrev pub after_number : ℕ → ℕ → List ℕ
after_number count k = if (k + 1) % NUMBERS == 0 || k + 1 == count then codes "\n" else codes " "

-- numbers from place k on, of so many
abbrev pub numbers_from : ℕ → ℕ → List ℕ → List ℕ
numbers_from count k [] = []
numbers_from count k (x ∷ xs) = (decimal x ++ after_number count k) ++ numbers_from count (k + 1) xs

abbrev pub numbers_text : List ℕ → List ℕ
numbers_text xs = numbers_from (length xs) 0 xs

abbrev pub solution_text : List ℕ → List ℕ
solution_text xs = codes "solution " ++ decimal (length xs) ++ codes "\n" ++ numbers_text xs

-- how many lines the listing has, and the listing
abbrev pub listing_text : CodeValue → List ℕ
listing_text c = codes "listing " ++ decimal (length (code_lines c)) ++ codes "\n" ++ code_text c

abbrev pub regs_text : Option ℕ → List ℕ
regs_text None = codes "all"
regs_text (Some n) = decimal n

abbrev pub model_text : Options → ℕ → List ℕ
model_text o nodes =
    codes "model regs " ++ regs_text o.regs ++ codes " slots " ++ decimal o.slots ++ codes " nodes " ++ decimal nodes ++ codes "\n"

abbrev pub costs_text : ℕ → ℕ → List ℕ
costs_text cost bound = codes "answer code\ncost " ++ decimal cost ++ codes "\nbound " ++ decimal bound ++ codes "\n"

abbrev pub answer_text : Answered → List ℕ
answer_text (Code cost bound code solution) = costs_text cost bound ++ listing_text code ++ solution_text solution.values
answer_text Infeasible = codes "answer infeasible\n"
answer_text Spent = codes "answer spent\n"

abbrev pub tree_part : List Node → List ℕ
tree_part nodes = codes "tree " ++ decimal (length nodes) ++ codes "\n" ++ tree_text nodes ++ codes "end\n"

-- the lines before the answer, the first of which is that of the version
abbrev pub head_text : Report → List ℕ
head_text r = codes "unison " ++ decimal r.version ++ codes "\nfunction " ++ r.name ++ codes "\n" ++ model_text r.options r.nodes

abbrev pub report_text : Report → List ℕ
report_text r = head_text r ++ answer_text r.answer ++ tree_part r.tree.nodes.items
