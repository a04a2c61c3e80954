-- The text of a refutation: a limit, a function, the options of its model, and a tree with mirrors, on a line for each node.
use Rattle.std.specs.Prelude.{ℕ, ◌≡◌, List, ◌++◌, All, codes, length}
use Rattle.un_model.specs.declared.model.Options.{Options}
use Rattle.un_report.specs.Reports.{regs_text}
use Rattle.un_report_reader.specs.Lines.{number_text, function_text}
use Rattle.un_symtree.specs.declared.node.SymNode.{SymNode}
use Rattle.un_symtree.specs.SymTexts.{SymFits, sym_text}
use Rattle.un_tree.specs.declared.node.Node.{Node}
use Rattle.un_tree.specs.Texts.{tree_text}
use Rattle.un_refutation.specs.declared.refutation.Refutation.{Refutation}

-- the line of the limit
abbrev pub limit_text : ℕ → List ℕ
limit_text = number_text (codes "refuted ")

-- the line of the options of a model
abbrev pub options_text : Options → List ℕ
options_text o = codes "model regs " ++ (regs_text o.regs ++ number_text (codes " slots ") o.slots)

-- the line of how many nodes there are
abbrev pub count_text : ℕ → List ℕ
count_text = number_text (codes "nodes ")

-- what stands behind the first line, with the lines of so many nodes
abbrev pub behind_limit : List ℕ → Options → ℕ → List ℕ → List ℕ
behind_limit name o count nodes = function_text name ++ (options_text o ++ (count_text count ++ (nodes ++ codes "end\n")))

abbrev pub refutation_text : ℕ → List ℕ → Options → List SymNode → List ℕ
refutation_text limit name o nodes = limit_text limit ++ behind_limit name o (length nodes) (sym_text nodes)

abbrev pub text_of : Refutation → List ℕ
text_of r = refutation_text r.limit r.name r.options r.tree.nodes.items

-- the text of a tree of a search for one that was cut off
abbrev pub cut_text : ℕ → List ℕ → Options → List Node → List ℕ
cut_text limit name o nodes = number_text (codes "cut ") limit ++ behind_limit name o (length nodes) (tree_text nodes)

-- so many nodes, whose numbers are of 32 bits
abbrev pub AreNodes : ℕ → List SymNode → Type 0
AreNodes count nodes = (length nodes ≡ count) × All SymFits nodes
