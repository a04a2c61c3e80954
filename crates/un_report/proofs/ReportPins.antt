-- Parts of reports, as they are to be printed.
use Rattle.std.proofs.Common.{◌≡◌, [], ◌∷◌, None, Some, codes, refl}
use Rattle.std.specs.Fmt.{digits}
use Rattle.un_report.specs.Reports.{head_text, numbers_text, solution_text, model_text, costs_text, answer_text, tree_part}
use Rattle.un_report.specs.declared.report.Report.{Report}
use Rattle.un_report.specs.declared.report.Answered.TheVariants.{Infeasible, Spent}
use Rattle.un_tree.specs.declared.node.Node.TheVariants.{Branch, Closed, Open, Split, Part}

-- the first line of a report of each version
first_head : (r : Report) → r.version ≡ 1 → r.name ≡ codes "f" → r.options ≡ record { regs = None; slots = 64 } → r.nodes ≡ 1
    → head_text r ≡ codes "unison 1\nfunction f\nmodel regs all slots 64 nodes 1\n"
unfolding digits
first_head r version name options nodes = rw (version, name, options, nodes) refl

second_head : (r : Report) → r.version ≡ 2 → r.name ≡ codes "f" → r.options ≡ record { regs = None; slots = 256 } → r.nodes ≡ 1
    → head_text r ≡ codes "unison 2\nfunction f\nmodel regs all slots 256 nodes 1\n"
unfolding digits
second_head r version name options nodes = rw (version, name, options, nodes) refl

third_head : (r : Report) → r.version ≡ 3 → r.name ≡ codes "f" → r.options ≡ record { regs = None; slots = 256 } → r.nodes ≡ 1
    → head_text r ≡ codes "unison 3\nfunction f\nmodel regs all slots 256 nodes 1\n"
unfolding digits
third_head r version name options nodes = rw (version, name, options, nodes) refl

one_register : model_text (record { regs = Some 1; slots = 64 }) 2000 ≡ codes "model regs 1 slots 64 nodes 2000\n"
unfolding digits
one_register = refl

all_registers : model_text (record { regs = None; slots = 64 }) 1 ≡ codes "model regs all slots 64 nodes 1\n"
unfolding digits
all_registers = refl

no_code : answer_text Infeasible ≡ codes "answer infeasible\n"
no_code = refl

stopped : answer_text Spent ≡ codes "answer spent\n"
stopped = refl

costs : costs_text 6 1 ≡ codes "answer code\ncost 6\nbound 1\n"
unfolding digits
costs = refl

closed_tree : tree_part (Closed ∷ []) ≡ codes "tree 1\nC\nend\n"
unfolding digits
closed_tree = refl

branch_tree : tree_part (Branch (record { 0 = 122 }) 2 ∷ Open ∷ Closed ∷ []) ≡ codes "tree 3\nB 122 2\nO\nC\nend\n"
unfolding digits
branch_tree = refl

-- the lines of parts are counted
parts_tree : tree_part (Split ∷ Part (Some 3) ∷ Closed ∷ Part None ∷ Closed ∷ []) ≡ codes "tree 5\nS\nP 3\nC\nP -\nC\nend\n"
unfolding digits
parts_tree = refl

-- sixteen numbers stand on a line, and the last line ends too
seventeen : solution_text (16 ∷ 17 ∷ 18 ∷ 19 ∷ 20 ∷ 21 ∷ 22 ∷ 23 ∷ 24 ∷ 25 ∷ 26 ∷ 27 ∷ 31 ∷ 0 ∷ 0 ∷ 0 ∷ 7 ∷ [])
    ≡ codes "solution 17\n16 17 18 19 20 21 22 23 24 25 26 27 31 0 0 0\n7\n"
unfolding digits
seventeen = refl

one_line : numbers_text (1 ∷ 0 ∷ 0 ∷ 0 ∷ 0 ∷ 0 ∷ 0 ∷ 0 ∷ 0 ∷ 0 ∷ 0 ∷ 0 ∷ 1 ∷ 0 ∷ 0 ∷ 0 ∷ [])
    ≡ codes "1 0 0 0 0 0 0 0 0 0 0 0 1 0 0 0\n"
unfolding digits
one_line = refl
