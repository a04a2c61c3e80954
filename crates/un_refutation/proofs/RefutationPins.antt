-- Small texts of refutations, as they are to be printed, and some with a bad line.
use Rattle.std.proofs.Common.{ℕ, ◌≡◌, ◌+◌, inl, inr, List, [], ◌∷◌, ◌++◌, None, Some, codes, refl, arith}
use Rattle.std.specs.Fmt.{digits}
use Rattle.std.proofs.lemmas.List.Elements.{All-cons, All-nil}
use Rattle.un_commands.specs.Settings.{IsCountOfNodes}
use Rattle.un_model.specs.Options.{AreOptions}
use Rattle.un_model.specs.declared.model.Options.{Options}
use Rattle.un_report_reader.proofs.Once.{number_line_once}
use Rattle.un_report_reader.proofs.Through.{behind_line}
use Rattle.un_report_reader.specs.FirstBad.{BeginsNone, InEnd, InNothing}
use Rattle.un_report_reader.specs.Lines.{IsLong, IsName, function_text, IsPlain, end_text}
use Rattle.un_symtree.proofs.SymLines.{first_letter}
use Rattle.un_symtree.specs.SymTexts.{SymFits, BeginsNoSymNode}
use Rattle.un_symtree.specs.declared.node.SymNode.{SymNode}
use Rattle.un_symtree.specs.declared.node.SymNode.TheVariants.{Branch, Closed, Mirror}
use Rattle.un_tree.specs.declared.node.Node.TheVariants as Node
use Rattle.un_refutation.specs.FirstBad.{InNodes, InCount, InOptions, InName, IsFirstBad}
use Rattle.un_refutation.specs.Refutations.{limit_text, options_text, count_text, refutation_text, cut_text}

abbrev all_registers : Options
all_registers = record { regs = None; slots = 256 }

-- a mirror on the right of the second decision
abbrev mirrored : List SymNode
mirrored =
    Branch (record { 0 = 15 }) 36 ∷ Closed ∷ Branch (record { 0 = 15 }) 37 ∷ Mirror (record { 0 = 36 }) (record { 0 = 37 }) 0 ∷ Closed ∷ []

five_nodes : refutation_text 1 (codes "f") all_registers mirrored
    ≡ codes "refuted 1\nfunction f\nmodel regs all slots 256\nnodes 5\nB 15 36\nC\nB 15 37\nM 36 37 0\nC\nend\n"
unfolding digits
five_nodes = refl

few_registers : refutation_text 20 (codes "g") (record { regs = Some 3; slots = 0 }) (Closed ∷ [])
    ≡ codes "refuted 20\nfunction g\nmodel regs 3 slots 0\nnodes 1\nC\nend\n"
unfolding digits
few_registers = refl

cut_off : cut_text 1 (codes "f") all_registers (Node.Branch (record { 0 = 15 }) 36 ∷ Node.Closed ∷ Node.Open ∷ [])
    ≡ codes "cut 1\nfunction f\nmodel regs all slots 256\nnodes 3\nB 15 36\nC\nO\nend\n"
unfolding digits
cut_off = refl

-- ---- texts with a bad line

abbrev head : List ℕ
head = codes "refuted 1\nfunction f\nmodel regs all slots 256\n"

well_set : AreOptions all_registers
well_set = record { regs = tt; slots = omega arith }

-- the bad line is behind the first three
behind_three : (rest : List ℕ) (line : ℕ) → InCount rest line → IsFirstBad (head ++ rest) (1 + (1 + (1 + line)))
unfolding digits
behind_three rest line bad =
    behind_line IsLong limit_text (λ limit. InName) 1 (head ++ rest)
    (codes "function f\nmodel regs all slots 256\n" ++ rest) (1 + (1 + line)) (omega arith, omega arith) refl
    (behind_line IsName function_text (λ name. InOptions) (codes "f") (codes "function f\nmodel regs all slots 256\n" ++ rest)
    (codes "model regs all slots 256\n" ++ rest) (1 + line) refl refl
    (behind_line AreOptions options_text (λ o. InCount) all_registers (codes "model regs all slots 256\n" ++ rest) rest line well_set
    refl bad))

-- behind a tree of one node
behind_node : (rest : List ℕ) (line : ℕ) → InEnd rest line → InCount (codes "nodes 1\nC\n" ++ rest) (1 + (1 + line))
unfolding digits
behind_node rest line bad =
    behind_line IsCountOfNodes count_text InNodes 1 (codes "nodes 1\nC\n" ++ rest) (codes "C\n" ++ rest) (1 + line)
    (omega arith, omega arith) refl
    (inr (record {
      value = Closed ∷ [];
      rest = rest;
      behind = line;
      is_good = (refl, All-cons SymFits Closed [] tt (All-nil SymFits));
      whole = refl;
      is_bad = bad;
      numbered = refl;
    }))

-- without an end the line behind the last is bad
no_end : IsFirstBad (codes "refuted 1\nfunction f\nmodel regs all slots 256\nnodes 1\nC\n") 6
no_end = behind_three (codes "nodes 1\nC\n") 3 (behind_node [] 1 (inl ((λ v rest good e. cc e), refl)))

-- and with a line behind the end that line
past_end : IsFirstBad (codes "refuted 1\nfunction f\nmodel regs all slots 256\nnodes 1\nC\nend\nend\n") 7
past_end = behind_three (codes "nodes 1\nC\nend\nend\n") 4 (behind_node (codes "end\nend\n") 2
    (behind_line IsPlain end_text (λ v. InNothing) tt (codes "end\nend\n") (codes "end\n") 1 tt refl ((λ e. cc e), refl)))

not_none : BeginsNone IsCountOfNodes count_text (codes "nodes 0\nend\n")
unfolding digits
not_none count rest good e =
    let same = (number_line_once (codes "nodes ") 0 200000 (omega arith) 0 count (codes "end\n") rest (omega arith, omega arith)
    (omega arith, omega (arith, good.1)) e).0 in
    omega (arith, same, good.0)

-- a tree has a node
no_nodes : IsFirstBad (codes "refuted 1\nfunction f\nmodel regs all slots 256\nnodes 0\nend\n") 4
no_nodes = behind_three (codes "nodes 0\nend\n") 1 (inl (not_none, refl))

-- an open leaf is no node of a refutation, nor is the end
no_leaf : BeginsNoSymNode (codes "O\nend\n")
no_leaf (Branch v x) rest fit e = omega (arith, first_letter _ _ e)
no_leaf Closed rest fit e = omega (arith, first_letter _ _ e)
no_leaf (Mirror a b d) rest fit e = omega (arith, first_letter _ _ e)

open_leaf : IsFirstBad (codes "refuted 1\nfunction f\nmodel regs all slots 256\nnodes 1\nO\nend\n") 5
unfolding digits
open_leaf = behind_three (codes "nodes 1\nO\nend\n") 2
    (behind_line IsCountOfNodes count_text InNodes 1 (codes "nodes 1\nO\nend\n") (codes "O\nend\n") 1 (omega arith, omega arith) refl
    (inl (record {
      before = [];
      rest = codes "O\nend\n";
      fit = All-nil SymFits;
      few = omega arith;
      whole = refl;
      is_bad = no_leaf;
      numbered = refl;
    })))

-- nor is the end, where more nodes were to come
no_line : BeginsNoSymNode (codes "end\n")
no_line (Branch v x) rest fit e = omega (arith, first_letter _ _ e)
no_line Closed rest fit e = omega (arith, first_letter _ _ e)
no_line (Mirror a b d) rest fit e = omega (arith, first_letter _ _ e)

one_missing : IsFirstBad (codes "refuted 1\nfunction f\nmodel regs all slots 256\nnodes 2\nC\nend\n") 6
unfolding digits
one_missing = behind_three (codes "nodes 2\nC\nend\n") 3
    (behind_line IsCountOfNodes count_text InNodes 2 (codes "nodes 2\nC\nend\n") (codes "C\nend\n") 2 (omega arith, omega arith) refl
    (inl (record {
      before = Closed ∷ [];
      rest = codes "end\n";
      fit = All-cons SymFits Closed [] tt (All-nil SymFits);
      few = omega arith;
      whole = refl;
      is_bad = no_line;
      numbered = refl;
    })))
