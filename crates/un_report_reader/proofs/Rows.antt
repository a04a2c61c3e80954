-- Small texts of reports, read by hand: a whole one, and some with a bad line.
use Rattle.std.proofs.Common.{ℕ, ◌≡◌, ◌≢◌, ◌+◌, inl, inr, List, [], ◌∷◌, ◌++◌, All, None, codes, decimal, length}
use Rattle.std.proofs.Common.{get_or, refl, sym, ap, ◌∙◌, subst, arith}
use Rattle.std.specs.Fmt.{digits}
use Rattle.std.proofs.lemmas.List.Elements.{All-cons, All-nil, All-from_recursion}
use Rattle.un_base.specs.Names.{is_name}
use Rattle.un_commands.specs.Settings.{IsCountOfNodes}
use Rattle.un_isa.specs.Versions.{IsVersion}
use Rattle.un_model.specs.declared.model.Options.{Options}
use Rattle.un_report.specs.declared.report.Answered.{Answered}
use Rattle.un_report.specs.declared.report.Answered.TheVariants.{Spent}
use Rattle.un_report.specs.declared.report.Report.{Report}
use Rattle.un_report_reader.proofs.NumberLaws.{number_here}
use Rattle.un_report_reader.proofs.Once.{number_line_once}
use Rattle.un_report_reader.proofs.Through.{behind_line}
use Rattle.un_report_reader.proofs.WholeTexts.{IsText, flat, text_is_good}
use Rattle.un_report_reader.specs.Answers.{IsAnswer}
use Rattle.un_report_reader.specs.FirstBad.{BeginsNoAllowed, BeginsNone, BehindKind, IsBadNumber, InFunction, InModel, InAnswer, InTree}
use Rattle.un_report_reader.specs.FirstBad.{InNodes, InEnd, InNothing, IsFirstBad}
use Rattle.un_report_reader.specs.Limits.{AreFewLines, IsAllowed, limits_of}
use Rattle.un_report_reader.specs.Lines.{version_text, IsName, function_text, AreSettings, settings_text, IsAny, kind_text}
use Rattle.un_report_reader.specs.Lines.{IsShort, tree_head, IsPlain, end_text}
use Rattle.un_report_reader.specs.Readings.{IsReportRead}
use Rattle.un_report_reader.specs.declared.kind.Kind.TheVariants as KindOf
use Rattle.un_base.proofs.Cuts.{cut_none}
use Rattle.un_tree.specs.Texts.{Fits, node_line, tree_text}
use Rattle.un_tree.specs.declared.node.Node.{Node}
use Rattle.un_tree.specs.declared.node.Node.TheVariants.{Branch, Closed, Open, Split, Part}

-- ---- a whole text

abbrev all_registers : Options
all_registers = record { regs = None; slots = 64 }

-- the report of a search that stopped at once
record IsStopped (r : Report) : Type 0 where
  pub version : r.version ≡ 1
  pub name : r.name ≡ codes "f"
  pub options : r.options ≡ all_registers
  pub nodes : r.nodes ≡ 1
  pub answer : r.answer ≡ Spent
  pub tree : r.tree.nodes.items ≡ Open ∷ []

abbrev stopped_text : List ℕ
stopped_text = codes "unison 1\nfunction f\nmodel regs all slots 64 nodes 1\nanswer spent\ntree 1\nO\nend\n"

well_set : AreSettings (limits_of 1) (all_registers, 1)
well_set = (record { regs = tt; slots = omega arith }, (omega arith, omega arith))

one_fits : All Fits (Open ∷ [])
one_fits = All-cons Fits Open [] tt (All-nil Fits)

one_allowed : All (IsAllowed (limits_of 1)) (Open ∷ [])
one_allowed = All-cons (IsAllowed (limits_of 1)) Open [] (λ no. tt) (All-nil (IsAllowed (limits_of 1)))

whole_parts : IsText stopped_text 1 (codes "f") all_registers 1 Spent 1 (tree_text (Open ∷ []))
unfolding digits
whole_parts = record { versioned = (omega arith, omega arith); named = refl; settled = well_set; answered = tt; counted = (omega arith, omega arith); whole = refl }

no_line_is_bad : (line : ℕ) → ¬ IsFirstBad stopped_text line
no_line_is_bad line bad =
    text_is_good stopped_text 1 (codes "f") all_registers 1 Spent 1 (Open ∷ []) line whole_parts (refl, one_fits, one_allowed) bad

stopped_flat : stopped_text ≡ flat 1 (codes "f") all_registers 1 Spent 1 (tree_text (Open ∷ []))
unfolding digits
stopped_flat = refl

is_read : (r : Report) → IsStopped r → IsReportRead stopped_text r
is_read r h = record {
  is_report = record {
    version = subst IsVersion (sym h.version) (omega arith, omega arith);
    name = ap is_name h.name;
    options = rw (h.version, h.options) well_set.0;
    nodes = subst IsCountOfNodes (sym h.nodes) well_set.1;
    answer = subst (IsAnswer (limits_of r.version)) (sym h.answer) tt;
    count = subst (λ (v : ℕ). AreFewLines (limits_of v) (length r.tree.nodes.items)) (sym h.version)
        (subst (λ (ns : List Node). AreFewLines (limits_of 1) (length ns)) (sym h.tree) (omega arith, omega arith));
    fit = subst (λ (ns : List Node). All Fits ns) (sym h.tree) one_fits;
    allowed = subst (λ (ns : List Node). All (IsAllowed (limits_of r.version)) ns) (sym h.tree)
        (All-cons (IsAllowed (limits_of r.version)) Open [] (λ no. tt) (All-nil (IsAllowed (limits_of r.version))));
  };
  spelled = stopped_flat ∙ sym (
      ap (λ (v : ℕ). flat v r.name r.options r.nodes r.answer (length r.tree.nodes.items) (tree_text r.tree.nodes.items)) h.version
      ∙ (ap (λ (name : List ℕ). flat 1 name r.options r.nodes r.answer (length r.tree.nodes.items) (tree_text r.tree.nodes.items)) h.name
      ∙ (ap (λ (o : Options). flat 1 (codes "f") o r.nodes r.answer (length r.tree.nodes.items) (tree_text r.tree.nodes.items)) h.options
      ∙ (ap (λ (n : ℕ). flat 1 (codes "f") all_registers n r.answer (length r.tree.nodes.items) (tree_text r.tree.nodes.items)) h.nodes
      ∙ (ap (λ (a : Answered). flat 1 (codes "f") all_registers 1 a (length r.tree.nodes.items) (tree_text r.tree.nodes.items)) h.answer
      ∙ ap (λ (ns : List Node). flat 1 (codes "f") all_registers 1 Spent (length ns) (tree_text ns)) h.tree)))));
}

-- ---- texts with a bad line

abbrev before_tree : List ℕ
before_tree = codes "unison 1\nfunction f\nmodel regs all slots 64 nodes 1\nanswer spent\n"

-- the bad line is behind the first four
behind_four : (rest : List ℕ) (line : ℕ) → InTree (limits_of 1) rest line → IsFirstBad (before_tree ++ rest) (1 + (1 + (1 + (1 + line))))
unfolding digits
behind_four rest line bad =
    behind_line IsVersion version_text (λ v. InFunction (limits_of v)) 1 (before_tree ++ rest)
    (codes "function f\nmodel regs all slots 64 nodes 1\nanswer spent\n" ++ rest) (1 + (1 + (1 + line))) (omega arith, omega arith) refl
    (behind_line IsName function_text (λ n. InModel (limits_of 1)) (codes "f")
    (codes "function f\nmodel regs all slots 64 nodes 1\nanswer spent\n" ++ rest)
    (codes "model regs all slots 64 nodes 1\nanswer spent\n" ++ rest) (1 + (1 + line)) refl refl
    (behind_line (AreSettings (limits_of 1)) settings_text (λ s. InAnswer (limits_of 1)) (all_registers, 1)
    (codes "model regs all slots 64 nodes 1\nanswer spent\n" ++ rest) (codes "answer spent\n" ++ rest) (1 + line) well_set refl
    (behind_line IsAny kind_text (BehindKind (limits_of 1)) KindOf.Spent (codes "answer spent\n" ++ rest) rest line tt refl bad)))

-- behind a tree of one node
behind_node : (rest : List ℕ) (line : ℕ) → InEnd rest line → InTree (limits_of 1) (codes "tree 1\nO\n" ++ rest) (1 + (1 + line))
unfolding digits
behind_node rest line bad =
    behind_line (AreFewLines (limits_of 1)) tree_head (InNodes (limits_of 1)) 1 (codes "tree 1\nO\n" ++ rest) (codes "O\n" ++ rest) (1 + line)
    (omega arith, omega arith) refl
    (inr (record {
      value = Open ∷ [];
      rest = rest;
      behind = line;
      is_good = (refl, one_fits, one_allowed);
      whole = refl;
      is_bad = bad;
      numbered = refl;
    }))

-- without an end the line behind the last is bad
no_end : IsFirstBad (codes "unison 1\nfunction f\nmodel regs all slots 64 nodes 1\nanswer spent\ntree 1\nO\n") 7
no_end = behind_four (codes "tree 1\nO\n") 3 (behind_node [] 1 (inl ((λ v rest good e. cc e), refl)))

-- and with a line behind the end that line
past_end : IsFirstBad (codes "unison 1\nfunction f\nmodel regs all slots 64 nodes 1\nanswer spent\ntree 1\nO\nend\nend\n") 8
past_end = behind_four (codes "tree 1\nO\nend\nend\n") 4 (behind_node (codes "end\nend\n") 2
    (behind_line IsPlain end_text (λ v. InNothing) tt (codes "end\nend\n") (codes "end\n") 1 tt refl ((λ e. cc e), refl)))

not_none : BeginsNone (AreFewLines (limits_of 1)) tree_head (codes "tree 0\nend\n")
unfolding digits
not_none count rest good e =
    let same = (number_line_once (codes "tree ") 0 200000 (omega arith) 0 count (codes "end\n") rest (omega arith, omega arith)
    (omega arith, omega (arith, good.1)) e).0 in
    omega (arith, same, good.0)

-- a tree has a node
no_nodes : IsFirstBad (codes "unison 1\nfunction f\nmodel regs all slots 64 nodes 1\nanswer spent\ntree 0\nend\n") 5
no_nodes = behind_four (codes "tree 0\nend\n") 1 (inl (not_none, refl))

no_space : All (λ y. y ≢ 32) (codes "1\n2\n")
no_space = All-from_recursion (λ y. y ≢ 32) (codes "1\n2\n")
    ((λ e. omega (arith, e)), ((λ e. omega (arith, e)), ((λ e. omega (arith, e)), ((λ e. omega (arith, e)), tt))))

-- two numbers stand on one line, so a line feed behind the first is none of theirs
short_line : IsBadNumber 2 (codes "1\n2\n") 1
short_line = record {
  before = [];
  rest = codes "1\n2\n";
  short = All-nil IsShort;
  few = omega arith;
  whole = refl;
  is_bad = λ n rest short e. cut_none 32 (codes "1\n2\n") (decimal n) rest no_space (e ∙ number_here 2 0 n rest);
  numbered = refl;
}

-- ---- what the versions have

-- a Split stands in no tree of the first version
first_byte : (n : Node) (text rest : List ℕ) → text ≡ node_line n ++ 10 ∷ rest → get_or text 0 0 ≡ get_or (node_line n ++ 10 ∷ rest) 0 0
first_byte n text rest e = ap (λ (t : List ℕ). get_or t 0 0) e

no_split : BeginsNoAllowed (limits_of 1) (codes "S\nend\n")
no_split (Branch v x) rest fit allowed e = omega (arith, first_byte (Branch v x) (codes "S\nend\n") rest e)
no_split Closed rest fit allowed e = omega (arith, first_byte Closed (codes "S\nend\n") rest e)
no_split Open rest fit allowed e = omega (arith, first_byte Open (codes "S\nend\n") rest e)
no_split Split rest fit allowed e = allowed refl
no_split (Part number) rest fit allowed e = allowed refl

split_in_first : IsFirstBad (codes "unison 1\nfunction f\nmodel regs all slots 64 nodes 1\nanswer spent\ntree 1\nS\nend\n") 6
unfolding digits
split_in_first = behind_four (codes "tree 1\nS\nend\n") 2
    (behind_line (AreFewLines (limits_of 1)) tree_head (InNodes (limits_of 1)) 1 (codes "tree 1\nS\nend\n") (codes "S\nend\n") 1
    (omega arith, omega arith) refl
    (inl (record {
      before = [];
      rest = codes "S\nend\n";
      fit = All-nil Fits;
      allowed = All-nil (IsAllowed (limits_of 1));
      few = omega arith;
      whole = refl;
      is_bad = no_split;
      numbered = refl;
    })))

-- from the second on it does, and a tree may have twice as many lines
splits_later : IsAllowed (limits_of 2) Split × IsAllowed (limits_of 3) (Part None)
splits_later = ((λ no. absurd (cc no)), (λ no. absurd (cc no)))

lines_of_versions : ((limits_of 1).lines ≡ 200000) × ((limits_of 2).lines ≡ 400000) × ((limits_of 3).lines ≡ 400000)
lines_of_versions = (refl, refl, refl)
