-- Refutations are told by their texts, no line of one is bad, and what is read part by part is one.
use Rattle.std.proofs.Common.{◌≡◌, ℕ, ◌-◌, ◌^◌, inl, inr, List, [], ◌++◌, All, Result, Ok, Err, IfOk, IfErr, codes, length}
use Rattle.std.proofs.Common.{refl, sym, ap, ◌∙◌, subst, arith}
use Rattle.un_commands.specs.Settings.{IsCountOfNodes}
use Rattle.un_commands.specs.declared.command.TheConstants.{MOST_NODES}
use Rattle.un_model.specs.Options.{AreOptions}
use Rattle.un_model.specs.declared.model.Options.{Options}
use Rattle.un_report_reader.proofs.Once.{Once, good_behind, good_line, number_line_once, function_once, end_once}
use Rattle.un_report_reader.proofs.Through.{in_line, past_line, through, weaker}
use Rattle.un_report_reader.specs.Errors.{IsErrorAt, IsRead}
use Rattle.un_report_reader.specs.FirstBad.{IsBadLine, InEnd, InNothing}
use Rattle.un_report_reader.specs.Lines.{one, IsLong, IsName, function_text, IsPlain, end_text}
use Rattle.un_report_reader.specs.declared.error.ReportError.{ReportError}
use Rattle.un_report_reader.specs.declared.error.ReportError.TheVariants.{NoMemory, BadReport}
use Rattle.un_report_reader.specs.declared.place.Place.{Place}
use Rattle.un_symtree.specs.SymTexts.{SymFits, sym_text}
use Rattle.un_symtree.specs.declared.node.SymNode.{SymNode}
use Rattle.un_refutation.proofs.NodeLaws.{nodes_once, no_bad_node}
use Rattle.un_refutation.proofs.OptionLaws.{options_once}
use Rattle.un_refutation.specs.FirstBad.{IsBadNode, InNodes, InCount, InOptions, InName, IsFirstBad}
use Rattle.un_refutation.specs.Readings.{IsRefutation, IsRefutationRead, IsErrorOf, AreSame, IsRefutationBack}
use Rattle.un_refutation.specs.Refutations.{limit_text, options_text, count_text, text_of, AreNodes}
use Rattle.un_refutation.specs.declared.refutation.Refutation.{Refutation}

-- ---- the parts, each told by its text

limit_once : Once IsLong limit_text
limit_once = number_line_once (codes "refuted ") 0 (2 ^ 64 - 1) (omega arith)

count_once : Once IsCountOfNodes count_text
count_once = number_line_once (codes "nodes ") 1 MOST_NODES (omega arith)

-- ---- what is left of the text of a refutation at its parts

abbrev at_nodes : List SymNode → List ℕ
at_nodes nodes = sym_text nodes ++ codes "end\n"

abbrev at_count : List SymNode → List ℕ
at_count nodes = count_text (length nodes) ++ at_nodes nodes

abbrev at_options : Options → List SymNode → List ℕ
at_options o nodes = options_text o ++ at_count nodes

abbrev at_name : List ℕ → Options → List SymNode → List ℕ
at_name name o nodes = function_text name ++ at_options o nodes

-- ---- no line is bad

none_at_end : (line : ℕ) → InEnd (codes "end\n") line → ⊥
none_at_end line bad =
    good_line IsPlain end_text (λ v. InNothing) end_once tt (codes "end\n") [] line tt refl (λ k nothing. nothing.0 refl) bad

none_at_nodes : (nodes : List SymNode) (line : ℕ) → All SymFits nodes → InNodes (length nodes) (at_nodes nodes) line → ⊥
none_at_nodes nodes line fit (inl own) = no_bad_node (length nodes) nodes (codes "end\n") (at_nodes nodes) line (refl, fit) refl own
none_at_nodes nodes line fit (inr behind) =
    good_behind (AreNodes (length nodes)) sym_text length (λ ns. InEnd) (nodes_once (length nodes)) nodes (at_nodes nodes)
    (codes "end\n") line (refl, fit) refl none_at_end behind

pub none_bad : (text : List ℕ) (r : Refutation) (line : ℕ) → IsRefutation r → text ≡ text_of r → IsFirstBad text line → ⊥
none_bad text r line good is bad =
    let nodes : List SymNode = r.tree.nodes.items in
    let in_nodes = λ (k : ℕ) (b : InNodes (length nodes) (at_nodes nodes) k). none_at_nodes nodes k good.fit b in
    let in_count = λ (k : ℕ) (b : InCount (at_count nodes) k).
    good_line IsCountOfNodes count_text InNodes count_once (length nodes) (at_count nodes) (at_nodes nodes) k good.count refl in_nodes b in
    let in_options = λ (k : ℕ) (b : InOptions (at_options r.options nodes) k).
    good_line AreOptions options_text (λ o. InCount) options_once r.options (at_options r.options nodes) (at_count nodes) k
    good.options refl in_count b in
    let in_name = λ (k : ℕ) (b : InName (at_name r.name r.options nodes) k).
    good_line IsName function_text (λ n. InOptions) function_once r.name (at_name r.name r.options nodes) (at_options r.options nodes) k
    good.name refl in_options b in
    good_line IsLong limit_text (λ n. InName) limit_once r.limit text (at_name r.name r.options nodes) line good.limit is in_name bad

-- ---- one refutation is told by its text

pub told : (r s : Refutation) → IsRefutation r → IsRefutation s → text_of s ≡ text_of r → AreSame r s
told r s gr gs e =
    let limits = limit_once s.limit r.limit _ _ gs.limit gr.limit e in
    let names = function_once s.name r.name _ _ gs.name gr.name limits.1 in
    let options = options_once s.options r.options _ _ gs.options gr.options names.1 in
    let counts = count_once (length s.tree.nodes.items) (length r.tree.nodes.items) _ _ gs.count gr.count options.1 in
    let trees = nodes_once (length r.tree.nodes.items) s.tree.nodes.items r.tree.nodes.items (codes "end\n") (codes "end\n")
    (counts.0, gs.fit) (refl, gr.fit) counts.1 in
    record { limit = limits.0; name = names.0; options = options.0; tree = trees.0 }

-- what reading answers to the text of a refutation
pub refutation_back : (text : List ℕ) (result : Result Refutation ReportError) → IfOk result (IsRefutationRead text)
    → IfErr result (IsErrorOf text) → (r : Refutation) → IsRefutation r → text ≡ text_of r → IsRefutationBack r result
refutation_back text (Ok s) ok bad r good is = told r s good ok.is_refutation (sym ok.spelled ∙ is)
refutation_back text (Err NoMemory) ok bad r good is = refl
refutation_back text (Err (BadReport line)) ok bad r good is = absurd (none_bad text r line good is bad)

-- ---- errors

error_at_start : (text : List ℕ) (at : Place) (e : ReportError) → at.rest.now ≡ text → at.lines ≡ 0 → IsErrorAt IsFirstBad at e
    → IsErrorOf text e
error_at_start text at NoMemory same none h = tt
error_at_start text at (BadReport line) same none h =
    let numbered = h.numbered in
    let here : h.line ≡ line = omega (arith, numbered, none) in
    subst (λ (t : List ℕ). IsFirstBad t line) same (subst (λ (n : ℕ). IsFirstBad at.rest.now n) here h.is_bad)

-- a line of the limit itself, and one behind it
pub in_limit : (text : List ℕ) (at : Place) (e : ReportError) → at.rest.now ≡ text → at.lines ≡ 0
    → IsErrorAt (IsBadLine IsLong limit_text) at e → IsErrorOf text e
in_limit text at e same none bad = error_at_start text at e same none (in_line IsLong limit_text (λ limit. InName) at e bad)

past_limit : (text : List ℕ) (at : Place) (limit : ℕ) (second : Place) (e : ReportError) → at.rest.now ≡ text → at.lines ≡ 0
    → IsRead IsLong limit_text one at limit second → IsErrorAt InName second e → IsErrorOf text e
past_limit text at limit second e same none r bad =
    error_at_start text at e same none (past_line IsLong limit_text (λ n. InName) at limit second r e bad)

pub in_name : (text : List ℕ) (at : Place) (limit : ℕ) (second : Place) (e : ReportError) → at.rest.now ≡ text → at.lines ≡ 0
    → IsRead IsLong limit_text one at limit second → IsErrorAt (IsBadLine IsName function_text) second e → IsErrorOf text e
in_name text at limit second e same none r bad =
    past_limit text at limit second e same none r (in_line IsName function_text (λ name. InOptions) second e bad)

past_name : (text : List ℕ) (at : Place) (limit : ℕ) (second : Place) (name : List ℕ) (third : Place) (e : ReportError)
    → at.rest.now ≡ text → at.lines ≡ 0 → IsRead IsLong limit_text one at limit second → IsRead IsName function_text one second name third
    → IsErrorAt InOptions third e → IsErrorOf text e
past_name text at limit second name third e same none r s bad =
    past_limit text at limit second e same none r (past_line IsName function_text (λ n. InOptions) second name third s e bad)

pub in_options : (text : List ℕ) (at : Place) (limit : ℕ) (second : Place) (name : List ℕ) (third : Place) (e : ReportError)
    → at.rest.now ≡ text → at.lines ≡ 0 → IsRead IsLong limit_text one at limit second → IsRead IsName function_text one second name third
    → IsErrorAt (IsBadLine AreOptions options_text) third e → IsErrorOf text e
in_options text at limit second name third e same none r s bad =
    past_name text at limit second name third e same none r s (in_line AreOptions options_text (λ o. InCount) third e bad)

pub past_options : (text : List ℕ) (at : Place) (limit : ℕ) (second : Place) (name : List ℕ) (third : Place) (o : Options) (fourth : Place)
    (e : ReportError) → at.rest.now ≡ text → at.lines ≡ 0 → IsRead IsLong limit_text one at limit second
    → IsRead IsName function_text one second name third → IsRead AreOptions options_text one third o fourth → IsErrorAt InCount fourth e
    → IsErrorOf text e
past_options text at limit second name third o fourth e same none r s t bad =
    past_name text at limit second name third e same none r s (past_line AreOptions options_text (λ o. InCount) third o fourth t e bad)

-- errors behind the head: in the line of the count, in the nodes, and behind them
pub own_count : (at : Place) (e : ReportError) → IsErrorAt (IsBadLine IsCountOfNodes count_text) at e → IsErrorAt InCount at e
own_count at e bad = in_line IsCountOfNodes count_text InNodes at e bad

pub own_nodes : (at : Place) (count : ℕ) (next : Place) (e : ReportError) → IsRead IsCountOfNodes count_text one at count next
    → IsErrorAt (IsBadNode count) next e → IsErrorAt InCount at e
own_nodes at count next e r bad =
    past_line IsCountOfNodes count_text InNodes at count next r e (weaker (IsBadNode count) (InNodes count) next e (λ line b. inl b) bad)

pub own_end : (at : Place) (count : ℕ) (next : Place) (nodes : List SymNode) (last : Place) (e : ReportError)
    → IsRead IsCountOfNodes count_text one at count next → IsRead (AreNodes count) sym_text length next nodes last → IsErrorAt InEnd last e
    → IsErrorAt InCount at e
own_end at count next nodes last e r s bad =
    past_line IsCountOfNodes count_text InNodes at count next r e
    (through (AreNodes count) sym_text length InEnd (InNodes count) next nodes last s
    (λ text rest line g whole b. inr (record {
      value = nodes;
      rest = rest;
      behind = line;
      is_good = g;
      whole = whole;
      is_bad = b;
      numbered = refl;
    })) e bad)

-- ---- what is read part by part

pub refutation_read : (text : List ℕ) (at : Place) (limit : ℕ) (second : Place) (name : List ℕ) (third : Place) (o : Options)
    (fourth : Place) (count : ℕ) (fifth : Place) (nodes : List SymNode) (last : Place) (r : Refutation) → at.rest.now ≡ text
    → IsRead IsLong limit_text one at limit second → IsRead IsName function_text one second name third
    → IsRead AreOptions options_text one third o fourth → IsRead IsCountOfNodes count_text one fourth count fifth
    → IsRead (AreNodes count) sym_text length fifth nodes last → last.rest.now ≡ end_text tt
    → r.limit ≡ limit → r.name ≡ name → r.options ≡ o → r.tree.nodes.items ≡ nodes → IsRefutationRead text r
refutation_read text at limit second name third o fourth count fifth nodes last r same l n p c t ends limits names options trees = record {
  is_refutation = record {
    limit = rw limits l.is_good;
    name = rw names n.is_good;
    options = rw options p.is_good;
    count = rw (trees, t.is_good.0) c.is_good;
    fit = rw trees t.is_good.1;
  };
  spelled = sym same ∙ (whole ∙ sym (made limits names options trees));
}
  where
    nodes_left : fifth.rest.now ≡ at_nodes nodes
    nodes_left = t.whole ∙ ap (λ (x : List ℕ). sym_text nodes ++ x) ends

    count_left : fourth.rest.now ≡ at_count nodes
    count_left = c.whole ∙ (ap (λ (k : ℕ). count_text k ++ fifth.rest.now) (sym t.is_good.0)
        ∙ ap (λ (x : List ℕ). count_text (length nodes) ++ x) nodes_left)

    whole : at.rest.now ≡ limit_text limit ++ at_name name o nodes
    whole = l.whole ∙ ap (λ (x : List ℕ). limit_text limit ++ x)
        (n.whole ∙ ap (λ (x : List ℕ). function_text name ++ x) (p.whole ∙ ap (λ (x : List ℕ). options_text o ++ x) count_left))

    made : r.limit ≡ limit → r.name ≡ name → r.options ≡ o → r.tree.nodes.items ≡ nodes
        → text_of r ≡ limit_text limit ++ at_name name o nodes
    made limits names options trees =
        ap (λ (k : ℕ). limit_text k ++ at_name r.name r.options r.tree.nodes.items) limits
        ∙ (ap (λ (x : List ℕ). limit_text limit ++ at_name x r.options r.tree.nodes.items) names
        ∙ (ap (λ (x : Options). limit_text limit ++ at_name name x r.tree.nodes.items) options
        ∙ ap (λ (ns : List SymNode). limit_text limit ++ at_name name o ns) trees))
