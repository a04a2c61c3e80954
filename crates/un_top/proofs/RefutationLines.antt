-- The first bad line of the text of a refutation is one, and what is read has none.
use Rattle.std.proofs.Common.{◌≡◌, ℕ, ◌+◌, ◌<◌, ◌≤◌, ◌⊎◌, inl, inr, List, codes, length, sym, ap, ◌∙◌, arith}
use Rattle.std.proofs.lemmas.Bool.{cases_lt}
use Rattle.std.proofs.lemmas.List.Elements.{recursion_from_All}
use Rattle.un_commands.specs.Settings.{IsCountOfNodes}
use Rattle.un_commands.specs.declared.command.TheConstants.{MOST_NODES}
use Rattle.un_model.specs.Options.{AreOptions}
use Rattle.un_report_reader.specs.FirstBad.{InEnd}
use Rattle.un_report_reader.specs.Lines.{IsLong, IsName, function_text}
use Rattle.un_report_reader.proofs.Once.{number_line_once, function_once}
use Rattle.un_symtree.specs.SymTexts.{SymFits, sym_text}
use Rattle.un_symtree.proofs.SymTrees.{sym_node_stands}
use Rattle.un_refutation.proofs.NodeLaws.{nodes_once, no_bad_node}
use Rattle.un_refutation.proofs.OptionLaws.{options_once}
use Rattle.un_refutation.proofs.RefutationLaws.{none_bad}
use Rattle.un_refutation.specs.FirstBad.{IsBadNode, InNodes, InCount, InOptions, InName, IsFirstBad}
use Rattle.un_refutation.specs.Readings.{IsRefutationRead}
use Rattle.un_refutation.specs.Refutations.{limit_text, options_text, count_text, AreNodes}
use Rattle.un_refutation.specs.declared.refutation.Refutation.{Refutation}
use Rattle.un_top.proofs.ReportLines.{one_behind, one_line, long_once, one_end}

one_bad_node : (count : ℕ) (text : List ℕ) (m n : ℕ) → IsBadNode count text m → IsBadNode count text n → m ≡ n
one_bad_node count text m n b c = by (cases_lt (length b.before) (length c.before))
  where
    same : length b.before ≡ length c.before → m ≡ n
    same long = b.numbered ∙ (ap (λ (k : ℕ). k + 1) long ∙ sym c.numbered)

    by_other : length c.before ≤ length b.before → (length c.before < length b.before) ⊎ (length b.before ≤ length c.before) → m ≡ n
    by_other h (inl k) = absurd (sym_node_stands c.before b.before c.rest b.rest (recursion_from_All SymFits c.before c.fit)
        (recursion_from_All SymFits b.before b.fit) k (sym c.whole ∙ b.whole) c.is_bad)
    by_other h (inr k) = same (omega (arith, h, k))

    by : (length b.before < length c.before) ⊎ (length c.before ≤ length b.before) → m ≡ n
    by (inl h) = absurd (sym_node_stands b.before c.before b.rest c.rest (recursion_from_All SymFits b.before b.fit)
        (recursion_from_All SymFits c.before c.fit) h (sym b.whole ∙ c.whole) b.is_bad)
    by (inr h) = by_other h (cases_lt (length c.before) (length b.before))

one_nodes : (count : ℕ) (text : List ℕ) (m n : ℕ) → InNodes count text m → InNodes count text n → m ≡ n
one_nodes count text m n (inl b) (inl c) = one_bad_node count text m n b c
one_nodes count text m n (inl b) (inr c) = absurd (no_bad_node count c.value c.rest text m c.is_good c.whole b)
one_nodes count text m n (inr b) (inl c) = absurd (no_bad_node count b.value b.rest text n b.is_good b.whole c)
one_nodes count text m n (inr b) (inr c) =
    one_behind (AreNodes count) sym_text length (λ ns. InEnd) (nodes_once count) (λ v. one_end) text m n b c

one_count : (text : List ℕ) (m n : ℕ) → InCount text m → InCount text n → m ≡ n
one_count = one_line IsCountOfNodes count_text InNodes (number_line_once (codes "nodes ") 1 MOST_NODES (omega arith)) one_nodes

one_options : (text : List ℕ) (m n : ℕ) → InOptions text m → InOptions text n → m ≡ n
one_options = one_line AreOptions options_text (λ o. InCount) options_once (λ v. one_count)

one_name : (text : List ℕ) (m n : ℕ) → InName text m → InName text n → m ≡ n
one_name = one_line IsName function_text (λ name. InOptions) function_once (λ v. one_options)

pub one_refutation_line : (text : List ℕ) (m n : ℕ) → IsFirstBad text m → IsFirstBad text n → m ≡ n
one_refutation_line = one_line IsLong limit_text (λ limit. InName) (long_once (codes "refuted ")) (λ v. one_name)

pub refutation_not_bad : (text : List ℕ) (r : Refutation) (line : ℕ) → IsRefutationRead text r → IsFirstBad text line → ⊥
refutation_not_bad text r line h bad = none_bad text r line h.is_refutation h.spelled bad
