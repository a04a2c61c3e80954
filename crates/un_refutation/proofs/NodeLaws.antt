-- The nodes of a refutation, read from the front.
use Rattle.std.proofs.Common.{◌≡◌, ℕ, ◌+◌, ◌<◌, List, [], ◌∷◌, ◌++◌, All, length, length-append, refl, sym, ap, ◌∙◌, arith}
use Rattle.std.proofs.lemmas.List.Elements.{All-cons, All-nil, All-append, recursion_from_All}
use Rattle.un_report_reader.proofs.Once.{Once}
use Rattle.un_report_reader.specs.Errors.{IsRead}
use Rattle.un_report_reader.specs.declared.place.Place.{Place}
use Rattle.un_symtree.proofs.SymTrees.{sym_more, sym_nodes_once, sym_node_stands}
use Rattle.un_symtree.specs.SymTexts.{SymFits, sym_text, BeginsWithSym, BeginsNoSymNode}
use Rattle.un_symtree.specs.declared.node.SymNode.{SymNode}
use Rattle.un_refutation.specs.FirstBad.{IsBadNode}
use Rattle.un_refutation.specs.Refutations.{AreNodes}

-- the nodes so far, which are so many, and what is left are the text
pub record SoFar (text left : List ℕ) (nodes : List SymNode) (count : ℕ) : Type 0 where
  pub fit : All SymFits nodes
  pub counted : length nodes ≡ count
  pub whole : text ≡ sym_text nodes ++ left

pub none_so_far : (text : List ℕ) → SoFar text text [] 0
none_so_far text = record { fit = All-nil SymFits; counted = refl; whole = refl }

pub one_more : (text left : List ℕ) (nodes after : List SymNode) (k next : ℕ) (n : SymNode) (line rest : List ℕ) → SoFar text left nodes k
    → BeginsWithSym left n line rest → after ≡ nodes ++ n ∷ [] → next ≡ k + 1 → SoFar text rest after next
one_more text left nodes after k next n line rest s b is e =
    let more = length-append nodes (n ∷ []) in
    let long = ap (λ (ns : List SymNode). length ns) is in
    let counted = s.counted in
    record {
      fit = rw is (All-append SymFits nodes (n ∷ []) s.fit (All-cons SymFits n [] b.fits (All-nil SymFits)));
      counted = omega (arith, more, long, counted, e);
      whole = s.whole ∙ (ap (λ (t : List ℕ). sym_text nodes ++ t) (b.whole ∙ ap (λ (l : List ℕ). l ++ 10 ∷ rest) b.spelled)
          ∙ (sym_more nodes n rest ∙ ap (λ (ns : List SymNode). sym_text ns ++ rest) (sym is)));
    }

pub bad_node : (text left : List ℕ) (nodes : List SymNode) (k count : ℕ) → SoFar text left nodes k → k < count → BeginsNoSymNode left
    → IsBadNode count text (k + 1)
bad_node text left nodes k count s few none =
    let counted = s.counted in
    record {
      before = nodes;
      rest = left;
      fit = s.fit;
      few = omega (arith, counted, few);
      whole = s.whole;
      is_bad = none;
      numbered = omega (arith, counted);
    }

pub nodes_here : (at : Place) (left : List ℕ) (nodes : List SymNode) (count : ℕ) (next : Place) → SoFar at.rest.now left nodes count
    → next.rest.now ≡ left → next.lines ≡ at.lines + count → IsRead (AreNodes count) sym_text length at nodes next
nodes_here at left nodes count next s same lines =
    let counted = s.counted in
    record {
      is_good = (s.counted, s.fit);
      whole = s.whole ∙ ap (λ (t : List ℕ). sym_text nodes ++ t) (sym same);
      numbered = omega (arith, lines, counted);
    }

-- ---- the nodes are told by their text, and no line of it is bad

pub nodes_once : (count : ℕ) → Once (AreNodes count) sym_text
nodes_once count v w a b gv gw e =
    sym_nodes_once v w a b (recursion_from_All SymFits v gv.1) (recursion_from_All SymFits w gw.1) (gv.0 ∙ sym gw.0) e

pub no_bad_node : (count : ℕ) (ns : List SymNode) (rest text : List ℕ) (line : ℕ) → AreNodes count ns → text ≡ sym_text ns ++ rest
    → IsBadNode count text line → ⊥
no_bad_node count ns rest text line are is bad =
    let long = are.0 in
    let few = bad.few in
    sym_node_stands bad.before ns bad.rest rest (recursion_from_All SymFits bad.before bad.fit) (recursion_from_All SymFits ns are.1)
    (omega (arith, long, few)) (sym bad.whole ∙ is) bad.is_bad
