-- Texts of trees with mirrors, read from the front.
use Rattle.std.proofs.Common.{◌≡◌, ◌≢◌, ℕ, ◌<◌, List, [], ◌∷◌, ◌++◌, All, length, false, refl, sym, ap, ◌∙◌, arith, append_assoc}
use Rattle.std.specs.Bool.{◌==◌}
use Rattle.std.specs.List.{AllByRecursion}
use Rattle.un_symtree.specs.declared.node.SymNode.{SymNode}
use Rattle.un_symtree.specs.SymTexts.{SymFits, sym_line, sym_text, BeginsNoSymNode}
use Rattle.un_symtree.proofs.SymLines.{sym_free, sym_line_once, NoSymLine}
use Rattle.un_base.specs.Lines.{IsCut}
use Rattle.un_base.proofs.Cuts.{cut_once, cut_none, cut_parts}

-- a text that begins with two nodes' lines begins with one node's
pub sym_first_once : (n m : SymNode) (rest rest' : List ℕ) → SymFits n → SymFits m → sym_line n ++ 10 ∷ rest ≡ sym_line m ++ 10 ∷ rest'
    → (n ≡ m) × (rest ≡ rest')
sym_first_once n m rest rest' f g e =
    let parts = cut_once 10 (sym_line n) (sym_line m) rest rest' (sym_free n f) (sym_free m g) e in
    (sym_line_once n m f g parts.0, parts.1)

pub sym_text_cons : (n : SymNode) (ns : List SymNode) (rest : List ℕ)
    → sym_text (n ∷ ns) ++ rest ≡ sym_line n ++ 10 ∷ (sym_text ns ++ rest)
sym_text_cons n ns rest = append_assoc (sym_line n ++ 10 ∷ []) (sym_text ns) rest
    ∙ append_assoc (sym_line n) (10 ∷ []) (sym_text ns ++ rest)

-- one node more
pub sym_more : (ns : List SymNode) (n : SymNode) (rest : List ℕ)
    → sym_text ns ++ (sym_line n ++ 10 ∷ rest) ≡ sym_text (ns ++ n ∷ []) ++ rest
sym_more [] n rest = sym (sym_text_cons n [] rest)
sym_more (m ∷ ms) n rest =
    sym_text_cons m ms (sym_line n ++ 10 ∷ rest)
    ∙ (ap (λ (t : List ℕ). sym_line m ++ 10 ∷ t) (sym_more ms n rest) ∙ sym (sym_text_cons m (ms ++ n ∷ []) rest))

-- as many nodes before two texts are told by what they make together
pub sym_nodes_once : (ns ms : List SymNode) (a b : List ℕ) → AllByRecursion SymFits ns → AllByRecursion SymFits ms → length ns ≡ length ms
    → sym_text ns ++ a ≡ sym_text ms ++ b → (ns ≡ ms) × (a ≡ b)
sym_nodes_once [] [] a b f g long e = (refl, e)
sym_nodes_once [] (m ∷ ms) a b f g long e = absurd (omega (arith, long))
sym_nodes_once (n ∷ ns) [] a b f g long e = absurd (omega (arith, long))
sym_nodes_once (n ∷ ns) (m ∷ ms) a b f g long e =
    let first = sym_first_once n m (sym_text ns ++ a) (sym_text ms ++ b) f.0 g.0
    (sym (sym_text_cons n ns a) ∙ (e ∙ sym_text_cons m ms b)) in
    let next = sym_nodes_once ns ms a b f.1 g.1 (omega (arith, long)) first.1 in
    (ap (λ (k : SymNode). k ∷ ns) first.0 ∙ ap (λ (ks : List SymNode). m ∷ ks) next.0, next.1)

-- where fewer nodes' lines stand before what begins with none, the text is not that of so many nodes
pub sym_node_stands : (before ns : List SymNode) (rest a : List ℕ) → AllByRecursion SymFits before → AllByRecursion SymFits ns
    → length before < length ns → sym_text before ++ rest ≡ sym_text ns ++ a → BeginsNoSymNode rest → ⊥
sym_node_stands before [] rest a f g few e none = absurd (omega (arith, few))
sym_node_stands [] (n ∷ ns) rest a f g few e none = none n (sym_text ns ++ a) g.0 (e ∙ sym_text_cons n ns a)
sym_node_stands (m ∷ ms) (n ∷ ns) rest a f g few e none =
    let first = sym_first_once m n (sym_text ms ++ rest) (sym_text ns ++ a) f.0 g.0
    (sym (sym_text_cons m ms rest) ∙ (e ∙ sym_text_cons n ns a)) in
    sym_node_stands ms ns rest a f.1 g.1 (omega (arith, few)) first.1 none

-- an empty text begins with no node
pub sym_none_begins : (text : List ℕ) → text ≡ [] → BeginsNoSymNode text
sym_none_begins text is n rest fit e = some (sym_line n) (sym is ∙ e)
  where
    some : (line : List ℕ) → [] ≢ line ++ 10 ∷ rest
    some [] f = cc f
    some (x ∷ xs) f = cc f

some_text : (text : List ℕ) → false ≡ (length text == 0) → text ≢ []
some_text [] e is = cc e
some_text (x ∷ xs) e is = cc is

-- a text without a line feed begins with no node's line
pub sym_bad_end : (text : List ℕ) → false ≡ (length text == 0) → All (λ y. y ≢ 10) text → (text ≢ []) × BeginsNoSymNode text
sym_bad_end text some free = (some_text text some, λ n rest fit e. cut_none 10 text (sym_line n) rest free e)

-- nor does one whose first line is no node's
pub sym_bad_line : (text line rest : List ℕ) → false ≡ (length text == 0) → IsCut text 10 line rest → NoSymLine line
    → (text ≢ []) × BeginsNoSymNode text
sym_bad_line text line rest some cut none =
    (some_text text some, λ n behind fit e. none n fit (cut_parts text 10 line rest (sym_line n) behind cut (sym_free n fit) e).0)
