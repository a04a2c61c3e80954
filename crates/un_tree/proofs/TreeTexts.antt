-- Texts of trees, read from the front.
use Rattle.std.proofs.Common.{◌≡◌, ◌≢◌, ℕ, ◌⊎◌, inl, inr, List, [], ◌∷◌, ◌++◌, All, length, false, refl, sym, ap, ◌∙◌, append_assoc}
use Rattle.std.specs.List.{AllByRecursion}
use Rattle.un_tree.specs.declared.node.Node.{Node}
use Rattle.un_tree.specs.Texts.{Fits, node_line, tree_text, BeginsNoNode}
use Rattle.un_base.specs.Lines.{IsCut}
use Rattle.std.specs.Bool.{◌==◌}
use Rattle.std.proofs.lemmas.List.Elements.{recursion_from_All}
use Rattle.un_base.proofs.Cuts.{cut_once, cut_none, cut_parts}
use Rattle.un_tree.proofs.NodeLines.{line_free, line_once}

-- a text that begins with two nodes' lines begins with one node's
pub first_once : (n m : Node) (rest rest' : List ℕ) → Fits n → Fits m → node_line n ++ 10 ∷ rest ≡ node_line m ++ 10 ∷ rest' → (n ≡ m)
    × (rest ≡ rest')
first_once n m rest rest' f g e =
    let parts = cut_once 10 (node_line n) (node_line m) rest rest' (line_free n f) (line_free m g) e in
    (line_once n m f g parts.0, parts.1)

pub text_cons : (n : Node) (ns : List Node) (rest : List ℕ) → tree_text (n ∷ ns) ++ rest ≡ node_line n ++ 10 ∷ (tree_text ns ++ rest)
text_cons n ns rest = append_assoc (node_line n ++ 10 ∷ []) (tree_text ns) rest
    ∙ append_assoc (node_line n) (10 ∷ []) (tree_text ns ++ rest)

pub some_line : (n : Node) (rest : List ℕ) → node_line n ++ 10 ∷ rest ≢ []
some_line n rest e = by (node_line n) e
  where
    by : (line : List ℕ) → line ++ 10 ∷ rest ≢ []
    by [] e = cc e
    by (x ∷ xs) e = cc e

append_nil : (xs : List ℕ) → xs ++ [] ≡ xs
append_nil [] = refl
append_nil (x ∷ xs) = ap (λ (ys : List ℕ). x ∷ ys) (append_nil xs)

-- where nothing or no node is left, the nodes so far are those of the text
pub read_whole : (before nodes : List Node) (rest : List ℕ) → AllByRecursion Fits before → AllByRecursion Fits nodes
    → tree_text before ++ rest ≡ tree_text nodes → (rest ≡ []) ⊎ BeginsNoNode rest → (rest ≡ []) × (before ≡ nodes)
read_whole [] [] rest f g e end = (e, refl)
read_whole [] (n ∷ ns) rest f g e end =
    let starts : rest ≡ node_line n ++ 10 ∷ tree_text ns = e ∙ append_assoc (node_line n) (10 ∷ []) (tree_text ns) in
    elim end [
      | inl none ↦ absurd (some_line n (tree_text ns) (sym starts ∙ none))
      | inr other ↦ absurd (other n (tree_text ns) g.0 starts)
    ]
read_whole (m ∷ ms) [] rest f g e end = absurd (some_line m (tree_text ms ++ rest) (sym (text_cons m ms rest) ∙ e))
read_whole (m ∷ ms) (n ∷ ns) rest f g e end =
    let starts : node_line m ++ 10 ∷ (tree_text ms ++ rest) ≡ node_line n ++ 10 ∷ tree_text ns =
    sym (text_cons m ms rest) ∙ (e ∙ append_assoc (node_line n) (10 ∷ []) (tree_text ns)) in
    let first = first_once m n (tree_text ms ++ rest) (tree_text ns) f.0 g.0 starts in
    let next = read_whole ms ns rest f.1 g.1 first.1 end in
    (next.0, ap (λ (k : Node). k ∷ ms) first.0 ∙ ap (λ (ks : List Node). n ∷ ks) next.1)

-- one node more
pub read_more : (text : List ℕ) (before after : List Node) (left : List ℕ) (n : Node) (line rest : List ℕ) → text ≡ tree_text before ++ left
    → line ≡ node_line n → left ≡ line ++ 10 ∷ rest → after ≡ before ++ n ∷ [] → text ≡ tree_text after ++ rest
read_more text before after left n line rest whole is cut more =
    whole ∙ (ap (λ (t : List ℕ). tree_text before ++ t) (cut ∙ ap (λ (l : List ℕ). l ++ 10 ∷ rest) is)
    ∙ (pushed before ∙ ap (λ (ns : List Node). tree_text ns ++ rest) (sym more)))
  where
    pushed : (ns : List Node) → tree_text ns ++ (node_line n ++ 10 ∷ rest) ≡ tree_text (ns ++ n ∷ []) ++ rest
    pushed [] = sym (text_cons n [] rest)
    pushed (m ∷ ms) = text_cons m ms (node_line n ++ 10 ∷ rest)
        ∙ (ap (λ (t : List ℕ). node_line m ++ 10 ∷ t) (pushed ms) ∙ sym (text_cons m (ms ++ n ∷ []) rest))

pub text_end : (text : List ℕ) (nodes : List Node) (left : List ℕ) → text ≡ tree_text nodes ++ left → left ≡ [] → text ≡ tree_text nodes
text_end text nodes left whole none = whole ∙ (ap (λ (t : List ℕ). tree_text nodes ++ t) none ∙ append_nil (tree_text nodes))

some_text : (text : List ℕ) → false ≡ (length text == 0) → text ≢ []
some_text [] e is = cc e
some_text (x ∷ xs) e is = cc is

-- a text without a line feed begins with no node's line
pub bad_end : (text : List ℕ) → false ≡ (length text == 0) → All (λ y. y ≢ 10) text → (text ≢ []) × BeginsNoNode text
bad_end text some free = (some_text text some, λ n rest fit e. cut_none 10 text (node_line n) rest free e)

-- nor does one whose first line is no node's
pub bad_line : (text line rest : List ℕ) → false ≡ (length text == 0) → IsCut text 10 line rest → ((n : Node) → Fits n → line ≢ node_line n)
    → (text ≢ []) × BeginsNoNode text
bad_line text line rest some cut none =
    (some_text text some, λ n behind fit e. none n fit (cut_parts text 10 line rest (node_line n) behind cut (line_free n fit) e).0)

pub all_read : (text : List ℕ) (before nodes : List Node) (left : List ℕ) → text ≡ tree_text before ++ left → All Fits before
    → All Fits nodes
    → text ≡ tree_text nodes → (left ≡ []) ⊎ BeginsNoNode left → (left ≡ []) × (before ≡ nodes)
all_read text before nodes left whole f g is end =
    read_whole before nodes left (recursion_from_All Fits before f) (recursion_from_All Fits nodes g) (sym whole ∙ is) end
