-- The text of a tree with mirrors: a line for each node.
use Rattle.std.specs.Prelude.{ℕ, ◌≡◌, ◌≢◌, ◌<◌, ◌^◌, ⊤, List, [], ◌∷◌, ◌++◌, map, codes, decimal}
use Rattle.un_base.specs.Lines.{joined_lines}
use Rattle.un_symtree.specs.declared.node.SymNode.{SymNode}
use Rattle.un_symtree.specs.declared.node.SymNode.TheVariants.{Branch, Closed, Mirror}
use Rattle.un_symtree.specs.declared.read.SymStep.{SymStep}
use Rattle.un_symtree.specs.declared.read.SymStep.TheVariants.{End, Bad, Node as Found}

-- the numbers of a node are numbers of 32 bits
abbrev pub SymFits : SymNode → Type 0
SymFits (Branch v x) = (v.0 < 2 ^ 32) × (x < 2 ^ 32)
SymFits Closed = ⊤
SymFits (Mirror a b d) = (a.0 < 2 ^ 32) × (b.0 < 2 ^ 32) × (d < 2 ^ 32)

-- the line of a node, without its line feed
abbrev pub sym_line : SymNode → List ℕ
sym_line (Branch v x) = codes "B " ++ (decimal v.0 ++ (codes " " ++ decimal x))
sym_line Closed = codes "C"
sym_line (Mirror a b d) = codes "M " ++ (decimal a.0 ++ (codes " " ++ (decimal b.0 ++ (codes " " ++ decimal d))))

-- the text of a tree with mirrors
abbrev pub sym_text : List SymNode → List ℕ
sym_text nodes = joined_lines (map sym_line nodes)

-- no node's line is the first line of the text
abbrev pub BeginsNoSymNode : List ℕ → Type 0
BeginsNoSymNode text = (n : SymNode) (rest : List ℕ) → SymFits n → text ≢ sym_line n ++ 10 ∷ rest

-- the first line is a node's
pub record BeginsWithSym (text : List ℕ) (n : SymNode) (line rest : List ℕ) : Type 0 where
  pub fits : SymFits n
  pub spelled : line ≡ sym_line n
  pub whole : text ≡ line ++ 10 ∷ rest

-- what the first line of a text of nodes is
abbrev pub IsSymStep : List ℕ → SymStep → Type 0
IsSymStep text End = text ≡ []
IsSymStep text Bad = (text ≢ []) × BeginsNoSymNode text
IsSymStep text (Found n line rest) = BeginsWithSym text n line.now rest.now
