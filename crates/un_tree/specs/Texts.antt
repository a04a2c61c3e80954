-- The text of a tree: a line for each node.
use Rattle.std.specs.Prelude.{
  ℕ,
  ◌≡◌,
  ◌≢◌,
  ◌+◌,
  ◌<◌,
  ◌^◌,
  ⊤,
  List,
  [],
  ◌∷◌,
  ◌++◌,
  All,
  Result,
  Ok,
  Err,
  None,
  Some,
  IfSome,
  map,
  length,
  codes,
  decimal,
}
use Rattle.std.specs.declared.option.Option.{Option}
use Rattle.un_base.specs.Lines.{joined_lines}
use Rattle.un_base.specs.declared.ids.VarId.{VarId}
use Rattle.un_tree.specs.declared.node.Node.{Node}
use Rattle.un_tree.specs.declared.node.Node.TheVariants.{Branch, Closed, Open, Split, Part}
use Rattle.un_tree.specs.declared.node.Tree.{Tree}
use Rattle.un_tree.specs.declared.read.Step.{Step}
use Rattle.un_tree.specs.declared.read.Step.TheVariants.{End, Bad, Node as Found}
use Rattle.un_tree.specs.declared.read.TreeError.{TreeError}
use Rattle.un_tree.specs.declared.read.TreeError.TheVariants.{NoMemory, BadNode}

-- the numbers of a Branch are numbers of 32 bits, and that of a Part is one of 64
abbrev pub Fits : Node → Type 0
Fits (Branch v x) = (v.0 < 2 ^ 32) × (x < 2 ^ 32)
Fits Closed = ⊤
Fits Open = ⊤
Fits Split = ⊤
Fits (Part number) = IfSome number (λ n. n < 2 ^ 64)

-- the number that a part is under, as a text; a dash stands for none
abbrev pub number_text : Option ℕ → List ℕ
number_text None = codes "-"
number_text (Some n) = decimal n

-- the line of a node, without its line feed
abbrev pub node_line : Node → List ℕ
node_line (Branch v x) = codes "B " ++ (decimal v.0 ++ (codes " " ++ decimal x))
node_line Closed = codes "C"
node_line Open = codes "O"
node_line Split = codes "S"
node_line (Part number) = codes "P " ++ number_text number

-- the text of a tree
abbrev pub tree_text : List Node → List ℕ
tree_text nodes = joined_lines (map node_line nodes)

-- no node's line is the first line of the text
abbrev pub BeginsNoNode : List ℕ → Type 0
BeginsNoNode text = (n : Node) (rest : List ℕ) → Fits n → text ≢ node_line n ++ 10 ∷ rest

-- the first line is a node's
pub record BeginsWith (text : List ℕ) (n : Node) (line rest : List ℕ) : Type 0 where
  pub fits : Fits n
  pub spelled : line ≡ node_line n
  pub whole : text ≡ line ++ 10 ∷ rest

-- what the first line of a text of nodes is
abbrev pub IsStep : List ℕ → Step → Type 0
IsStep text End = text ≡ []
IsStep text Bad = (text ≢ []) × BeginsNoNode text
IsStep text (Found n line rest) = BeginsWith text n line.now rest.now

-- the first line that is no node's, counted from 1
pub record IsFirstBad (text : List ℕ) (line : ℕ) : Type 0 where
  pub before : List Node
  pub rest : List ℕ
  pub fit : All Fits before
  pub whole : text ≡ tree_text before ++ rest
  pub some : rest ≢ []
  pub bad : BeginsNoNode rest
  pub numbered : line ≡ length before + 1

-- an error is an answer to a text: there was no memory, or the line is the first bad one
abbrev pub IsErrorOf : List ℕ → TreeError → Type 0
IsErrorOf text NoMemory = ⊤
IsErrorOf text (BadNode line) = IsFirstBad text line

-- an answer to the text of a tree is that tree, or there was no memory
abbrev pub IsReadBack : List Node → Result Tree TreeError → Type 0
IsReadBack nodes (Ok t) = t.nodes.items ≡ nodes
IsReadBack nodes (Err e) = e ≡ NoMemory

-- the text is no line of a letter and numbers
abbrev pub IsUnnumbered : List ℕ → Type 0
IsUnnumbered line = ((v : VarId) (x : ℕ) → Fits (Branch v x) → line ≢ node_line (Branch v x))
    × ((number : Option ℕ) → Fits (Part number) → line ≢ node_line (Part number))
