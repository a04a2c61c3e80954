-- The tree of a report, as one part.
use Rattle.std.specs.Prelude.{ℕ, ◌≡◌, ◌+◌, List, ◌∷◌, ◌++◌}
use Rattle.un_report_reader.specs.Errors.{IsRead}
use Rattle.un_report_reader.specs.Limits.{AreFewLines, IsAllowed}
use Rattle.un_report_reader.specs.Lines.{tree_head, AreNodes}
use Rattle.un_report_reader.specs.declared.limits.Limits.{Limits}
use Rattle.un_report_reader.specs.declared.place.Place.{Place}
use Rattle.un_report_reader.specs.declared.tree.Lines.{Lines}
use Rattle.un_tree.specs.Texts.{Fits, node_line, tree_text}
use Rattle.un_tree.specs.declared.node.Node.{Node}

-- a text is the lines of so many nodes that a report with these limits may have
pub record AreNodeLines (l : Limits) (count : ℕ) (text : List ℕ) : Type 0 where
  pub nodes : List Node
  pub are : AreNodes l count nodes
  pub spelled : text ≡ tree_text nodes

-- a text begins with the line of a node that a report with these limits may have, and goes on with the rest
pub record IsNodeRead (l : Limits) (text rest : List ℕ) : Type 0 where
  pub node : Node
  pub fits : Fits node
  pub allowed : IsAllowed l node
  pub whole : text ≡ node_line node ++ 10 ∷ rest

abbrev pub same : List ℕ → List ℕ
same text = text

abbrev pub always : ℕ → List ℕ → ℕ
always count text = count

abbrev pub IsNodesRead : Limits → ℕ → Place → List ℕ → Place → Type 0
IsNodesRead l count = IsRead (AreNodeLines l count) same (always count)

-- the lines of a tree and their number
abbrev pub IsTree : Limits → Lines → Type 0
IsTree l t = AreFewLines l t.count × AreNodeLines l t.count t.text.now

abbrev pub lines_text : Lines → List ℕ
lines_text t = tree_head t.count ++ t.text.now

abbrev pub tree_lines : Lines → ℕ
tree_lines t = 1 + t.count

abbrev pub IsTreeRead : Limits → Place → Lines → Place → Type 0
IsTreeRead l = IsRead (IsTree l) lines_text tree_lines
