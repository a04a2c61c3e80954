-- the nodes so far and what is left are the text
use Rattle.std.proofs.Common.{◌≡◌, ◌++◌, All, length}
use Rattle.un_tree.specs.Texts.{Fits, tree_text}
use Rattle.un_tree.proofs.read.read_tree.Given as goal

abbrev pub invariant-loop-nodes : goal.invariant-loop-nodes
invariant-loop-nodes l = record {
  whole : l.text ≡ tree_text l.nodes.items ++ l.left;
  fit : All Fits l.nodes.items;
}

abbrev pub decreases-loop-nodes : goal.decreases-loop-nodes
decreases-loop-nodes l = length l.left
