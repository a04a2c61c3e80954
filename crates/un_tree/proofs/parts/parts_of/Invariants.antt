-- what is left is the text of nodes, whose numbers with those so far are the whole, and no more trees wait than bytes were read
use Rattle.std.proofs.Common.{◌≡◌, ◌+◌, ◌≤◌, List, All, length}
use Rattle.un_tree.proofs.PartLaws.{IsLeft}
use Rattle.un_tree.specs.Texts.{Fits, tree_text}
use Rattle.un_tree.specs.declared.node.Node.{Node}
use Rattle.un_tree.proofs.parts.parts_of.Given as goal

abbrev pub invariant-loop-left : goal.invariant-loop-left
invariant-loop-left l = record {
  whole : (nodes : List Node) → All Fits nodes → l.text ≡ tree_text nodes → IsLeft l.blocks nodes l.reading l.left;
  few : l.reading.trees + length l.left ≤ length l.text;
}

abbrev pub decreases-loop-left : goal.decreases-loop-left
decreases-loop-left l = length l.left
