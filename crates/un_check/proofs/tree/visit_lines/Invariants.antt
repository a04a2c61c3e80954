-- the lines before were looked at
use Rattle.std.proofs.Common.{◌≡◌, All, List, length}
use Rattle.un_tree.specs.Texts.{Fits, tree_text}
use Rattle.un_tree.specs.declared.node.Node.{Node}
use Rattle.un_check.specs.Judging.{HasScratch}
use Rattle.un_check.specs.Walks.{IsPositionAt}
use Rattle.un_check.proofs.LineLemmas.{IsLeft}
use Rattle.un_check.proofs.tree.visit_lines.Given as goal

abbrev pub invariant-loop-node : goal.invariant-loop-node
invariant-loop-node l = record {
  at : IsPositionAt l.rules.m.now l.rules.limit l.walk.at;
  room : HasScratch l.rules.m.now l.walk.scratch;
  lines : (nodes : List Node) → All Fits nodes → l.tree ≡ tree_text nodes → IsLeft l.rules.m.now l.rules.limit nodes l.left l.walk;
}

abbrev pub decreases-loop-node : goal.decreases-loop-node
decreases-loop-node l = length l.left
