-- the text so far with what is left is the whole
use Rattle.std.proofs.Common.{◌≡◌, ◌++◌, drop}
use Rattle.un_tree.specs.Texts.{tree_text}
use Rattle.un_tree.proofs.print.put_tree.Given as goal

abbrev pub invariant-loop-node : goal.invariant-loop-node
invariant-loop-node l = l.out.items ++ tree_text (drop l.node-index l.t.nodes.items) ≡ l.initial.out.items ++ tree_text l.t.nodes.items
