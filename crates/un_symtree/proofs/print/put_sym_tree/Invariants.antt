-- the text so far with what is left is the whole
use Rattle.std.proofs.Common.{◌≡◌, ◌++◌, drop}
use Rattle.un_symtree.specs.SymTexts.{sym_text}
use Rattle.un_symtree.proofs.print.put_sym_tree.Given as goal

abbrev pub invariant-loop-node : goal.invariant-loop-node
invariant-loop-node l = l.out.items ++ sym_text (drop l.node-index l.t.nodes.items) ≡ l.initial.out.items ++ sym_text l.t.nodes.items
