-- no node before is a Split
use Rattle.std.proofs.Common.{◌≢◌, All, take}
use Rattle.un_tree.specs.declared.node.Node.TheVariants.{Split}
use Rattle.un_tree.proofs.split.first_split.Given as goal

abbrev pub invariant-loop-i : goal.invariant-loop-i
invariant-loop-i l = All (λ n. n ≢ Split) (take l.i l.nodes)
