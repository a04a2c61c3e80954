-- all decisions from the place on are for left sides
use Rattle.std.proofs.Common.{◌≤◌, ◌≡◌, drop, length, All}
use Rattle.un_domains.specs.declared.side.Side.TheVariants.{AtMost}
use Rattle.un_tree.specs.declared.node.Decision.{Decision}
use Rattle.un_mirrors.proofs.nearest.nearest_right.Given as goal

abbrev pub invariant-loop-k : goal.invariant-loop-k
invariant-loop-k l = record {
  inside : l.k ≤ length l.path;
  left : All (λ (d : Decision). d.side ≡ AtMost) (drop l.k l.path);
}

abbrev pub decreases-loop-k : goal.decreases-loop-k
decreases-loop-k l = l.k
