use Rattle.std.proofs.Common.{◌≡◌, length, drop, length-drop, subst, All, arith}
use Rattle.un_domains.specs.declared.side.Side.TheVariants.{AtMost}
use Rattle.un_tree.specs.declared.node.Decision.{Decision}
use Rattle.un_mirrors.proofs.NearestLemmas.{found_nearest, left_more}
use Rattle.un_mirrors.proofs.nearest.nearest_right.Goals as goal

pub returns-in-Above : goal.returns-in-Above
returns-in-Above c = record {
  some = found_nearest c.args.path.now c.loop-k.k _ c.loop-k-test.true c.loop-k.invariant.inside c.loop-k.invariant.left c.in-Above.is;
  none = tt;
}

pub loop-k-init : goal.loop-k-init
loop-k-init c = record {
  inside = omega arith;
  left = λ k d lt. absurd (omega (arith, lt, length-drop (length c.args.path.now) c.args.path.now));
}

pub loop-k-preserved : goal.loop-k-preserved
loop-k-preserved c = record {
  inside = omega (arith, c.loop-k.invariant.inside);
  left = left_more c.args.path.now c.loop-k.k _ c.loop-k-test.true c.loop-k.invariant.inside c.loop-k.invariant.left c.in_default.is;
}

pub returns : goal.returns
returns c = record {
  some = tt;
  none = let e : c.loop-k.k ≡ 0 = omega (arith, c.loop-k-test.false) in
      subst (λ n. All (λ (d : Decision). d.side ≡ AtMost) (drop n c.args.path.now)) e c.loop-k.invariant.left;
}
