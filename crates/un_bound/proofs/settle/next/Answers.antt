use Rattle.std.proofs.Common.{arith}
use Rattle.un_domains.specs.Sets.{set_at}
use Rattle.un_domains.specs.SetLaws.{least-le, has-fold_max}
use Rattle.un_bound.proofs.settle.next.Goals as goal

pub loop-x-init : goal.loop-x-init
loop-x-init c = record {
  from = omega arith;
  passed = λ n is le. omega (arith, least-le (set_at c.args.store.now.sets c.args.v.0) n is, le);
}

pub returns : goal.returns
returns c =
    λ n is le. omega (arith, has-fold_max 0 (set_at c.args.store.now.sets c.args.v.0) n is, c.loop-x.invariant.passed n is le)
