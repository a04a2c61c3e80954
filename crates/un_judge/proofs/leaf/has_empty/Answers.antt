use Rattle.std.proofs.Common.{arith}
use Rattle.un_judge.proofs.Takings.{empty_none}
use Rattle.un_judge.proofs.leaf.has_empty.Goals as goal

pub returns : goal.returns
returns c = (
  λ t. absurd (cc t),
  λ e. absurd (empty_none c.args.cuts.now.sets (λ v lt.
      c.loop-v.invariant v (let a = c.len-v-end.ensures in let b = c.loop-v-test.false in omega (arith, lt, a, b))) e),
)
