use Rattle.std.proofs.Common.{refl, arith}
use Rattle.un_steps.proofs.rules.is_left_no_other.Goals as goal

pub returns : goal.returns
returns c = (
  λ t i h. c.loop-i.invariant i (let a = c.choice_end-end.ensures.above i h in let b = c.loop-i-test.false in omega (arith, a, b)) h,
  λ all. refl,
)
