use Rattle.std.proofs.Common.{refl, arith}
use Rattle.un_steps.proofs.rules.are_one_by.Goals as goal

pub returns : goal.returns
returns c = (
  λ t r h k. c.loop-r.invariant r (let a = c.end-end.ensures.above r h in let b = c.loop-r-test.false in omega (arith, a, b)) h k,
  λ all. refl,
)
