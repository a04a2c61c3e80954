use Rattle.std.proofs.Common.{refl, arith}
use Rattle.un_steps.proofs.rules.is_one.Goals as goal

pub returns : goal.returns
returns c = (
  λ t q h k. c.loop-q.invariant q (let a = c.end-end.ensures.above q h in let b = c.loop-q-test.false in omega (arith, a, b)) h k,
  λ all. refl,
)
