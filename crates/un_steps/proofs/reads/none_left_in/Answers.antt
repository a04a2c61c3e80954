use Rattle.std.proofs.Common.{refl, arith}
use Rattle.un_steps.proofs.reads.none_left_in.Goals as goal

pub returns-then-is_left_in : goal.returns-then-is_left_in
returns-then-is_left_in c = (
  λ t. absurd (cc t),
  λ all.
      let p = c.is_left_in.ensures.0 c.if-is_left_in.true in absurd (all c.loop-r.r p.0 p.1),
)

pub returns : goal.returns
returns c = (
  λ t r h q. c.loop-r.invariant r (let a = c.end-end.ensures.above r h in let b = c.loop-r-test.false in omega (arith, a, b)) h q,
  λ all. refl,
)
