use Rattle.std.proofs.Common.{refl, arith}
use Rattle.un_steps.proofs.reads.shares_none.Goals as goal

pub returns-then-is_shared : goal.returns-then-is_shared
returns-then-is_shared c = (
  λ t. absurd (cc t),
  λ all.
      let p = c.is_shared.ensures.0 c.if-is_shared.true in absurd (all c.loop-r.r p.0 p.1),
)

pub returns : goal.returns
returns c = (
  λ t r h q. c.loop-r.invariant r (let a = c.end-end.ensures.above r h in let b = c.loop-r-test.false in omega (arith, a, b)) h q,
  λ all. refl,
)
