use Rattle.std.proofs.Common.{refl, arith}
use Rattle.un_steps.proofs.rules.all_access.Goals as goal

pub returns : goal.returns
returns c = (λ t n h. c.loop-n.invariant n (let a = c.end-end.ensures.above n h in let b = c.loop-n-test.false in omega (arith, a, b)) h, λ all. refl)
