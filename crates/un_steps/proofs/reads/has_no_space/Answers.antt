use Rattle.std.proofs.Common.{refl, arith}
use Rattle.un_steps.proofs.reads.has_no_space.Goals as goal

pub returns : goal.returns
returns c = (
  λ t n r h q. c.loop-n.invariant n (let a = c.instr_end-end.ensures.above n h in let b = c.loop-n-test.false in omega (arith, a, b)) h
      r q,
  λ all. refl,
)
