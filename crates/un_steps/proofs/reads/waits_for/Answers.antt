use Rattle.std.proofs.Common.{refl, arith}
use Rattle.un_steps.proofs.reads.waits_for.Goals as goal

pub returns : goal.returns
returns c = (
  λ t j h. c.loop-j.invariant j (let a = c.instr_end-end.ensures.above j h in let b = c.loop-j-test.false in omega (arith, a, b)) h,
  λ all. refl,
)
