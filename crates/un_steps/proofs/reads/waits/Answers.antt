use Rattle.std.proofs.Common.{refl, arith}
use Rattle.un_steps.proofs.reads.waits.Goals as goal

pub returns : goal.returns
returns c = (
  λ t i j h k. c.loop-i.invariant i (let a = c.instr_end-end.ensures.above i h in let b = c.loop-i-test.false in omega (arith, a, b)) h
      j k,
  λ all. refl,
)
