use Rattle.std.proofs.Common.{arith}
use Rattle.un_packet.specs.Step.{replied}
use Rattle.un_packet.proofs.Each.{is_each}
use Rattle.un_packet.proofs.writes.take_reply.Goals as goal

pub returns : goal.returns
returns c = is_each (replied c.args.t.now c.args.reply.now) _ _ c.loop-r.invariant.long
    (λ k lt. c.loop-r.invariant.below k (omega (arith, c.fits-regs, c.loop-r-test.false)))
