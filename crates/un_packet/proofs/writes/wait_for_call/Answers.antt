use Rattle.std.proofs.Common.{arith}
use Rattle.un_packet.specs.Step.{call_ready}
use Rattle.un_packet.proofs.Each.{is_each}
use Rattle.un_packet.proofs.writes.wait_for_call.Goals as goal

pub returns : goal.returns
returns c = is_each (call_ready c.args.t.now c.args.cycle) _ _ c.loop-r.invariant.long
    (λ k lt. c.loop-r.invariant.below k (omega (arith, c.fits-ready, c.loop-r-test.false)))
