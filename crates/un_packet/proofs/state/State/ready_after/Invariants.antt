-- what is left to write comes to the whole
use Rattle.std.proofs.Common.{◌≡◌, drop}
use Rattle.un_packet.specs.Step.{ready_after}
use Rattle.un_packet.specs.Runnable.{AreRunnable}
use Rattle.un_packet.proofs.state.State.ready_after.Given as goal

abbrev pub invariant-loop-i : goal.invariant-loop-i
invariant-loop-i l = record {
  rest : ready_after l.t l.cycle l.self (drop l.i-index l.packet) l.ready ≡ ready_after l.t l.cycle l.self l.packet l.self.ready;
  straight : AreRunnable (drop l.i-index l.packet);
}
