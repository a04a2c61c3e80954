-- what is left to write comes to the whole
use Rattle.std.proofs.Common.{◌≡◌, drop}
use Rattle.un_packet.specs.Step.{regs_after}
use Rattle.un_packet.specs.Runnable.{AreRunnable}
use Rattle.un_packet.proofs.state.State.regs_after.Given as goal

abbrev pub invariant-loop-i : goal.invariant-loop-i
invariant-loop-i l = record {
  rest : regs_after l.self (drop l.i-index l.packet) l.regs ≡ regs_after l.self l.packet l.self.regs;
  straight : AreRunnable (drop l.i-index l.packet);
}
