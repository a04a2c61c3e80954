-- what is left decides
use Rattle.std.proofs.Common.{◌≡◌, drop, find}
use Rattle.un_packet.specs.Runnable.{AreRunnable}
use Rattle.un_packet.specs.Step.{jumps}
use Rattle.un_packet.proofs.state.State.jump_label.Given as goal

abbrev pub invariant-loop-i : goal.invariant-loop-i
invariant-loop-i l = record {
  rest : find (jumps l.self l.new) (drop l.i-index l.packet) ≡ find (jumps l.self l.new) l.packet;
  runnable : AreRunnable (drop l.i-index l.packet);
}
