-- what is left to spill comes to the whole
use Rattle.std.proofs.Common.{◌≡◌, drop, length}
use Rattle.un_packet.specs.Step.{PacketState, frame_after}
use Rattle.un_packet.proofs.writes.spill_all.Given as goal

abbrev pub invariant-loop-i : goal.invariant-loop-i
invariant-loop-i l = record {
  long : length l.frame ≡ length l.fn.frame;
  rest : (s : PacketState) → s.regs ≡ l.regs → s.frame_start ≡ l.start → length s.frame ≡ length l.fn.frame
      → frame_after s (drop l.i-index l.packet) l.frame ≡ frame_after s l.packet l.fn.frame;
}
