-- what is left to store comes to the whole
use Rattle.std.proofs.Common.{◌≡◌, drop}
use Rattle.un_packet.specs.Step.{PacketState, memory_after}
use Rattle.un_packet.proofs.writes.store_all.Given as goal

abbrev pub invariant-loop-i : goal.invariant-loop-i
invariant-loop-i l = (s : PacketState) → s.regs ≡ l.regs → memory_after s (drop l.i-index l.packet) l.memory ≡ memory_after s l.packet
    l.fn.memory
