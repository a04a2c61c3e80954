-- those so far have room
use Rattle.std.proofs.Common.{◌≡◌, All, length, vec_len}
use Rattle.un_packet.specs.Runnable.{IsSpare}
use Rattle.un_packet.proofs.machine.spares.Given as goal

abbrev pub invariant-loop-i : goal.invariant-loop-i
invariant-loop-i l = record {
  room : All (IsSpare (length l.memory)) l.spares.items;
  many : vec_len l.spares ≡ l._i;
}
