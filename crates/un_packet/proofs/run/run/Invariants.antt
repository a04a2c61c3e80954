-- what is left of the labels comes to the whole
use Rattle.std.proofs.Common.{◌≡◌, ◌-◌, ◌*◌, ◌<◌, ◌≤◌, ◌^◌, false, length}
use Rattle.un_packet.specs.Run.{enter}
use Rattle.un_packet.proofs.run.run.Given as goal

abbrev pub invariant-loop-i : goal.invariant-loop-i
invariant-loop-i l = record {
  rest : enter l.fn.machine.table l.c.blocks (l.n - l._i) l.machine.block l.machine.state ≡ enter l.fn.machine.table l.c.blocks l.n 0
      l.fn.machine.state;
  table : l.machine.table ≡ l.fn.machine.table;
  going : l.machine.ended ≡ false;
  place : l.machine.place ≡ 0;
  block : l.machine.block < length l.c.blocks;
  cycle : l.machine.state.cycle ≤ l._i * 2 ^ 29;
}
