-- what is left of the block comes to the whole
use Rattle.std.proofs.Common.{◌≡◌, ◌+◌, ◌*◌, ◌≤◌}
use Rattle.un_packet.specs.Machine.{IsInCode}
use Rattle.un_packet.proofs.Runs.{IsHalfway}
use Rattle.un_packet.proofs.run.run_block.Given as goal

abbrev pub invariant-loop-place : goal.invariant-loop-place
invariant-loop-place l = record {
  half : IsHalfway l.c l.fn.machine l.machine;
  inside : IsInCode l.c l.machine;
  place : l.machine.place + 1 ≡ l.place;
  cycle : l.machine.state.cycle ≤ l.fn.machine.state.cycle + 2 * l.machine.place;
}
