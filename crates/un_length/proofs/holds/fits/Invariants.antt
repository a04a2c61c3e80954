-- what is left after those so far
use Rattle.std.proofs.Common.{◌≡◌, ◌+◌, take}
use Rattle.un_isa.specs.PacketCounts.{places_of}
use Rattle.un_length.specs.Blocks.{taken}
use Rattle.un_length.proofs.holds.fits.Given as goal

abbrev pub invariant-loop-task : goal.invariant-loop-task
invariant-loop-task l = l.left + taken l.r (take l.task-index l.ops) l.fixed l.c ≡ places_of l.r
