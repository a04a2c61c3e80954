use Rattle.std.proofs.Common.{◌-◌, length, take}
use Rattle.un_commands.proofs.AllocLaws.{SoFar}
use Rattle.un_commands.proofs.alloc.read_settings.Given as goal

abbrev pub invariant-loop-flag : goal.invariant-loop-flag
invariant-loop-flag l = SoFar (take l.from l.words) l.takes l.words l.place l.given l.table

abbrev pub decreases-loop-flag : goal.decreases-loop-flag
decreases-loop-flag l = length l.words - l.place
