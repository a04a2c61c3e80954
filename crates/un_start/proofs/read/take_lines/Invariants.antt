-- the lines so far stand, and with what is left they are the text
use Rattle.std.proofs.Common.{length}
use Rattle.un_start.proofs.DraftLaws.{SoFar}
use Rattle.un_start.proofs.read.take_lines.Given as goal

abbrev pub invariant-lines : goal.invariant-lines
invariant-lines l = SoFar l.text l.left l.draft

abbrev pub decreases-lines : goal.decreases-lines
decreases-lines l = length l.left
