-- no line so far parts the input
use Rattle.std.proofs.Common.{length}
use Rattle.un_runs.proofs.InputLaws.{SoFar}
use Rattle.un_runs.proofs.input.split.Given as goal

abbrev pub invariant-loop-line : goal.invariant-loop-line
invariant-loop-line l = SoFar l.input l.rest

abbrev pub decreases-loop-line : goal.decreases-loop-line
decreases-loop-line l = length l.rest
