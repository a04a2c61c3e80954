-- so many lines of the text are left to be taken
use Rattle.un_runs.proofs.FrontLaws.{IsLeft}
use Rattle.un_runs.proofs.runs.first_lines.Given as goal

abbrev pub invariant-loop-left : goal.invariant-loop-left
invariant-loop-left l = IsLeft l.text l.rest l.count l.left

abbrev pub decreases-loop-left : goal.decreases-loop-left
decreases-loop-left l = l.left
