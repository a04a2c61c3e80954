-- the nodes so far and what is left are the text
use Rattle.std.proofs.Common.{length}
use Rattle.un_check.proofs.LineLemmas.{AreCounted}
use Rattle.un_check.proofs.lines.count_lines.Given as goal

abbrev pub invariant-loop-rest : goal.invariant-loop-rest
invariant-loop-rest l = AreCounted l.text l.count l.left

abbrev pub decreases-loop-rest : goal.decreases-loop-rest
decreases-loop-rest l = length l.left
