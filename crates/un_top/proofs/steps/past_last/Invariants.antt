-- the lines so far and those that are left are the text's
use Rattle.std.proofs.Common.{◌≡◌, ◌+◌, length}
use Rattle.un_base.specs.Lines.{pieces_of}
use Rattle.un_top.proofs.steps.past_last.Given as goal

abbrev pub invariant-loop-rest : goal.invariant-loop-rest
invariant-loop-rest l = l.count + length (pieces_of l.rest) ≡ length (pieces_of l.text) + 1

abbrev pub decreases-loop-rest : goal.decreases-loop-rest
decreases-loop-rest l = length l.rest
