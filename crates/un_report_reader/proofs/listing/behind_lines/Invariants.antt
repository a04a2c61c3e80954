-- what is left is what stands behind the lines so far
use Rattle.un_report_reader.specs.Answers.{IsBehindLines}
use Rattle.un_report_reader.proofs.listing.behind_lines.Given as goal

abbrev pub invariant-loop-k : goal.invariant-loop-k
invariant-loop-k l = IsBehindLines l.text l._k l.rest
