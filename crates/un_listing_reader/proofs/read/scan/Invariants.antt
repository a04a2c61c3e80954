-- the lines so far stand
use Rattle.un_listing_reader.proofs.Standing.{StandSoFar}
use Rattle.un_listing_reader.proofs.read.scan.Given as goal

abbrev pub invariant-loop-k : goal.invariant-loop-k
invariant-loop-k l = StandSoFar l.before l.lines l.k
