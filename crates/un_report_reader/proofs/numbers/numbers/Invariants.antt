-- the numbers so far and what is left are the text
use Rattle.un_report_reader.proofs.NumberLaws.{SoFar}
use Rattle.un_report_reader.proofs.numbers.numbers.Given as goal

abbrev pub invariant-loop-k : goal.invariant-loop-k
invariant-loop-k l = SoFar l.at.rest.now l.rest l.count l.values l.k
