-- the text so far with the numbers that are left is the whole
use Rattle.std.proofs.Common.{◌≡◌, ◌++◌, drop, length}
use Rattle.un_report.specs.Reports.{numbers_from, numbers_text}
use Rattle.un_report.proofs.print.put_numbers.Given as goal

abbrev pub invariant-loop-k : goal.invariant-loop-k
invariant-loop-k l = l.out.items ++ numbers_from (length l.values) l.k (drop l.k l.values) ≡ l.initial.out.items ++ numbers_text l.values
