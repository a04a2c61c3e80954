-- the text so far with what is left is the whole
use Rattle.std.proofs.Common.{◌≡◌, ◌++◌, drop}
use Rattle.un_outcome.specs.Outcomes.{spaced_numbers}
use Rattle.un_outcome.proofs.pieces.put_all.Given as goal

abbrev pub invariant-loop-n : goal.invariant-loop-n
invariant-loop-n l = l.out.items ++ spaced_numbers (drop l.n-index l.numbers) ≡ l.initial.out.items ++ spaced_numbers l.numbers
