use Rattle.std.proofs.Common.{◌≡◌, ◌++◌, drop}
use Rattle.un_lssa.specs.Making.{names_of_marks}
use Rattle.un_lssa.proofs.names.marked_names.Given as goal

abbrev pub invariant-loop-n : goal.invariant-loop-n
invariant-loop-n l = l.names ++ names_of_marks l.n (drop l.n l.marks) ≡ names_of_marks 0 l.marks
