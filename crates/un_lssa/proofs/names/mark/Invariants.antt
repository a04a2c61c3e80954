use Rattle.std.proofs.Common.{◌≡◌, drop}
use Rattle.un_lssa.specs.Making.{marked_with}
use Rattle.un_lssa.proofs.names.mark.Given as goal

abbrev pub invariant-loop-name : goal.invariant-loop-name
invariant-loop-name l = marked_with l.marks (drop l.name-index l.names) ≡ marked_with l.initial.marks l.names
