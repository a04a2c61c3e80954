-- the names that are left decide
use Rattle.std.proofs.Common.{◌≡◌, drop}
use Rattle.std.specs.List.{list_any}
use Rattle.un_faults.specs.LineFaults.{is_predicate}
use Rattle.un_faults.proofs.line_fault.has_predicate.Given as goal

abbrev pub invariant-loop-name : goal.invariant-loop-name
invariant-loop-name l = list_any is_predicate l.names ≡ list_any is_predicate (drop l.name-index l.names)
