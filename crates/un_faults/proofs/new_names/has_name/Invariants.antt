-- the names that are left decide
use Rattle.std.proofs.Common.{◌≡◌, drop}
use Rattle.std.specs.List.{list_any}
use Rattle.un_faults.specs.Before.{same_name}
use Rattle.un_faults.proofs.new_names.has_name.Given as goal

abbrev pub invariant-loop-other : goal.invariant-loop-other
invariant-loop-other l = list_any (same_name l.name) l.names ≡ list_any (same_name l.name) (drop l.other-index l.names)
