-- the names so far go on to those of the whole list
use Rattle.std.proofs.Common.{◌≡◌, ◌++◌, drop}
use Rattle.un_faults.specs.Before.{numbered}
use Rattle.un_faults.proofs.new_names.push_all.Given as goal

abbrev pub invariant-loop-name : goal.invariant-loop-name
invariant-loop-name l = numbered (l.known ++ l.fn.new) l.names ≡ numbered (l.known ++ l.new) (drop l.name-index l.names)
