-- the names so far go on to those of the whole list
use Rattle.std.proofs.Common.{◌≡◌, drop}
use Rattle.un_faults.specs.Before.{numbered}
use Rattle.un_faults.proofs.before.add_names.Given as goal

abbrev pub invariant-loop-name : goal.invariant-loop-name
invariant-loop-name l = numbered l.fn.names l.more ≡ numbered l.names (drop l.name-index l.more)
