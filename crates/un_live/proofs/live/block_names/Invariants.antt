-- the names so far, and those that the columns that are left give
use Rattle.std.proofs.Common.{◌≡◌, ◌++◌, drop}
use Rattle.un_live.specs.Marks.{names_from}
use Rattle.un_live.proofs.live.block_names.Given as goal

abbrev pub invariant-loop-name : goal.invariant-loop-name
invariant-loop-name l = l.names ++ names_from l.name (drop l.name l.columns) l.b ≡ names_from 0 l.columns l.b
