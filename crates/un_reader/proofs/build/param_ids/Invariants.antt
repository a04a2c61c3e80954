-- the numbers so far and those of the names that are left are all
use Rattle.std.proofs.Common.{◌≡◌, ◌++◌, drop, map}
use Rattle.un_reader.specs.Functions.{name_id}
use Rattle.un_reader.proofs.build.param_ids.Given as goal

abbrev pub invariant-loop-name : goal.invariant-loop-name
invariant-loop-name l = l.ids ++ map (name_id l.names) (drop l.name-index l.list) ≡ map (name_id l.names) l.list
