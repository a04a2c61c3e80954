use Rattle.std.proofs.Common.{◌≡◌, take}
use Rattle.un_source.specs.States.{values_of}
use Rattle.un_source.proofs.ops.values_of.Given as goal

abbrev pub invariant-loop-name : goal.invariant-loop-name
invariant-loop-name l = l.xs ≡ values_of l.values (take l.name-index l.names)
