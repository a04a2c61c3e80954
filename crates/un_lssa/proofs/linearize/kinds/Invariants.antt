use Rattle.std.proofs.Common.{◌≡◌, map, take}
use Rattle.un_ir.specs.LinearOf.{kind_of_pair}
use Rattle.un_lssa.proofs.linearize.kinds.Given as goal

abbrev pub invariant-loop-name : goal.invariant-loop-name
invariant-loop-name l = l.kinds ≡ map kind_of_pair (take l.name-index l.names)
