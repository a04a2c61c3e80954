use Rattle.std.proofs.Common.{◌≡◌, ◌++◌, map, take}
use Rattle.un_baseline.specs.SpillEverywhere.{operand_place}
use Rattle.un_baseline.proofs.spill.push_last_places.Given as goal

abbrev pub invariant-loop-x : goal.invariant-loop-x
invariant-loop-x l = l.values ≡ l.initial.values ++ map operand_place (take l.x-index l.operands)
