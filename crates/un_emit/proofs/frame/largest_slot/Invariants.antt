use Rattle.std.proofs.Common.{◌≡◌, take}
use Rattle.un_model.specs.Emission.{largest_slot}
use Rattle.un_emit.proofs.frame.largest_slot.Given as goal

abbrev pub invariant-loop-range : goal.invariant-loop-range
invariant-loop-range l = l.largest ≡ largest_slot (take l.range-index l.ranges)
