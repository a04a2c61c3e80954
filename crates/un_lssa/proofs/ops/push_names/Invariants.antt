use Rattle.std.proofs.Common.{◌≡◌, ◌++◌, None, map, take}
use Rattle.un_ir.specs.LinearOf.{name_operand}
use Rattle.un_lssa.proofs.ops.push_names.Given as goal

abbrev pub invariant-loop-name : goal.invariant-loop-name
invariant-loop-name l = l.operands ≡ l.initial.operands ++ map (name_operand l.current None) (take l.name-index l.names)
