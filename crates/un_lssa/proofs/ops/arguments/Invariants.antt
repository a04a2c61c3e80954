use Rattle.std.proofs.Common.{◌≡◌, ◌++◌, drop}
use Rattle.un_ir.specs.LinearOf.{argument_operands}
use Rattle.un_lssa.proofs.ops.arguments.Given as goal

abbrev pub invariant-loop-j : goal.invariant-loop-j
invariant-loop-j l = l.operands ++ argument_operands l.current (drop l.j l.t.args) (drop l.j l.names) ≡ argument_operands l.current l.t.args
    l.names
