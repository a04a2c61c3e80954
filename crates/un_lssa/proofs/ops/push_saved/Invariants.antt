use Rattle.std.proofs.Common.{◌≡◌, ◌++◌, None, map}
use Rattle.std.specs.List.{range_with_len}
use Rattle.un_ir.specs.LinearOf.{reads}
use Rattle.un_lssa.proofs.ops.push_saved.Given as goal

abbrev pub invariant-loop-k : goal.invariant-loop-k
invariant-loop-k l = l.operands ≡ l.initial.operands ++ map (λ n. reads n None) (range_with_len l.first l.k)
