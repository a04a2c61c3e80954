use Rattle.std.proofs.Common.{◌≡◌, map}
use Rattle.std.specs.List.{range_with_len}
use Rattle.un_ir.specs.Extended.{temp}
use Rattle.un_lssa.proofs.ops.new_temps.Given as goal

abbrev pub invariant-loop-k : goal.invariant-loop-k
invariant-loop-k l = l.temps ≡ map temp (range_with_len l.n l.k)
