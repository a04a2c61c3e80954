use Rattle.std.proofs.Common.{◌≡◌, drop}
use Rattle.un_ir.specs.ExtendOf.{with_values}
use Rattle.un_extend.proofs.values.push_values.Given as goal

abbrev pub invariant-loop-sort : goal.invariant-loop-sort
invariant-loop-sort l = with_values l.n (drop l.sort-index l.sorts) l.g ≡ with_values l.first l.sorts l.initial.g
