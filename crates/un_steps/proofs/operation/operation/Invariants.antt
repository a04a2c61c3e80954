use Rattle.std.proofs.Common.{◌≡◌}
use Rattle.un_steps.specs.Words.{operation_at}
use Rattle.un_steps.proofs.Finding.{found_from}
use Rattle.un_steps.proofs.operation.operation.Given as goal

abbrev pub invariant-loop-k : goal.invariant-loop-k
invariant-loop-k l = found_from l.m.ext.blocks l.m.blocks l.k l.rest ≡ operation_at l.m l.fn.n
