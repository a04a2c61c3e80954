-- the operations that are left
use Rattle.std.proofs.Common.{◌≡◌, ◌++◌, drop}
use Rattle.un_ir.specs.LinearOf.{past_all, body_ops, current_after}
use Rattle.un_lssa.proofs.ops.push_body.Given as goal

abbrev pub invariant-loop-o : goal.invariant-loop-o
invariant-loop-o l = record {
  past : past_all l.n (drop l.o-index l.source) ≡ past_all l.first l.source;
  ops : l.ops ++ body_ops l.t l.current l.n (drop l.o-index l.source) ≡ l.initial.ops ++ body_ops l.t l.initial.current l.first l.source;
  current : current_after l.current l.n (drop l.o-index l.source) ≡ current_after l.initial.current l.first l.source;
}
