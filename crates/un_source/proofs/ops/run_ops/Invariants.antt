-- the operations that are left decide
use Rattle.std.proofs.Common.{◌≡◌, drop}
use Rattle.un_ir.specs.Source.{ops_run}
use Rattle.un_source.specs.States.{state_of}
use Rattle.un_source.proofs.ops.run_ops.Given as goal

abbrev pub invariant-loop-o : goal.invariant-loop-o
invariant-loop-o l = ops_run l.ops (state_of l.replies l.initial.s) ≡ ops_run (drop l.o-index l.ops) (state_of l.replies l.s)
