use Rattle.std.proofs.Common.{ℕ, ◌<◌, ◌≤◌, get_or}
use Rattle.un_ir.specs.declared.extended.ExtBlock.{ExtBlock}
use Rattle.tests_model.proofs.relaxed.horizon.Given as goal

abbrev pub invariant-loop-k : goal.invariant-loop-k
invariant-loop-k l = (k : ℕ) (d : ExtBlock) → k < l.k → (get_or l.blocks k d).horizon ≤ l.most
