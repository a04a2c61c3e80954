use Rattle.std.proofs.Common.{◌≡◌, ℕ, ◌<◌, Some}
use Rattle.std.specs.Prelude.{slice_get}
use Rattle.un_ir.specs.declared.extended.ExtOp.{ExtOp}
use Rattle.un_model.specs.declared.model.OpVars.{OpVars}
use Rattle.un_bound.specs.Choices.{FitsBefore}
use Rattle.un_bound.proofs.settle.transfers_fit.Given as goal

abbrev pub invariant-loop-i : goal.invariant-loop-i
invariant-loop-i l = (k : ℕ) (op : ExtOp) (v : OpVars) → k < l.i → slice_get l.b.ops.now k ≡ Some op → slice_get l.b.vars.now k ≡ Some v
    → FitsBefore l.b.store.now.sets l.end op.kind v
