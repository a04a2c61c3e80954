use Rattle.std.proofs.Common.{◌+◌, ◌∙◌}
use Rattle.un_ir.specs.declared.extended.Operand.{Operand}
use Rattle.un_model.specs.Arcs.{defines, value_read}
use Rattle.un_model.proofs.Steps.{any_more}
use Rattle.un_model.proofs.arcs.definers.Goals as goal

pub loop-j-preserved : goal.loop-j-preserved
loop-j-preserved c = record {
  length = c.mark.ensures.length ∙ c.loop-j.invariant.length;
  marked = λ k d lt.
      any_more (λ (x : Operand). defines c.args.temps.now (c.args.first + k) (value_read x)) c.loop-j.j c.args.op.now.operands
      c.get.result.now _ _ _ c.get.ensures (c.loop-j.invariant.marked k d lt)
      (c.mark.ensures.marked k d (rw c.loop-j.invariant.length lt));
}
