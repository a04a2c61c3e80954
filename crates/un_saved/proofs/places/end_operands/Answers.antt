use Rattle.std.proofs.Common.{◌∙◌}
use Rattle.un_saved.proofs.Saving.{end_found, end_on}
use Rattle.un_saved.proofs.places.end_operands.Goals as goal

pub loop-k-preserved : goal.loop-k-preserved
loop-k-preserved c = end_on c.args.ops.now c.loop-k.k c.get-op.result.now c.is_out.result c.get-op.ensures c.is_out.ensures
    c.if-is_out.false c.loop-k.invariant

pub returns-then-is_out : goal.returns-then-is_out
returns-then-is_out c = c.as_slice.ensures ∙ end_found c.args.ops.now c.loop-k.k c.get-op.result.now c.is_out.result
    c.get-op.ensures c.is_out.ensures c.if-is_out.true c.loop-k.invariant
