use Rattle.std.proofs.Common.{◌∙◌}
use Rattle.un_model.proofs.EndLaws.{start_found, start_on}
use Rattle.un_model.proofs.ends.live_in_temps.Goals as goal

pub loop-k-preserved : goal.loop-k-preserved
loop-k-preserved c = start_on c.args.ops.now c.loop-k.k c.get-op.result.now c.is_in.result c.get-op.ensures c.is_in.ensures
    c.if-is_in.false c.loop-k.invariant

pub returns-then-is_in : goal.returns-then-is_in
returns-then-is_in c = c.as_slice.ensures ∙ start_found c.args.ops.now c.loop-k.k c.get-op.result.now c.is_in.result
    c.get-op.ensures c.is_in.ensures c.if-is_in.true c.loop-k.invariant
