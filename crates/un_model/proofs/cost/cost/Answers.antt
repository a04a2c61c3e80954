use Rattle.un_model.proofs.Costs.{cost_more, cost_all, fits}
use Rattle.std.proofs.Common.{arith}
use Rattle.un_model.proofs.cost.cost.Goals as goal

pub overflow_add-sum : goal.overflow_add-sum
overflow_add-sum c =
    let h = fits c.args.m.now.ext c.as_slice-values.result.now c.args.m.now.blocks c.loop-k.sum c.block_cost-sum.result c.loop-k.k
    c.get.result.now c.get-in-loop-k.result.now c.requires.counts (λ k. let f = c.type_inv.values k in f.fits) c.loop-k.invariant
    c.get.ensures c.get-in-loop-k.ensures c.block_cost-sum.ensures in
    omega (arith, h)

pub loop-k-preserved : goal.loop-k-preserved
loop-k-preserved c =
    cost_more c.as_slice-values.result.now c.loop-k.k c.args.m.now.ext.blocks c.args.m.now.blocks c.get.result.now
    c.get-in-loop-k.result.now c.loop-k.sum _ c.block_cost-sum.result c.loop-k.invariant c.get.ensures c.get-in-loop-k.ensures
    c.block_cost-sum.ensures

pub returns : goal.returns
returns c =
    rw (← c.as_slice-values.ensures)
    (cost_all c.as_slice-values.result.now c.loop-k.k c.args.m.now.ext.blocks c.args.m.now.blocks c.loop-k.sum _ c.loop-k.invariant
    (omega arith))
