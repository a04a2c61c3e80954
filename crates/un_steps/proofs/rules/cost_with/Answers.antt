use Rattle.std.proofs.Common.{sym, ◌∙◌, arith}
use Rattle.un_steps.proofs.CostSteps.{cost_none, cost_more, cost_all}
use Rattle.un_steps.proofs.rules.cost_with.Goals as goal

pub returns : goal.returns
returns c =
    let m = c.args.m.now in
    let a = c.len.ensures in let b = c.len-2.ensures in let n = c.min-k-end.ensures in let t = c.loop-k-test.false in
    sym (cost_all c.args.s.now.sets c.args.v.0 c.args.y c.loop-k.k c.loop-k.sum m.ext.blocks m.blocks (omega (arith, a, b, n, t)))
    ∙ c.loop-k.invariant.0

pub returns-in-None : goal.returns-in-None
returns-in-None c =
    let m = c.args.m.now in
    sym (cost_none c.args.s.now.sets c.args.v.0 c.args.y c.loop-k.k c.loop-k.sum m.ext.blocks m.blocks c.get-block.result.now
    c.get-vars.result.now c.get-block.ensures c.get-vars.ensures (sym c.end_with.ensures ∙ c.in-None.is)) ∙ c.loop-k.invariant.0

pub loop-k-preserved : goal.loop-k-preserved
loop-k-preserved c =
    let m = c.args.m.now in
    let low = c.loop-k.invariant.1 in
    let small = c.block_cost-sum.ensures.small in (
      sym (cost_more c.args.s.now.sets c.args.v.0 c.args.y c.loop-k.k c.loop-k.sum c.in-Some.end c.block_cost-sum.result m.ext.blocks m.blocks
          c.get-block.result.now c.get-vars.result.now c.get-block.ensures c.get-vars.ensures (sym c.end_with.ensures ∙ c.in-Some.is)
          c.block_cost-sum.ensures.value) ∙ c.loop-k.invariant.0,
      omega (arith, low, small),
    )
