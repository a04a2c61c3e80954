use Rattle.std.proofs.Common.{refl, arith}
use Rattle.un_bound.proofs.Nexts.{fits_more}
use Rattle.un_bound.proofs.Placed.{within}
use Rattle.un_bound.proofs.settle.transfers_fit.Goals as goal

pub loop-i-preserved : goal.loop-i-preserved
loop-i-preserved c =
    let b = c.args.b.now in
    fits_more b.store.now.sets c.args.end b.ops.now b.vars.now c.loop-i.i c.index-b-i.result c.index-b-i-in-loop-i.result
    c.loop-i.invariant (c.if-not-fits_before.ensures.0 refl)

pub returns : goal.returns
returns c = (λ t k op v p q. c.loop-i.invariant k op v (omega (arith, within c.args.b.now.ops.now k op p)) p q, λ h. refl)
