use Rattle.un_model.proofs.ArcSteps.{blocks_arcs_more}
use Rattle.un_model.proofs.arcs.arcs.Goals as goal

pub loop-k-preserved : goal.loop-k-preserved
loop-k-preserved c =
    blocks_arcs_more c.args.e.now.table c.args.temps.now c.loop-k.n c.in_ok-n.n c.loop-k.k c.args.e.now.blocks c.get.result.now
    c.loop-k.arcs _ c.push.new.self c.in_ok-more.more c.loop-k.invariant c.get.ensures
    (rw c.as_slice-ops.ensures at c.in_ok-more.ensures) c.in_ok-push.ensures.ok (rw c.as_slice-ops.ensures at c.in_ok-n.ensures.later)
