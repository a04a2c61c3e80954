use Rattle.un_gen.proofs.GenLoops.{ops_more}
use Rattle.un_gen.proofs.ops.drawn_ops.Goals as goal

pub loop-i-preserved : goal.loop-i-preserved
loop-i-preserved c = ops_more _ _ _ _ _ _ c.loop-i-test.true c.loop-i.invariant c.in_ok-push_drawn.ensures.op c.push_drawn.ensures.state
