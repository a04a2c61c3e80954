use Rattle.un_gen.proofs.GenLoops.{blocks_more}
use Rattle.un_gen.proofs.blocks.all_blocks.Goals as goal

pub loop-b-preserved : goal.loop-b-preserved
loop-b-preserved c =
    blocks_more c.args.size c.loop-b.b _ _ _ _ _ c.loop-b-test.true c.loop-b.invariant c.in_ok-push_block.ensures.block
    c.in_ok-push_block.ensures.state
