use Rattle.std.proofs.Common.{arith}
use Rattle.std.specs.Prelude.{◌==◌}
use Rattle.un_baseline.proofs.Pushing.{blocks_more, blocks_all}
use Rattle.un_baseline.proofs.spill.push_blocks.Goals as goal

pub loop-k-preserved : goal.loop-k-preserved
loop-k-preserved c = blocks_more c.args.e.now c.args.e.now.blocks c.loop-k.k c.get.result.now c.loop-k.values _ c.push_block.new.values
    c.loop-k.invariant c.get.ensures c.in_ok-push_block.ensures

pub returns : goal.returns
returns c = blocks_all c.args.e.now c.args.e.now.blocks c.loop-k.k (c.loop-k.k == 0) c.loop-k.values _ c.loop-k.invariant (omega arith)
