use Rattle.un_violations.specs.Loose.{is_time}
use Rattle.std.proofs.Common.{take}
use Rattle.un_violations.proofs.Marking.{block_more}
use Rattle.un_violations.proofs.loose.times.Goals as goal

pub loop-vars-preserved : goal.loop-vars-preserved
loop-vars-preserved c =
    block_more c.args.blocks.now c.loop-vars.vars-index c.args.n c.vars-item.result c.mark_block.new.times c.loop-vars-test.true c.vars-item.is
    (c.mark_block.ensures (is_time (take c.loop-vars.vars-index c.args.blocks.now)) c.args.n c.loop-vars.invariant)
