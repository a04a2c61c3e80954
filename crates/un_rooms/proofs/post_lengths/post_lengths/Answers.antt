use Rattle.std.proofs.Common.{arith}
use Rattle.un_model.proofs.Steps.{blocks_more, blocks_all}
use Rattle.un_sites.specs.Befores.{length_in}
use Rattle.un_rooms.proofs.post_lengths.post_lengths.Goals as goal

pub loop-k-preserved : goal.loop-k-preserved
loop-k-preserved c =
    let more = rw c.in_ok-b.ensures.number at c.in_ok-post_block.ensures in
    let n = rw c.len-in-loop-k.ensures at c.in_ok-n.ensures.later in
    blocks_more (length_in c.args.m.now) c.loop-k.k c.loop-k.n c.in_ok-n.n c.loop-k.k c.args.m.now.ext.blocks
    c.args.m.now.blocks c.get-block.result.now c.get.result.now c.loop-k.props _ _ c.loop-k.invariant c.get-block.ensures c.get.ensures
    more n

pub returns : goal.returns
returns c =
    blocks_all (length_in c.args.m.now) c.loop-k.k c.loop-k.n c.loop-k.k c.args.m.now.ext.blocks c.args.m.now.blocks
    c.loop-k.props _ c.loop-k.invariant (omega arith)
