use Rattle.std.proofs.Common.{arith}
use Rattle.un_model.proofs.Steps.{blocks_more, blocks_all}
use Rattle.un_sites.specs.Places.{definers_of}
use Rattle.un_post.specs.PartPostings.{part_in, where_block}
use Rattle.un_post.proofs.part.post_each.Goals as goal

pub loop-i-preserved : goal.loop-i-preserved
loop-i-preserved c =
    let m = c.args.m.now in
    let more = rw c.in_ok-b.ensures.number at c.in_ok-post_where.ensures in
    let n = rw c.len-in-loop-i.ensures at c.in_ok-n.ensures.later in
    blocks_more (where_block c.args.k.0 (part_in m (definers_of m) c.args.limit)) c.loop-i.i c.loop-i.n c.in_ok-n.n c.loop-i.i m.ext.blocks
    m.blocks c.get-block.result.now c.get.result.now c.loop-i.props _ _ c.loop-i.invariant c.get-block.ensures c.get.ensures more n

pub returns : goal.returns
returns c =
    let m = c.args.m.now in
    blocks_all (where_block c.args.k.0 (part_in m (definers_of m) c.args.limit)) c.loop-i.i c.loop-i.n c.loop-i.i m.ext.blocks m.blocks
    c.loop-i.props _ c.loop-i.invariant (omega arith)
