use Rattle.std.proofs.Common.{arith}
use Rattle.un_model.proofs.Steps.{blocks_more, blocks_all}
use Rattle.un_sites.specs.Postings.{edges_of}
use Rattle.un_sites.specs.Sites.{definers_in}
use Rattle.un_single.proofs.post_edges.post_blocks.Goals as goal

pub loop-k-preserved : goal.loop-k-preserved
loop-k-preserved c =
    let more = c.in_ok-post_block.ensures c.get-in-loop-k.result.now c.get-in-loop-k.ensures in
    let n = rw c.len-in-loop-k.ensures at c.in_ok-n.ensures.later in
    blocks_more (edges_of c.args.blocks.now (definers_in c.args.sites.now)) c.loop-k.k c.loop-k.n c.in_ok-n.n c.loop-k.k c.args.blocks.now
    c.args.vars.now c.get-in-loop-k.result.now c.get.result.now c.loop-k.props _ _ c.loop-k.invariant c.get-in-loop-k.ensures
    c.get.ensures more n

pub returns : goal.returns
returns c =
    blocks_all (edges_of c.args.blocks.now (definers_in c.args.sites.now)) c.loop-k.k c.loop-k.n c.loop-k.k c.args.blocks.now
    c.args.vars.now c.loop-k.props _ c.loop-k.invariant (omega arith)
