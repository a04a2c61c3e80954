use Rattle.std.proofs.Common.{arith, ◌++◌, ◌∙◌, ap, List}
use Rattle.un_model.specs.Pairs.{over_blocks}
use Rattle.un_model.proofs.Steps.{blocks_more, blocks_all}
use Rattle.un_sites.specs.Places.{Definer}
use Rattle.un_sites.specs.Pressures.{pressure_in}
use Rattle.un_sites.specs.Sites.{definers_in}
use Rattle.un_rooms.proofs.post_pressures.post_pressures.Goals as goal

pub loop-k-preserved : goal.loop-k-preserved
loop-k-preserved c =
    let more = rw c.in_ok-b.ensures.number at c.in_ok-post_block_at.ensures in
    let n = rw c.len-in-loop-k.ensures at c.in_ok-n.ensures.later in
    blocks_more (pressure_in c.args.m.now (definers_in c.args.sites.now)) c.loop-k.k c.loop-k.n
    c.in_ok-n.n c.loop-k.k c.args.m.now.ext.blocks c.args.m.now.blocks c.get-block.result.now c.get.result.now _ _ _
    c.loop-k.invariant c.get-block.ensures c.get.ensures more n

pub returns : goal.returns
returns c =
    blocks_all (pressure_in c.args.m.now (definers_in c.args.sites.now)) c.loop-k.k c.loop-k.n
    c.loop-k.k c.args.m.now.ext.blocks c.args.m.now.blocks _ _ c.loop-k.invariant (omega arith)
    ∙ ap (λ (ds : List Definer). c.args.props.now ++ over_blocks
    (pressure_in c.args.m.now ds) 0 0 c.args.m.now.ext.blocks c.args.m.now.blocks)
    c.requires
