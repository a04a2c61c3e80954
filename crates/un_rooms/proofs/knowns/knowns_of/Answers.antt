use Rattle.std.proofs.Common.{◌∙◌, ◌∷◌, [], ◌++◌, ap, arith}
use Rattle.un_model.proofs.Steps.{blocks_more, blocks_all}
use Rattle.un_rows.specs.Rows.{known_at, known_in}
use Rattle.un_rows.specs.declared.known.Known.{Known}
use Rattle.un_saved.specs.Joined.{joined_in}
use Rattle.un_saved.specs.declared.boundary.Marks.{Marks}
use Rattle.un_sites.specs.Places.{block_places}
use Rattle.un_rooms.proofs.knowns.knowns_of.Goals as goal

pub loop-k-preserved : goal.loop-k-preserved
loop-k-preserved c =
    let m = c.args.m.now in
    let k = c.loop-k.k in
    let block = c.get-block.result.now in
    let vars = c.get.result.now in
    let one = rw c.in_ok-b.ensures.number at c.in_ok-known.ensures in
    let made = one
    ∙ ap (λ (marks : Marks). known_at m marks k block vars (block_places k c.loop-k.n block vars)) c.in_ok-marks.ensures.is in
    let more = c.in_ok-push.ensures.ok ∙ ap (λ (x : Known). c.loop-k.knowns ++ x ∷ []) made in
    let n = rw c.len-in-loop-k.ensures at c.in_ok-n.ensures.later in
    blocks_more (known_in m (joined_in m.ext.blocks)) k c.loop-k.n c.in_ok-n.n k m.ext.blocks m.blocks block vars c.loop-k.knowns _
    c.push.new.self c.loop-k.invariant c.get-block.ensures c.get.ensures more n

pub returns : goal.returns
returns c =
    blocks_all (known_in c.args.m.now (joined_in c.args.m.now.ext.blocks)) c.loop-k.k c.loop-k.n c.loop-k.k c.args.m.now.ext.blocks
    c.args.m.now.blocks c.loop-k.knowns _ c.loop-k.invariant (omega arith)
