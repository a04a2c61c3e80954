use Rattle.std.proofs.Common.{refl, arith}
use Rattle.un_model.proofs.Steps.{pairs_more, pairs_all}
use Rattle.un_sites.specs.Places.{place_at}
use Rattle.un_sites.specs.Sites.{place_of}
use Rattle.un_sites.proofs.Appends.{mapped_added}
use Rattle.un_sites.proofs.tables.add_block.Goals as goal

pub loop-k-preserved : goal.loop-k-preserved
loop-k-preserved c =
    rw c.in_ok-n.ensures.later
    (pairs_more (place_at c.args.b c.args.vars.now.end) c.loop-k.n c.loop-k.k c.args.block.now.ops c.args.vars.now.ops
    c.get.result.now c.get-in-loop-k.result.now _ _ _ _ c.loop-k.invariant c.get.ensures c.get-in-loop-k.ensures refl
    (mapped_added place_of c.loop-k.spots _ _ c.in_ok-push.ensures.ok))

pub returns : goal.returns
returns c =
    pairs_all (place_at c.args.b c.args.vars.now.end) c.loop-k.n c.loop-k.k c.args.block.now.ops c.args.vars.now.ops _ _
    c.loop-k.invariant (omega arith)
