use Rattle.std.proofs.Common.{arith}
use Rattle.un_single.proofs.Tabled.{ends_more, ends_all}
use Rattle.un_single.proofs.post_limit.ends_of.Goals as goal

pub loop-k-preserved : goal.loop-k-preserved
loop-k-preserved c =
    ends_more c.loop-k.k c.args.blocks.now c.args.vars.now c.get-in-loop-k.result.now c.get.result.now c.loop-k.ends _ _ c.loop-k.invariant
    c.get-in-loop-k.ensures c.get.ensures c.in_ok-push.ensures.ok

pub returns : goal.returns
returns c = ends_all c.loop-k.k c.args.blocks.now c.args.vars.now c.loop-k.ends _ c.loop-k.invariant (omega arith)
