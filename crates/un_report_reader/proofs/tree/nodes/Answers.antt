use Rattle.std.proofs.Common.{refl}
use Rattle.un_report_reader.proofs.TreeLaws.{one_more}
use Rattle.un_report_reader.proofs.tree.nodes.Goals as goal

pub loop-k-preserved : goal.loop-k-preserved
loop-k-preserved c =
    one_more c.args.limits c.args.at.rest.now c.loop-k.left.now c.loop-k.k _ _ c.loop-k.invariant c.in-Some.ensures.some refl
