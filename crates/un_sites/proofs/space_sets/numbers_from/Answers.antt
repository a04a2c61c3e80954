use Rattle.std.proofs.Common.{[]}
use Rattle.un_model.proofs.Numbering.{range_more}
use Rattle.un_sites.proofs.space_sets.numbers_from.Goals as goal

pub loop-i-preserved : goal.loop-i-preserved
loop-i-preserved c = range_more c.loop-i.numbers _ [] c.args.first c.loop-i.i c.loop-i.invariant c.in_ok-push.ensures.ok
