use Rattle.std.proofs.Common.{length}
use Rattle.un_domains.proofs.trail.Words.new.Goals as goal

pub invariant_of-result : goal.invariant_of-result
invariant_of-result c = c.no_saves.ensures.saves (length c.args.words.items)
