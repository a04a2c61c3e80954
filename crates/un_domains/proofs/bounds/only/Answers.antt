use Rattle.std.proofs.Common.{sym}
use Rattle.un_domains.specs.MemberLaws.{one_some, one_none}
use Rattle.un_domains.proofs.bounds.only.Goals as goal

pub returns-then-has-clause-set : goal.returns-then-has-clause-set
returns-then-has-clause-set c =
    one_some c.args.words.now c.args.bounds.lo c.args.bounds.end c.args.k c.requires (sym c.if-has.ensures)

pub returns-else-has-clause-set : goal.returns-else-has-clause-set
returns-else-has-clause-set c =
    one_none c.args.words.now c.args.bounds.lo c.args.bounds.end c.args.k c.requires (sym c.if-has.ensures)
