use Rattle.un_domains.specs.MemberLaws.{before_some, before_all}
use Rattle.un_domains.proofs.bounds.before.Goals as goal

pub returns-then-k-bounds-clause-set : goal.returns-then-k-bounds-clause-set
returns-then-k-bounds-clause-set c =
    before_some c.args.words.now c.args.bounds.lo c.args.bounds.end c.args.k c.requires c.max-stop.result c.last_set-end.result
    c.if-k-bounds.true c.max-stop.ensures c.last_set-end.ensures.high c.last_set-end.ensures.passed

pub returns-else-k-bounds-clause-set : goal.returns-else-k-bounds-clause-set
returns-else-k-bounds-clause-set c =
    before_all c.args.words.now c.args.bounds.lo c.args.bounds.end c.args.k c.requires c.if-k-bounds.false
