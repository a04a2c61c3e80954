use Rattle.un_domains.specs.MemberLaws.{from_some, from_all}
use Rattle.un_domains.proofs.bounds.from.Goals as goal

pub returns-then-bounds-k-clause-set : goal.returns-then-bounds-k-clause-set
returns-then-bounds-k-clause-set c =
    from_some c.args.words.now c.args.bounds.lo c.args.bounds.end c.args.k c.requires c.min-start.result c.next_set-lo.result
    c.if-bounds-k.true c.min-start.ensures c.next_set-lo.ensures.low c.next_set-lo.ensures.high c.next_set-lo.ensures.passed

pub returns-else-bounds-k-clause-set : goal.returns-else-bounds-k-clause-set
returns-else-bounds-k-clause-set c =
    from_all c.args.words.now c.args.bounds.lo c.args.bounds.end c.args.k c.requires c.if-bounds-k.false
