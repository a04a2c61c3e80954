use Rattle.un_domains.specs.MemberLaws.{tightened}
use Rattle.un_domains.proofs.bounds.tighten.Goals as goal

pub returns-clause-set : goal.returns-clause-set
returns-clause-set c =
    tightened c.args.words.now c.args.bounds.lo c.args.bounds.end c.next_set-lo.result c.last_set-end.result c.next_set-lo.ensures.low
    c.last_set-end.ensures.high c.next_set-lo.ensures.passed c.last_set-end.ensures.passed
