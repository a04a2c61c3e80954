use Rattle.un_domains.specs.DomainLaws.{rank_at}
use Rattle.un_domains.proofs.places.count_to.Goals as goal

pub returns-in-Some-clause-agree : goal.returns-in-Some-clause-agree
returns-in-Some-clause-agree c i below =
    rank_at c.args.values.now c.in-Some.k c.args.x i c.requires c.in-Some.ensures.0 c.in-Some.ensures.1 below
