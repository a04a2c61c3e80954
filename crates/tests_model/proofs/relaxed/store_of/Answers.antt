use Rattle.un_domains.specs.declared.domain.Domain.TheVariants.{Range}
use Rattle.tests_model.proofs.StoreLaws.{full}
use Rattle.tests_model.proofs.relaxed.store_of.Goals as goal

pub returns-clause-live : goal.returns-clause-live
returns-clause-live c =
    full c.args.domains.items (Range 0 0) c.requires.each c.in_ok-store.store.sets c.in_ok-store.ensures.sets
