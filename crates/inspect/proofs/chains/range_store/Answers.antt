use Rattle.un_domains.specs.declared.domain.Domain.TheVariants.{Range}
use Rattle.inspect.proofs.StoreLaws.{new_full}
use Rattle.inspect.proofs.chains.range_store.Goals as goal

pub returns-clause-live : goal.returns-clause-live
returns-clause-live c = new_full c.in_ok-domains.domains.items (Range 0 0) c.in_ok-domains.ensures.each c.new.result c.new.ensures.sets
