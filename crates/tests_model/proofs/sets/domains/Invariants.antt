-- each so far is a domain
use Rattle.std.proofs.Common.{All}
use Rattle.un_domains.specs.Domains.{IsDomain}
use Rattle.tests_model.proofs.sets.domains.Given as goal

abbrev pub invariant-loop-set : goal.invariant-loop-set
invariant-loop-set l = All IsDomain l.all.items
