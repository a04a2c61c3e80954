use Rattle.std.proofs.Common.{ℕ, ◌<◌, get_or}
use Rattle.un_domains.specs.declared.domain.Domain.{Domain}
use Rattle.un_model.specs.Solutions.{InDomain}
use Rattle.un_violations.proofs.clauses.keeps_domains.Given as goal

abbrev pub invariant-loop-k : goal.invariant-loop-k
invariant-loop-k l = (n : ℕ) (d : Domain) → n < l.k → InDomain (get_or l.values n 0) (get_or l.domains n d)
