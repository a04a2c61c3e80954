use Rattle.std.proofs.Common.{◌≡◌, ◌++◌, drop}
use Rattle.un_mirrors.proofs.shorten.copy_domains.Given as goal

abbrev pub invariant-loop-domain : goal.invariant-loop-domain
invariant-loop-domain l = l.same.items ++ drop l.domain-index l.domains ≡ l.domains
