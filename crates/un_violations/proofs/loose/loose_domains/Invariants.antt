use Rattle.std.proofs.Common.{ℕ, ◌≡◌, ◌++◌, drop}
use Rattle.un_domains.specs.declared.domain.Domain.{Domain}
use Rattle.un_model.specs.Pairs.{places_from}
use Rattle.un_violations.specs.Loose.{is_time, loosened, loose_domains}
use Rattle.un_violations.proofs.loose.loose_domains.Given as goal

abbrev pub invariant-loop-k : goal.invariant-loop-k
invariant-loop-k l = l.loose ++ places_from (λ (k : ℕ) (d : Domain). loosened (is_time l.m.blocks k) d) l.k (drop l.k l.m.domains)
    ≡ loose_domains l.m
