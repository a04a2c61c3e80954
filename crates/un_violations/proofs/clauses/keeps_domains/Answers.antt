use Rattle.std.proofs.Common.{refl, sym}
use Rattle.std.proofs.Common.{arith}
use Rattle.un_violations.proofs.Domains.{kept, fewer, outside}
use Rattle.un_violations.proofs.clauses.keeps_domains.Goals as goal

pub returns-then-domains-values : goal.returns-then-domains-values
returns-then-domains-values c = fewer c.args.domains.now c.args.values.now (λ e. c.if-domains-values.true (sym e))

pub returns-then-not-in_domain : goal.returns-then-not-in_domain
returns-then-not-in_domain c =
    outside c.args.domains.now c.args.values.now c.loop-k.k _ c.index-domains-k.result c.in_domain.result c.loop-k-test.true refl
    c.index-domains-k.is c.in_domain.ensures c.if-not-in_domain.true

pub returns : goal.returns
returns c = (
  λ t. kept c.args.domains.now c.args.values.now (sym c.if-domains-values.false)
      (λ n d lt. c.loop-k.invariant n d (omega (arith, lt, c.loop-k-test.false))),
  λ k. refl,
)
