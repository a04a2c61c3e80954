use Rattle.un_target.proofs.Verdicts.{never, not_so}
use Rattle.un_target.proofs.parts.are_right.Goals as goal

pub returns-then-not-are_keys : goal.returns-then-not-are_keys
returns-then-not-are_keys c = never (λ r. not_so c.are_keys.ensures c.if-not-are_keys.true r.no_others)

pub returns-then-not-are_named : goal.returns-then-not-are_named
returns-then-not-are_named c = never (λ r. not_so c.are_named.ensures c.if-not-are_named.true r.latencies)

pub returns-then-not-are_named-2 : goal.returns-then-not-are_named-2
returns-then-not-are_named-2 c = never (λ r. not_so c.are_named-2.ensures c.if-not-are_named-2.true r.needs)

pub returns : goal.returns
returns c = (
  λ so. record {
    no_others = c.are_keys.ensures.0 c.if-not-are_keys.false;
    latencies = c.are_named.ensures.0 c.if-not-are_named.false;
    needs = c.are_named-2.ensures.0 c.if-not-are_named-2.false;
    fours = c.are_fours.ensures.0 so;
  },
  λ r. c.are_fours.ensures.1 r.fours,
)
