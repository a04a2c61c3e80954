use Rattle.un_target.specs.Lending.{lent_parts}
use Rattle.un_target.proofs.LatencyLaws.{is_latency, not_latency, none_latency}
use Rattle.un_target.proofs.latencies.latency.Goals as goal

pub returns-in_default-clause-none : goal.returns-in_default-clause-none
returns-in_default-clause-none c = none_latency (lent_parts c.args.parts.now) c.args.op c.in_default.ensures.none

pub returns-then-is_fit_latency-clause-some : goal.returns-then-is_fit_latency-clause-some
returns-then-is_fit_latency-clause-some c = is_latency (lent_parts c.args.parts.now) c.args.op c.in-Some.n c.in-Some.ensures.some
    (c.is_fit_latency.ensures.0 c.if-is_fit_latency.true)

pub returns-else-is_fit_latency-clause-none : goal.returns-else-is_fit_latency-clause-none
returns-else-is_fit_latency-clause-none c = not_latency (lent_parts c.args.parts.now) c.args.op c.in-Some.n c.is_fit_latency.result
    c.in-Some.ensures.some c.is_fit_latency.ensures c.if-is_fit_latency.false
