use Rattle.std.proofs.Common.{refl, arith}
use Rattle.un_target.specs.Lending.{lent_parts}
use Rattle.un_target.proofs.LatencyLaws.{one_latency, all_latencies, none_latencies}
use Rattle.un_target.proofs.latencies.latencies.Goals as goal

pub loop-number-init : goal.loop-number-init
loop-number-init c = record { count = refl; each = λ op h. absurd (omega (arith, h)) }

pub loop-number-preserved : goal.loop-number-preserved
loop-number-preserved c = one_latency (lent_parts c.args.parts.now) c.loop-number.lat c.loop-number.number c.op_at-op.result c.in-Some.n
    c.op_at-op.ensures c.loop-number-test.true c.loop-number.invariant c.in-Some.ensures.some

pub returns-in_default-clause-none : goal.returns-in_default-clause-none
returns-in_default-clause-none c = none_latencies (lent_parts c.args.parts.now) c.op_at-op.result c.in_default.ensures.none

pub returns-clause-some : goal.returns-clause-some
returns-clause-some c = all_latencies (lent_parts c.args.parts.now) c.loop-number.lat c.loop-number.number c.loop-number-test.false
    c.loop-number.invariant
