use Rattle.std.proofs.Common.{arith}
use Rattle.un_target.specs.Fitting.{HasFitLatency}
use Rattle.un_target.proofs.FitLaws.{here_fits, fits_here}
use Rattle.un_target.proofs.NameLaws.{small, one_more}
use Rattle.un_target.proofs.Verdicts.{always, never, not_so}
use Rattle.un_target.proofs.fitting.have_fit_latencies.Goals as goal

pub loop-number-preserved : goal.loop-number-preserved
loop-number-preserved c = one_more (HasFitLatency c.args.t.now) c.loop-number.number c.op_at.result c.op_at.ensures c.loop-number.invariant
    (here_fits c.args.t.now c.op_at.result c.loop-number.number c.op_at.ensures (c.is_fit_latency.ensures.0 c.if-not-is_fit_latency.false))

pub returns-then-not-is_fit_latency : goal.returns-then-not-is_fit_latency
returns-then-not-is_fit_latency c = never (λ each. not_so c.is_fit_latency.ensures c.if-not-is_fit_latency.true
    (fits_here c.args.t.now c.op_at.result c.loop-number.number c.op_at.ensures (each c.op_at.result)))

pub returns : goal.returns
returns c = always (λ op. c.loop-number.invariant op (omega (arith, small op, c.loop-number-test.false)))
