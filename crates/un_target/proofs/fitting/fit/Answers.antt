use Rattle.un_target.proofs.FitLaws.{fit_of, fit_latency, fit_needs, fit_register, fit_rest}
use Rattle.un_target.proofs.Verdicts.{never, not_so}
use Rattle.un_target.proofs.fitting.fit.Goals as goal

pub returns-then-not-have_fit_latencies : goal.returns-then-not-have_fit_latencies
returns-then-not-have_fit_latencies c = never
    (λ h. not_so c.have_fit_latencies.ensures c.if-not-have_fit_latencies.true (fit_latency c.args.t.now h))

pub returns-then-not-have_fit_needs : goal.returns-then-not-have_fit_needs
returns-then-not-have_fit_needs c = never (λ h. not_so c.have_fit_needs.ensures c.if-not-have_fit_needs.true (fit_needs c.args.t.now h))

pub returns-then-not-have_fit_registers : goal.returns-then-not-have_fit_registers
returns-then-not-have_fit_registers c =
    never (λ h. not_so c.have_fit_registers.ensures c.if-not-have_fit_registers.true (fit_register c.args.t.now h))

pub returns : goal.returns
returns c = (
  λ so. fit_of c.args.t.now (c.have_fit_latencies.ensures.0 c.if-not-have_fit_latencies.false)
      (c.have_fit_needs.ensures.0 c.if-not-have_fit_needs.false) (c.have_fit_registers.ensures.0 c.if-not-have_fit_registers.false)
      (c.has_fit_rest.ensures.0 so),
  λ h. c.has_fit_rest.ensures.1 (fit_rest c.args.t.now h),
)
