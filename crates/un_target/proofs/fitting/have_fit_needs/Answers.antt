use Rattle.std.proofs.Common.{arith}
use Rattle.un_target.specs.Fitting.{HasFitNeeds}
use Rattle.un_target.proofs.NameLaws.{small, one_more}
use Rattle.un_target.proofs.Verdicts.{always, never, not_so}
use Rattle.un_target.proofs.fitting.have_fit_needs.Goals as goal

pub loop-number-preserved : goal.loop-number-preserved
loop-number-preserved c = one_more (HasFitNeeds c.args.t.now) c.loop-number.number c.op_at.result c.op_at.ensures c.loop-number.invariant
    (c.has_fit_needs.ensures.0 c.if-not-has_fit_needs.false)

pub returns-then-not-has_fit_needs : goal.returns-then-not-has_fit_needs
returns-then-not-has_fit_needs c = never (λ each. not_so c.has_fit_needs.ensures c.if-not-has_fit_needs.true (each c.op_at.result))

pub returns : goal.returns
returns c = always (λ op. c.loop-number.invariant op (omega (arith, small op, c.loop-number-test.false)))
