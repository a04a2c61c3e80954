use Rattle.std.proofs.Common.{ℕ, below_more, sym, arith}
use Rattle.un_isa.specs.Tables.{in_mask}
use Rattle.un_target.specs.Fitting.{IsFitRegister}
use Rattle.un_target.proofs.FitLaws.{same_register}
use Rattle.un_target.proofs.Verdicts.{always, never, not_so}
use Rattle.un_target.proofs.fitting.have_fit_registers.Goals as goal

pub loop-r-preserved : goal.loop-r-preserved
loop-r-preserved c = below_more (λ (q : ℕ). IsFitRegister (in_mask c.args.t.now.saved q) (in_mask c.args.t.now.clobbered q) q) c.loop-r.r
    c.loop-r.invariant (same_register _ _ _ _ c.loop-r.r c.is_in_mask.ensures c.is_in_mask-in-loop-r.ensures
    (c.is_fit_register.ensures.0 c.if-not-is_fit_register.false))

pub returns-then-not-is_fit_register : goal.returns-then-not-is_fit_register
returns-then-not-is_fit_register c = never (λ each. not_so c.is_fit_register.ensures c.if-not-is_fit_register.true
    (same_register _ _ _ _ c.loop-r.r (sym c.is_in_mask.ensures) (sym c.is_in_mask-in-loop-r.ensures) (each c.loop-r.r c.loop-r-test.true)))

pub returns : goal.returns
returns c = always (λ r lt. c.loop-r.invariant r (omega (arith, lt, c.loop-r-test.false)))
