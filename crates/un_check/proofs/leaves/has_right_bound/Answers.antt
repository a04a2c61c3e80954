use Rattle.std.proofs.Common.{◌↔◌, IsTrue, nat_eq, sym, subst}
use Rattle.un_report.specs.declared.report.Answered.{Answered}
use Rattle.un_certificate.specs.Joints.{visits_in}
use Rattle.un_check.specs.Causes.{HasRightBound}
use Rattle.un_check.proofs.AnswerLemmas.{bound_test}
use Rattle.un_check.proofs.leaves.has_right_bound.Goals as goal

pub returns-in-Code : goal.returns-in-Code
returns-in-Code c t h =
    subst (λ (a : Answered). IsTrue (nat_eq c.in-Code.bound c.bound_of.result) ↔ HasRightBound c.args.m.now a t) (sym c.in-Code.is)
    (bound_test c.args.m.now c.in-Code.cost (visits_in c.args.m.now t) c.in-Code.bound c.bound_of.result (c.bound_of.ensures t h))
