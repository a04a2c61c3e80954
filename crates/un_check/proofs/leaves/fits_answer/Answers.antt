use Rattle.std.proofs.Common.{◌↔◌, IsTrue, not, nat_eq, sym, subst}
use Rattle.un_report.specs.declared.report.Answered.{Answered}
use Rattle.un_check.specs.Causes.{FitsAnswer}
use Rattle.un_check.proofs.LeafLemmas.{none_test, some_test}
use Rattle.un_check.proofs.leaves.fits_answer.Goals as goal

pub returns-in-Infeasible : goal.returns-in-Infeasible
returns-in-Infeasible c t is =
    subst (λ (a : Answered). IsTrue (nat_eq c.args.open_leaves 0) ↔ FitsAnswer a t) (sym c.in-Infeasible.is) (none_test c.args.open_leaves t is)

pub returns-in-Spent : goal.returns-in-Spent
returns-in-Spent c t is =
    subst (λ (a : Answered). IsTrue (not (nat_eq c.args.open_leaves 0)) ↔ FitsAnswer a t) (sym c.in-Spent.is) (some_test c.args.open_leaves t is)
