use Rattle.std.proofs.Common.{sym, subst}
use Rattle.un_top.specs.Behaviours.{of_refutation}
use Rattle.un_top.specs.Runs.{RefusesText}
use Rattle.un_top.proofs.Refused.{refutation_refused}
use Rattle.un_top.proofs.refutation.refutation_output.Goals as goal

pub returns-in-Err-clause-refused : goal.returns-in-Err-clause-refused
returns-in-Err-clause-refused c =
    subst (RefusesText of_refutation c.args.input.now) (sym c.status_by.ensures)
    (refutation_refused c.args.input.now c.in-Err.refused c.requires.few c.in-Err.ensures.refused)
