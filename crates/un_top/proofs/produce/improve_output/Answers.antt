use Rattle.std.proofs.Common.{sym, subst}
use Rattle.un_top.specs.Behaviours.{of_improve}
use Rattle.un_top.specs.Runs.{RefusesText}
use Rattle.un_top.proofs.Refused.{improve_refused}
use Rattle.un_top.proofs.produce.improve_output.Goals as goal

pub returns-in-Err-clause-refused : goal.returns-in-Err-clause-refused
returns-in-Err-clause-refused c =
    subst (RefusesText (of_improve c.args.options) c.args.text.now) (sym c.status_by.ensures)
    (improve_refused c.args.options c.args.text.now c.in-Err.refused c.requires.few c.in-Err.ensures.refused)
