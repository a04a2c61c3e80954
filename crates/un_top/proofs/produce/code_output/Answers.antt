use Rattle.std.proofs.Common.{sym, subst}
use Rattle.un_top.specs.Behaviours.{of_run_code}
use Rattle.un_top.specs.Runs.{RefusesText}
use Rattle.un_top.proofs.Refused.{code_refused}
use Rattle.un_top.proofs.produce.code_output.Goals as goal

pub returns-in-Err-clause-refused : goal.returns-in-Err-clause-refused
returns-in-Err-clause-refused c =
    subst (RefusesText of_run_code c.args.text.now) (sym c.status_by.ensures)
    (code_refused c.args.text.now c.in-Err.refused c.requires.few c.in-Err.ensures.refused)
