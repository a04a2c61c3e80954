use Rattle.std.proofs.Common.{sym, subst}
use Rattle.un_top.specs.Behaviours.{of_alloc}
use Rattle.un_top.specs.Runs.{RefusesText}
use Rattle.un_top.proofs.Refused.{function_refused}
use Rattle.un_top.proofs.produce.report.Goals as goal

pub returns-in-Err-clause-refused : goal.returns-in-Err-clause-refused
returns-in-Err-clause-refused c =
    subst (RefusesText (of_alloc c.args.options) c.args.text.now) (sym c.status_by.ensures)
    (function_refused c.args.options c.args.text.now c.in-Err.refused c.in-Err.ensures.refused)
