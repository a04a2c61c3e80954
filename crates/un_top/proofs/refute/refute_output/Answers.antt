use Rattle.std.proofs.Common.{sym, subst}
use Rattle.un_top.specs.Behaviours.{of_refute}
use Rattle.un_top.specs.Runs.{RefusesText}
use Rattle.un_top.proofs.Refused.{refute_refused}
use Rattle.un_top.proofs.refute.refute_output.Goals as goal

pub returns-in-Err-clause-refused : goal.returns-in-Err-clause-refused
returns-in-Err-clause-refused c =
    subst (RefusesText (of_refute c.args.limit c.args.options) c.args.text.now) (sym c.status_by.ensures)
    (refute_refused c.args.limit c.args.options c.args.text.now c.in-Err.refused c.in-Err.ensures.refused)
