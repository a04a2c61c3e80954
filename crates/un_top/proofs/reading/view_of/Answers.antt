use Rattle.std.proofs.Common.{sym, subst}
use Rattle.un_top.specs.Checks.{RefusesReport}
use Rattle.un_top.proofs.Refused.{unviewed}
use Rattle.un_top.proofs.reading.view_of.Goals as goal

pub returns-in-Err-clause-refused : goal.returns-in-Err-clause-refused
returns-in-Err-clause-refused c =
    subst (RefusesReport c.args.text.now) (sym c.unviewed_by.ensures) (unviewed c.args.text.now c.in-Err.error c.in-Err.ensures.bad)
