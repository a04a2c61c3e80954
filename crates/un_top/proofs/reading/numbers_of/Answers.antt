use Rattle.std.proofs.Common.{sym, subst}
use Rattle.un_top.specs.Improvements.{RefusesNumbers}
use Rattle.un_top.proofs.Refused.{unnumbered}
use Rattle.un_top.proofs.reading.numbers_of.Goals as goal

pub returns-in-Err-clause-refused : goal.returns-in-Err-clause-refused
returns-in-Err-clause-refused c =
    subst (RefusesNumbers c.args.text.now) (sym c.unviewed_by.ensures) (unnumbered c.args.text.now c.in-Err.error c.in-Err.ensures.bad)
