use Rattle.std.proofs.Common.{sym, subst}
use Rattle.un_top.specs.Refutations.{RefusesRefutation}
use Rattle.un_top.proofs.Refused.{unrefuted}
use Rattle.un_top.proofs.reading.refutation_of.Goals as goal

pub returns-in-Err-clause-refused : goal.returns-in-Err-clause-refused
returns-in-Err-clause-refused c =
    subst (RefusesRefutation c.args.text.now) (sym c.unviewed_by.ensures) (unrefuted c.args.text.now c.in-Err.error c.in-Err.ensures.bad)
