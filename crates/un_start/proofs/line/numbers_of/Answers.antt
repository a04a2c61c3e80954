use Rattle.un_base.proofs.Cuts.{if_none}
use Rattle.un_start.proofs.LineLaws.{none_cut, none_first, none_rest}
use Rattle.un_start.proofs.line.numbers_of.Goals as goal

pub returns-in_err-first-clause-none : goal.returns-in_err-first-clause-none
returns-in_err-first-clause-none c = if_none c.from_residual.result (none_cut c.args.text.now c.in_err-first.ensures.none)

pub returns-in_err-first-2-clause-none : goal.returns-in_err-first-2-clause-none
returns-in_err-first-2-clause-none c =
    if_none c.from_residual-in_err-first-2.result (none_first c.args.text.now _ _ c.in_ok-first.ensures.some c.in_err-first-2.ensures.none)

pub returns-in_err-second-clause-none : goal.returns-in_err-second-clause-none
returns-in_err-second-clause-none c =
    if_none c.from_residual-in_err-second.result (none_rest c.args.text.now _ _ c.in_ok-first.ensures.some c.in_err-second.ensures.none)
