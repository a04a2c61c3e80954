use Rattle.un_base.proofs.Cuts.{if_none}
use Rattle.un_judge.proofs.Spellings.{no_blank, no_number}
use Rattle.un_judge.proofs.line.number_first.Goals as goal

pub returns-in_err-first-clause-none : goal.returns-in_err-first-clause-none
returns-in_err-first-clause-none c = if_none c.from_residual.result (no_blank c.args.text.now c.in_err-first.ensures.none)

pub returns-in_err-number-clause-none : goal.returns-in_err-number-clause-none
returns-in_err-number-clause-none c =
    if_none c.from_residual-in_err-number.result (no_number c.args.text.now _ _ c.in_ok-first.ensures.some c.in_err-number.ensures.none)
