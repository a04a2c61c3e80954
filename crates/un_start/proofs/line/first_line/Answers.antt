use Rattle.un_base.proofs.Cuts.{if_none}
use Rattle.un_start.proofs.LineLaws.{no_feed, no_first}
use Rattle.un_start.proofs.line.first_line.Goals as goal

pub returns-in_err-line-clause-none : goal.returns-in_err-line-clause-none
returns-in_err-line-clause-none c = if_none c.from_residual.result (no_feed c.args.text.now c.in_err-line.ensures.none)

pub returns-in_err-line-2-clause-none : goal.returns-in_err-line-2-clause-none
returns-in_err-line-2-clause-none c =
    if_none c.from_residual-in_err-line-2.result (no_first c.args.text.now _ _ c.in_ok-line.ensures.some c.in_err-line-2.ensures.none)
