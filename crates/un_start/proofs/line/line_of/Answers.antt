use Rattle.un_base.proofs.Cuts.{if_none}
use Rattle.un_start.proofs.LineLaws.{no_cut, no_word}
use Rattle.un_start.proofs.line.line_of.Goals as goal

pub returns-in_err-kind-clause-none : goal.returns-in_err-kind-clause-none
returns-in_err-kind-clause-none c = if_none c.from_residual.result (no_cut c.args.text.now c.in_err-kind.ensures.none)

pub returns-in_err-word_of-clause-none : goal.returns-in_err-word_of-clause-none
returns-in_err-word_of-clause-none c =
    if_none c.from_residual-in_err-word_of.result (no_word c.args.text.now _ _ c.in_ok-kind.ensures.some c.in_err-word_of.ensures.none)
