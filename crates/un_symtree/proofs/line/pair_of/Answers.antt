use Rattle.un_base.proofs.Cuts.{if_none}
use Rattle.un_symtree.proofs.SymLines.{pair_uncut, pair_first, pair_second}
use Rattle.un_symtree.proofs.line.pair_of.Goals as goal

pub returns-in_err-first-clause-none : goal.returns-in_err-first-clause-none
returns-in_err-first-clause-none c = if_none c.from_residual.result (pair_uncut c.args.text.now c.in_err-first.ensures.none)

pub returns-in_err-first-2-clause-none : goal.returns-in_err-first-2-clause-none
returns-in_err-first-2-clause-none c =
    if_none c.from_residual-in_err-first-2.result (pair_first c.args.text.now _ _ c.in_ok-first.ensures.some c.in_err-first-2.ensures.none)

pub returns-in_err-second-clause-none : goal.returns-in_err-second-clause-none
returns-in_err-second-clause-none c =
    if_none c.from_residual-in_err-second.result (pair_second c.args.text.now _ _ c.in_ok-first.ensures.some c.in_err-second.ensures.none)
