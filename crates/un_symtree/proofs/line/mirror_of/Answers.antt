use Rattle.un_base.proofs.Cuts.{if_none}
use Rattle.un_symtree.proofs.SymLines.{three_uncut, three_first, three_others}
use Rattle.un_symtree.proofs.line.mirror_of.Goals as goal

pub returns-in_err-first-clause-none : goal.returns-in_err-first-clause-none
returns-in_err-first-clause-none c = if_none c.from_residual.result (three_uncut c.args.numbers.now c.in_err-first.ensures.none)

pub returns-in_err-a-clause-none : goal.returns-in_err-a-clause-none
returns-in_err-a-clause-none c =
    if_none c.from_residual-in_err-a.result (three_first c.args.numbers.now _ _ c.in_ok-first.ensures.some c.in_err-a.ensures.none)

pub returns-in_err-b-clause-none : goal.returns-in_err-b-clause-none
returns-in_err-b-clause-none c =
    if_none c.from_residual-in_err-b.result (three_others c.args.numbers.now _ _ c.in_ok-first.ensures.some c.in_err-b.ensures.none)
