use Rattle.un_base.proofs.Cuts.{if_none}
use Rattle.un_tree.proofs.NodeLines.{none_cut, none_first, none_rest}
use Rattle.un_tree.proofs.line.branch_of.Goals as goal

pub returns-in_err-var-clause-none : goal.returns-in_err-var-clause-none
returns-in_err-var-clause-none c = if_none c.from_residual.result (none_cut c.args.numbers.now c.in_err-var.ensures.none)

pub returns-in_err-var-2-clause-none : goal.returns-in_err-var-2-clause-none
returns-in_err-var-2-clause-none c =
    if_none c.from_residual-in_err-var-2.result (none_first c.args.numbers.now _ _ c.in_ok-var.ensures.some c.in_err-var-2.ensures.none)

pub returns-in_err-val-clause-none : goal.returns-in_err-val-clause-none
returns-in_err-val-clause-none c =
    if_none c.from_residual-in_err-val.result (none_rest c.args.numbers.now _ _ c.in_ok-var.ensures.some c.in_err-val.ensures.none)
