use Rattle.std.proofs.Common.{refl}
use Rattle.std.proofs.lemmas.Result.{err_from_is_err_and}
use Rattle.un_refutation.proofs.RefutationLaws.{in_limit, in_name, in_options, past_options, own_count, own_nodes, own_end, refutation_read}
use Rattle.un_refutation.proofs.read.refutation.Goals as goal

pub returns-in_err-limit-clause-bad : goal.returns-in_err-limit-clause-bad
returns-in_err-limit-clause-bad c =
    let p = err_from_is_err_and c.from_residual.result c.from_residual.ensures.1 in
    rw (p.1, p.2) (in_limit c.args.text.now _ _ refl refl c.in_err-limit.ensures.bad)

pub returns-in_err-name-clause-bad : goal.returns-in_err-name-clause-bad
returns-in_err-name-clause-bad c =
    let p = err_from_is_err_and c.from_residual-in_err-name.result c.from_residual-in_err-name.ensures.1 in
    rw (p.1, p.2) (in_name c.args.text.now _ _ _ _ refl refl c.in_ok-limit.ensures.ok c.in_err-name.ensures.bad)

pub returns-in_err-options-clause-bad : goal.returns-in_err-options-clause-bad
returns-in_err-options-clause-bad c =
    let p = err_from_is_err_and c.from_residual-in_err-options.result c.from_residual-in_err-options.ensures.1 in
    rw (p.1, p.2) (in_options c.args.text.now _ _ _ _ _ _ refl refl c.in_ok-limit.ensures.ok c.in_ok-name.ensures.ok
    c.in_err-options.ensures.bad)

pub returns-in_err-count-clause-bad : goal.returns-in_err-count-clause-bad
returns-in_err-count-clause-bad c =
    let p = err_from_is_err_and c.from_residual-in_err-count.result c.from_residual-in_err-count.ensures.1 in
    rw (p.1, p.2) (past_options c.args.text.now _ _ _ _ _ _ _ _ refl refl c.in_ok-limit.ensures.ok c.in_ok-name.ensures.ok
    c.in_ok-options.ensures.ok (own_count _ _ c.in_err-count.ensures.bad))

pub returns-in_err-nodes-clause-bad : goal.returns-in_err-nodes-clause-bad
returns-in_err-nodes-clause-bad c =
    let p = err_from_is_err_and c.from_residual-in_err-nodes.result c.from_residual-in_err-nodes.ensures.1 in
    rw (p.1, p.2) (past_options c.args.text.now _ _ _ _ _ _ _ _ refl refl c.in_ok-limit.ensures.ok c.in_ok-name.ensures.ok
    c.in_ok-options.ensures.ok (own_nodes _ _ _ _ c.in_ok-count.ensures.ok c.in_err-nodes.ensures.bad))

pub returns-in_err-end-clause-bad : goal.returns-in_err-end-clause-bad
returns-in_err-end-clause-bad c =
    let p = err_from_is_err_and c.from_residual-in_err-end.result c.from_residual-in_err-end.ensures.1 in
    rw (p.1, p.2) (past_options c.args.text.now _ _ _ _ _ _ _ _ refl refl c.in_ok-limit.ensures.ok c.in_ok-name.ensures.ok
    c.in_ok-options.ensures.ok (own_end _ _ _ _ _ _ c.in_ok-count.ensures.ok c.in_ok-nodes.ensures.ok c.in_err-end.ensures.bad))

pub returns-clause-ok : goal.returns-clause-ok
returns-clause-ok c =
    refutation_read c.args.text.now _ _ _ _ _ _ _ _ _ _ _ _ refl c.in_ok-limit.ensures.ok c.in_ok-name.ensures.ok c.in_ok-options.ensures.ok
    c.in_ok-count.ensures.ok c.in_ok-nodes.ensures.ok c.in_ok-end.ensures.ok refl c.name_from.ensures refl refl
