use Rattle.std.proofs.Common.{refl}
use Rattle.std.proofs.lemmas.Result.{err_from_is_err_and}
use Rattle.un_report_reader.proofs.PartLaws.{error_at_start}
use Rattle.un_report_reader.proofs.ViewLaws.{in_answer, in_tree, in_end, view_read}
use Rattle.un_report_reader.proofs.read.view.Goals as goal

pub returns-in_err-head-clause-bad : goal.returns-in_err-head-clause-bad
returns-in_err-head-clause-bad c =
    let p = err_from_is_err_and c.from_residual.result c.from_residual.ensures.1 in
    rw (p.1, p.2) (error_at_start c.args.text.now _ _ refl refl c.in_err-head.ensures.bad)

pub returns-in_err-answer-clause-bad : goal.returns-in_err-answer-clause-bad
returns-in_err-answer-clause-bad c =
    let p = err_from_is_err_and c.from_residual-in_err-answer.result c.from_residual-in_err-answer.ensures.1 in
    rw (p.1, p.2) (in_answer c.args.text.now _ _ _ _ refl refl c.in_ok-head.ensures.ok (rw c.limits_of-limits.ensures.is at c.in_err-answer.ensures.bad))

pub returns-in_err-tree-clause-bad : goal.returns-in_err-tree-clause-bad
returns-in_err-tree-clause-bad c =
    let p = err_from_is_err_and c.from_residual-in_err-tree.result c.from_residual-in_err-tree.ensures.1 in
    rw (p.1, p.2) (in_tree c.args.text.now _ _ _ _ _ _ refl refl c.in_ok-head.ensures.ok (rw c.limits_of-limits.ensures.is at c.in_ok-answer.ensures.ok) (rw c.limits_of-limits.ensures.is at c.in_err-tree.ensures.bad))

pub returns-in_err-end-clause-bad : goal.returns-in_err-end-clause-bad
returns-in_err-end-clause-bad c =
    let p = err_from_is_err_and c.from_residual-in_err-end.result c.from_residual-in_err-end.ensures.1 in
    rw (p.1, p.2) (in_end c.args.text.now _ _ _ _ _ _ _ _ refl refl c.in_ok-head.ensures.ok (rw c.limits_of-limits.ensures.is at c.in_ok-answer.ensures.ok) (rw c.limits_of-limits.ensures.is at c.in_ok-tree.ensures.ok)
    c.in_err-end.ensures.bad)

pub returns-clause-ok : goal.returns-clause-ok
returns-clause-ok c =
    view_read c.args.text.now _ _ _ _ _ _ _ _ refl c.in_ok-head.ensures.ok (rw c.limits_of-limits.ensures.is at c.in_ok-answer.ensures.ok) (rw c.limits_of-limits.ensures.is at c.in_ok-tree.ensures.ok)
    c.in_ok-end.ensures.ok refl refl refl refl refl refl refl
