use Rattle.std.proofs.lemmas.Result.{err_from_is_err_and}
use Rattle.un_report_reader.specs.FirstBad.{BehindKind}
use Rattle.un_report_reader.specs.Lines.{IsAny, kind_text}
use Rattle.un_report_reader.proofs.PartLaws.{codes_ok, codes_bad, infeasible_read, spent_read}
use Rattle.un_report_reader.proofs.Through.{in_line}
use Rattle.un_report_reader.proofs.answer.answer.Goals as goal

pub returns-in_err-kind-clause-bad : goal.returns-in_err-kind-clause-bad
returns-in_err-kind-clause-bad c =
    let p = err_from_is_err_and c.from_residual.result c.from_residual.ensures.1 in
    rw (p.1, p.2) (in_line IsAny kind_text (BehindKind c.args.limits) c.args.at _ c.in_err-kind.ensures.bad)

pub returns-in-Code-clause-ok : goal.returns-in-Code-clause-ok
returns-in-Code-clause-ok c = codes_ok c.args.limits c.args.at _ c.code_answer.result (rw c.in-Code.is at c.in_ok-kind.ensures.ok) c.code_answer.ensures.ok

pub returns-in-Code-clause-bad : goal.returns-in-Code-clause-bad
returns-in-Code-clause-bad c = codes_bad c.args.limits c.args.at _ c.code_answer.result (rw c.in-Code.is at c.in_ok-kind.ensures.ok) c.code_answer.ensures.bad

pub returns-in-Infeasible-clause-ok : goal.returns-in-Infeasible-clause-ok
returns-in-Infeasible-clause-ok c = infeasible_read c.args.limits c.args.at _ (rw c.in-Infeasible.is at c.in_ok-kind.ensures.ok)

pub returns-in-Spent-clause-ok : goal.returns-in-Spent-clause-ok
returns-in-Spent-clause-ok c = spent_read c.args.limits c.args.at _ (rw c.in-Spent.is at c.in_ok-kind.ensures.ok)
