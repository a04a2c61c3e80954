use Rattle.std.proofs.lemmas.Result.{err_from_is_err_and}
use Rattle.un_report_reader.specs.FirstBad.{IsBadNumber}
use Rattle.un_report_reader.specs.Lines.{IsShort, solution_head}
use Rattle.un_report_reader.proofs.PartLaws.{solution_read}
use Rattle.un_report_reader.proofs.Through.{in_line, past_line}
use Rattle.un_report_reader.proofs.numbers.solution.Goals as goal

pub returns-in_err-count-clause-bad : goal.returns-in_err-count-clause-bad
returns-in_err-count-clause-bad c =
    let p = err_from_is_err_and c.from_residual.result c.from_residual.ensures.1 in
    rw (p.1, p.2) (in_line IsShort solution_head IsBadNumber c.args.at _ c.in_err-count.ensures.bad)

pub returns-in_err-values-clause-bad : goal.returns-in_err-values-clause-bad
returns-in_err-values-clause-bad c =
    let p = err_from_is_err_and c.from_residual-in_err-values.result c.from_residual-in_err-values.ensures.1 in
    rw (p.1, p.2) (past_line IsShort solution_head IsBadNumber c.args.at _ _ c.in_ok-count.ensures.ok _ c.in_err-values.ensures.bad)

pub returns-clause-ok : goal.returns-clause-ok
returns-clause-ok c = solution_read c.args.at _ _ _ _ c.in_ok-count.ensures.ok c.in_ok-values.ensures.ok
