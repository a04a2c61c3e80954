use Rattle.std.proofs.Common.{refl}
use Rattle.std.proofs.lemmas.Result.{err_from_is_err_and}
use Rattle.un_report_reader.proofs.Alone.{numbers_read, in_numbers, behind_numbers}
use Rattle.un_report_reader.proofs.read.alone.Goals as goal

pub returns-in_err-solution-clause-bad : goal.returns-in_err-solution-clause-bad
returns-in_err-solution-clause-bad c =
    let p = err_from_is_err_and c.from_residual.result c.from_residual.ensures.1 in
    rw (p.1, p.2) (in_numbers c.args.text.now _ _ refl refl c.in_err-solution.ensures.bad)

pub returns-in_err-nothing-clause-bad : goal.returns-in_err-nothing-clause-bad
returns-in_err-nothing-clause-bad c =
    let p = err_from_is_err_and c.from_residual-in_err-nothing.result c.from_residual-in_err-nothing.ensures.1 in
    rw (p.1, p.2) (behind_numbers c.args.text.now _ _ _ _ refl refl c.in_ok-solution.ensures.ok c.in_err-nothing.ensures.bad)

pub returns-clause-ok : goal.returns-clause-ok
returns-clause-ok c = numbers_read c.args.text.now _ _ _ refl c.in_ok-solution.ensures.ok c.in_ok-nothing.ensures.ok
