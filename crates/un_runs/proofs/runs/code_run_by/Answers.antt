use Rattle.std.proofs.lemmas.Result.{err_from_is_err_and}
use Rattle.un_runs.proofs.RunLaws.{code_first, code_second}
use Rattle.un_runs.proofs.runs.code_run_by.Goals as goal

pub returns-in_err-code-clause-refused : goal.returns-in_err-code-clause-refused
returns-in_err-code-clause-refused c = let p = err_from_is_err_and c.from_residual.result c.from_residual.ensures.1 in
    rw (p.1, p.2) (code_first c.args.listing.now c.args.text.now c.in_err-code.field-0.0 c.in_err-code.ensures.refused)

pub returns-in_err-out-clause-refused : goal.returns-in_err-out-clause-refused
returns-in_err-out-clause-refused c =
    let p = err_from_is_err_and c.from_residual-in_err-out.result c.from_residual-in_err-out.ensures.1 in
    rw (p.1, p.2) (code_second c.args.listing.now c.args.text.now c.in_ok-code.code c.in_err-out.field-0.0 c.in_ok-code.ensures.ok
    c.in_err-out.ensures.refused)

pub returns-clause-ok : goal.returns-clause-ok
returns-clause-ok c = record { code = c.in_ok-code.code; listed = c.in_ok-code.ensures.ok; run = c.in_ok-out.ensures.ok }
