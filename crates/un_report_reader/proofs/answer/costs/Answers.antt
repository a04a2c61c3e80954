use Rattle.std.proofs.lemmas.Result.{err_from_is_err_and}
use Rattle.un_report_reader.specs.FirstBad.{InBound, InListing}
use Rattle.un_report_reader.specs.Lines.{IsLong, cost_text, bound_text}
use Rattle.un_report_reader.proofs.Through.{in_line, past_line}
use Rattle.un_report_reader.proofs.answer.costs.Goals as goal

pub returns-in_err-bound-clause-bad : goal.returns-in_err-bound-clause-bad
returns-in_err-bound-clause-bad c =
    λ l. let p = err_from_is_err_and c.from_residual-in_err-bound.result c.from_residual-in_err-bound.ensures.1 in
    rw (p.1, p.2) (past_line IsLong cost_text (λ n. InBound l) c.args.at _ _ c.in_ok-cost.ensures.ok _
    (in_line IsLong bound_text (λ n. InListing l) _ _ c.in_err-bound.ensures.bad))
