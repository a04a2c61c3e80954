use Rattle.std.proofs.lemmas.Result.{err_from_is_err_and}
use Rattle.un_report.specs.Reports.{listing_text}
use Rattle.un_report_reader.specs.Answers.{AreCosts, costs_lines, two, IsListed, listing_lines}
use Rattle.un_report_reader.specs.FirstBad.{InCost, InListing, InSolution}
use Rattle.un_report_reader.proofs.Behind.{behind_costs, behind_listing}
use Rattle.un_report_reader.proofs.PartLaws.{code_read, own_solution}
use Rattle.un_report_reader.proofs.Through.{through}
use Rattle.un_report_reader.proofs.answer.code_answer.Goals as goal

pub returns-in_err-cost-clause-bad : goal.returns-in_err-cost-clause-bad
returns-in_err-cost-clause-bad c =
    let p = err_from_is_err_and c.from_residual.result c.from_residual.ensures.1 in
    rw (p.1, p.2) (c.in_err-cost.ensures.bad c.args.limits)

pub returns-in_err-code-clause-bad : goal.returns-in_err-code-clause-bad
returns-in_err-code-clause-bad c =
    let p = err_from_is_err_and c.from_residual-in_err-code.result c.from_residual-in_err-code.ensures.1 in
    rw (p.1, p.2) (through AreCosts costs_lines two (InListing c.args.limits) (InCost c.args.limits) c.args.at _ _ c.in_ok-cost.ensures.ok
    (λ text rest line g w b. behind_costs c.args.limits _ text rest line g w b) _ c.in_err-code.ensures.bad)

pub returns-in_err-solution-clause-bad : goal.returns-in_err-solution-clause-bad
returns-in_err-solution-clause-bad c =
    let p = err_from_is_err_and c.from_residual-in_err-solution.result c.from_residual-in_err-solution.ensures.1 in
    rw (p.1, p.2) (through AreCosts costs_lines two (InListing c.args.limits) (InCost c.args.limits) c.args.at _ _ c.in_ok-cost.ensures.ok
    (λ text rest line g w b. behind_costs c.args.limits _ text rest line g w b) _
    (through (IsListed c.args.limits) listing_text listing_lines (InSolution c.args.limits) (InListing c.args.limits) _ c.in_ok-code.code _ c.in_ok-code.ensures.ok
    (λ text rest line g w b. behind_listing c.args.limits c.in_ok-code.code text rest line g w b) _ (own_solution c.args.limits _ _ c.in_err-solution.ensures.bad)))

pub returns-clause-ok : goal.returns-clause-ok
returns-clause-ok c =
    code_read c.args.limits c.args.at _ _ _ _ _ _ c.in_ok-cost.ensures.ok c.in_ok-code.ensures.ok c.in_ok-solution.ensures.ok
