use Rattle.std.proofs.Common.{sym, subst}
use Rattle.un_top.specs.Steps.{IsLateTold, RefusesBy}
use Rattle.un_top.proofs.StepLaws.{report_untold}
use Rattle.un_top.proofs.steps.told_over.Goals as goal

pub returns-in-Err-report_in-clause-refused : goal.returns-in-Err-report_in-clause-refused
returns-in-Err-report_in-clause-refused c =
    let a = c.args in
    let bad = c.in-Err-report_in in
    subst (RefusesBy (IsLateTold a.counts a.first.now a.second.now a.log.now) a.first.now) (sym c.status_by-in-Err-report_in.ensures)
    (report_untold a.counts a.first.now a.second.now a.log.now c.in-Ok.f bad.refused c.in-Ok.ensures.ok bad.ensures.refused)
