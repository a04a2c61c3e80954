use Rattle.std.proofs.Common.{sym, subst}
use Rattle.un_top.specs.Steps.{IsLateLog, RefusesBy}
use Rattle.un_top.proofs.StepLaws.{report_unread}
use Rattle.un_top.proofs.steps.steps_over.Goals as goal

pub returns-in-Err-report_in-clause-refused : goal.returns-in-Err-report_in-clause-refused
returns-in-Err-report_in-clause-refused c =
    let a = c.args in
    let bad = c.in-Err-report_in in
    subst (RefusesBy (IsLateLog a.counts a.first.now a.second.now) a.first.now) (sym c.status_by-in-Err-report_in.ensures)
    (report_unread a.counts a.first.now a.second.now c.in-Ok.f bad.refused c.in-Ok.ensures.ok bad.ensures.refused)
