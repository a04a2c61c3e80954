use Rattle.std.proofs.Common.{subst}
use Rattle.std.specs.Prelude.{MatchResult}
use Rattle.un_top.specs.Steps.{IsAccepted, IsRefused, IsRejected, IsLogged}
use Rattle.un_top.proofs.StepLaws.{one_of, other_of, not_accepted, with_log, without_log}
use Rattle.un_top.proofs.steps.steps_of.Goals as goal

pub returns-in-Ok-Ok-clause-ok : goal.returns-in-Ok-Ok-clause-ok
returns-in-Ok-Ok-clause-ok c =
    let a = c.args in
    let settled = c.in-Ok-Ok in
    let log = c.log_of in
    other_of (IsRejected a.first.now a.second.now) (IsLogged a.counts a.first.now a.second.now) log.result
    (with_log a.counts a.first.now a.second.now a.f.now a.r.now c.requires.read settled.m log.result
    (subst (λ told. MatchResult told (IsAccepted a.f.now a.r.now) (IsRefused a.f.now a.r.now)) settled.field-0-is settled.ensures.told)
    log.ensures.ends log.ensures.log)

pub returns-in-Ok-Ok-clause-refused : goal.returns-in-Ok-Ok-clause-refused
returns-in-Ok-Ok-clause-refused c =
    let a = c.args in
    let settled = c.in-Ok-Ok in
    without_log a.counts a.first.now a.second.now a.f.now a.r.now c.requires.read settled.m c.log_of.result
    (subst (λ told. MatchResult told (IsAccepted a.f.now a.r.now) (IsRefused a.f.now a.r.now)) settled.field-0-is settled.ensures.told)
    c.log_of.ensures.refused

pub returns-in-Ok-Err-clause-ok : goal.returns-in-Ok-Err-clause-ok
returns-in-Ok-Err-clause-ok c =
    let a = c.args in
    let settled = c.in-Ok-Err in
    let out = c.rejected in
    one_of (IsRejected a.first.now a.second.now) (IsLogged a.counts a.first.now a.second.now) out.result
    (not_accepted a.counts a.first.now a.second.now a.f.now a.r.now c.requires.read settled.cause out.result
    (subst (λ told. MatchResult told (IsAccepted a.f.now a.r.now) (IsRefused a.f.now a.r.now)) settled.field-0-is settled.ensures.told)
    out.ensures.ends out.ensures.printed)
