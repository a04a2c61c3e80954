use Rattle.std.proofs.Common.{subst}
use Rattle.std.specs.Prelude.{MatchResult}
use Rattle.un_top.specs.Steps.{IsAccepted, IsRefused, IsRejected, IsLogAccepted}
use Rattle.un_top.proofs.StepLaws.{one_of, other_of, not_accepted, log_good, not_good}
use Rattle.un_top.proofs.steps.told_of.Goals as goal

pub returns-in-Ok-Ok-clause-ok : goal.returns-in-Ok-Ok-clause-ok
returns-in-Ok-Ok-clause-ok c =
    let a = c.args in
    let settled = c.in-Ok-Ok in
    let told = c.told_log in
    other_of (IsRejected a.first.now a.second.now) (IsLogAccepted a.counts a.first.now a.second.now a.log.now) told.result
    (log_good a.counts a.first.now a.second.now a.f.now a.r.now c.requires.read a.log.now settled.m told.result
    (subst (λ told. MatchResult told (IsAccepted a.f.now a.r.now) (IsRefused a.f.now a.r.now)) settled.field-0-is settled.ensures.told)
    told.ensures.ends told.ensures.printed told.ensures.good)

pub returns-in-Ok-Ok-clause-refused : goal.returns-in-Ok-Ok-clause-refused
returns-in-Ok-Ok-clause-refused c =
    let a = c.args in
    let settled = c.in-Ok-Ok in
    not_good a.counts a.first.now a.second.now a.f.now a.r.now c.requires.read a.log.now settled.m c.told_log.result
    (subst (λ told. MatchResult told (IsAccepted a.f.now a.r.now) (IsRefused a.f.now a.r.now)) settled.field-0-is settled.ensures.told)
    c.told_log.ensures.refused

pub returns-in-Ok-Err-clause-ok : goal.returns-in-Ok-Err-clause-ok
returns-in-Ok-Err-clause-ok c =
    let a = c.args in
    let settled = c.in-Ok-Err in
    let out = c.rejected in
    one_of (IsRejected a.first.now a.second.now) (IsLogAccepted a.counts a.first.now a.second.now a.log.now) out.result
    (not_accepted a.counts a.first.now a.second.now a.f.now a.r.now c.requires.read settled.cause out.result
    (subst (λ told. MatchResult told (IsAccepted a.f.now a.r.now) (IsRefused a.f.now a.r.now)) settled.field-0-is settled.ensures.told)
    out.ensures.ends out.ensures.printed)
