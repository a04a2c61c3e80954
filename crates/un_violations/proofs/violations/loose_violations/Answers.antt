use Rattle.std.proofs.Common.{◌≡◌, ◌↔◌, ◌∙◌, List, [], subst, map}
use Rattle.std.specs.Prelude.{IfOk}
use Rattle.un_domains.specs.declared.domain.Domain.{Domain}
use Rattle.un_model.specs.Schedules.{schedule_of}
use Rattle.un_model.specs.Solutions.{latency_gap, IsSchedule, ListsBroken}
use Rattle.un_violations.proofs.violations.loose_violations.Goals as goal

pub returns-clause-lists : goal.returns-clause-lists
returns-clause-lists c =
    let m = c.args.m.now in
    let values = c.args.s.now.values in
    subst (λ (ds : List Domain). IfOk c.broken_in.result (λ list. ListsBroken (latency_gap m.ext.table) ds m values (map (λ b. b.clause) list.items)))
    (c.as_slice.ensures ∙ c.in_ok-domains.ensures) c.broken_in.ensures.lists

pub returns-clause-loose : goal.returns-clause-loose
returns-clause-loose c =
    let m = c.args.m.now in
    let values = c.args.s.now.values in
    subst (λ (ds : List Domain). IfOk c.broken_in.result (λ list. (list.items ≡ []) ↔ IsSchedule (latency_gap m.ext.table) ds m values
    (schedule_of m values))) (c.as_slice.ensures ∙ c.in_ok-domains.ensures) c.broken_in.ensures.solves
