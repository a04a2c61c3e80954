use Rattle.std.proofs.Common.{List, ◌++◌, ◌∙◌, sym, ap, subst}
use Rattle.std.specs.Prelude.{All}
use Rattle.un_prop.specs.declared.act.UserOf.{UserOf}
use Rattle.un_prop.specs.Acts.{act_vars, at_vars}
use Rattle.un_rect.specs.Spans.{UserVars}
use Rattle.un_rect.specs.Apart.{users_vars}
use Rattle.un_rect.specs.Opened.{opened_at, opened_after}
use Rattle.un_rect.specs.OpenedLaws.{after_append, after_more, more_is}
use Rattle.un_rect.proofs.opened.with_temp.Goals as goal

pub returns-then-is_more : goal.returns-then-is_more
returns-then-is_more c =
    let s = c.args.w.now.store.now.sets in
    let a = c.args.a.now in
    let rest = at_vars a.at ++ users_vars a.users in
    let more = more_is c.with_act-second.result (sym c.is_more.ensures ∙ c.if-is_more.true) in
    sym (after_append s (act_vars a.on) rest (opened_at s c.args.before a.reg)
    ∙ (ap (opened_after s rest) (ap (opened_after s (act_vars a.on)) (sym c.with_var-first.ensures)
    ∙ (sym c.with_act-second.ensures ∙ more)) ∙ after_more s rest))

pub with_var-first-requires-clause-vars : goal.with_var-first-requires-clause-vars
with_var-first-requires-clause-vars c = c.requires.vars.of_reg

pub with_var-first-requires-clause-known : goal.with_var-first-requires-clause-known
with_var-first-requires-clause-known c = c.requires.known

pub with_act-second-requires-clause-vars : goal.with_act-second-requires-clause-vars
with_act-second-requires-clause-vars c = c.requires.vars.of_on

pub with_act-second-requires-clause-known : goal.with_act-second-requires-clause-known
with_act-second-requires-clause-known c = c.requires.known

pub with_time-third-requires-clause-vars : goal.with_time-third-requires-clause-vars
with_time-third-requires-clause-vars c = c.requires.vars.of_at

pub with_time-third-requires-clause-known : goal.with_time-third-requires-clause-known
with_time-third-requires-clause-known c = c.requires.known

pub with_users-requires-clause-vars : goal.with_users-requires-clause-vars
with_users-requires-clause-vars c = subst (λ (us : List UserOf). All (UserVars c.args.w.now.vars.now) us) (sym c.as_slice.ensures)
    c.requires.vars.of_users

pub with_users-requires-clause-known : goal.with_users-requires-clause-known
with_users-requires-clause-known c = c.requires.known
