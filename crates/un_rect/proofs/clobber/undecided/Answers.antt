use Rattle.std.proofs.Common.{List, ◌∙◌, sym, ap, subst, All}
use Rattle.un_base.specs.declared.ids.VarId.{VarId}
use Rattle.un_prop.specs.declared.act.UserOf.{UserOf}
use Rattle.un_rect.specs.Apart.{users_vars}
use Rattle.un_rect.specs.Opened.{opened_after}
use Rattle.un_rect.specs.Spans.{UserVars}
use Rattle.un_rect.proofs.CallSteps.{call_nothing, call_one, call_more, temp_more}
use Rattle.un_rect.proofs.clobber.undecided.Goals as goal

pub returns-then-is_more : goal.returns-then-is_more
returns-then-is_more c =
    let p = c.args.p.now in
    temp_more p.vars.now p.mask p.temp.now p.call.now c.requires.ascend p.of_temp p.of_call c.args.w.now.store.now.sets c.requires.known
    c.requires.live
    c.with_temp-first.result c.with_temp-first.ensures (sym c.is_more.ensures ∙ c.if-is_more.true)

pub with_users-requires-clause-vars : goal.with_users-requires-clause-vars
with_users-requires-clause-vars c =
    let p = c.args.p.now in
    subst (λ (us : List VarId). All (UserVars us) c.as_slice.result.now) (sym c.requires.vars)
    (subst (λ (xs : List UserOf). All (UserVars p.vars.now) xs) (sym c.as_slice.ensures) p.of_call.of_behind)

pub returns-in-Nothing : goal.returns-in-Nothing
returns-in-Nothing c =
    let p = c.args.p.now in
    let s = c.args.w.now.store.now.sets in
    let second = c.with_var-second.result in (
      p.of_temp.of_reg,
      call_nothing p.vars.now p.mask p.temp.now p.call.now c.requires.ascend p.of_temp p.of_call s c.requires.known c.requires.live
          c.with_temp-first.result second c.with_users.result c.with_temp-first.ensures c.with_var-second.ensures
          (c.with_users.ensures ∙ ap (λ (xs : List UserOf). opened_after s (users_vars xs) second) c.as_slice.ensures) c.in-Nothing.is,
    )

pub returns-in-One : goal.returns-in-One
returns-in-One c =
    let p = c.args.p.now in
    let s = c.args.w.now.store.now.sets in
    let second = c.with_var-second.result in
    call_one p.vars.now p.mask p.temp.now p.call.now c.requires.ascend p.of_temp p.of_call s c.requires.known c.requires.live c.in-One.v
    c.with_temp-first.result second c.with_users.result c.with_temp-first.ensures c.with_var-second.ensures
    (c.with_users.ensures ∙ ap (λ (xs : List UserOf). opened_after s (users_vars xs) second) c.as_slice.ensures) c.in-One.is

pub returns-in-More : goal.returns-in-More
returns-in-More c =
    let p = c.args.p.now in
    let s = c.args.w.now.store.now.sets in
    let second = c.with_var-second.result in
    call_more p.vars.now p.mask p.temp.now p.call.now c.requires.ascend p.of_temp p.of_call s c.requires.known c.requires.live
    c.with_temp-first.result second c.with_users.result c.with_temp-first.ensures c.with_var-second.ensures
    (c.with_users.ensures ∙ ap (λ (xs : List UserOf). opened_after s (users_vars xs) second) c.as_slice.ensures) c.in-More.is
