use Rattle.std.proofs.Common.{List, ◌∙◌, All, length, sym, ap, subst, option_and_then}
use Rattle.un_base.specs.declared.ids.VarId.{VarId}
use Rattle.un_prop.specs.Going.{Stepped}
use Rattle.un_prop.specs.GoingLaws.{stepped_chain}
use Rattle.un_prop.specs.declared.act.UserOf.{UserOf}
use Rattle.un_rect.specs.Spans.{UserVars}
use Rattle.un_rect.specs.Orders.{time_cut, late_test, early_test, users_cut}
use Rattle.un_rect.proofs.Rows.{same_known, same_temp}
use Rattle.un_rect.proofs.orders.keep_steps.Goals as goal

pub keep_users-requires-clause-of_users : goal.keep_users-requires-clause-of_users
keep_users-requires-clause-of_users c = subst (λ (vs : List VarId). All (UserVars vs) c.as_slice.result.now)
    (sym (ap (λ r. r.now) (c.keep_early-second.ensures.vars ∙ c.keep_late-first.ensures.vars)))
    (subst (λ (us : List UserOf). All (UserVars c.args.w.now.vars.now) us) (sym c.as_slice.ensures) c.requires.of_a.of_users)

pub returns-clause-step : goal.returns-clause-step
returns-clause-step c =
    let a = c.args.a.now in
    let b = c.args.b.now in
    let vs = c.args.w.now.vars.now in
    let s0 = c.args.w.now.store.now in
    let s1 = c.keep_late-first.new.w.store.now in
    let s2 = c.keep_early-second.new.w.store.now in
    let s3 = c.keep_users.new.w.store.now in
    let p = c.keep_late-first.result in
    let q = c.keep_early-second.result in
    let r = c.keep_users.result in
    let e1 = ap (λ r. r.now) c.keep_late-first.ensures.vars in
    let e2 = ap (λ r. r.now) (c.keep_early-second.ensures.vars ∙ c.keep_late-first.ensures.vars) in
    let f1 = time_cut (late_test a) b.at in
    let f2 = time_cut (early_test b) a.at in
    let step2 = subst (λ (us : List VarId). Stepped us f2 s1 s2 p q) e1 c.keep_early-second.ensures.step in
    let step3 = subst (λ (xs : List UserOf). Stepped vs (users_cut b xs (length xs)) s2 s3 q r) c.as_slice.ensures
    (subst (λ (us : List VarId). Stepped us (users_cut b c.as_slice.result.now (length c.as_slice.result.now)) s2 s3 q r) e2
    c.keep_users.ensures.step) in
    stepped_chain vs (λ s. option_and_then f2 (f1 s)) (users_cut b a.users (length a.users)) s0 s2 s3 c.args.before q r
    (stepped_chain vs f1 f2 s0 s1 s2 c.args.before p q c.keep_late-first.ensures.step step2) step3

pub keep_late-first-requires-clause-of_a : goal.keep_late-first-requires-clause-of_a
keep_late-first-requires-clause-of_a c = c.requires.of_a

pub keep_late-first-requires-clause-of_b : goal.keep_late-first-requires-clause-of_b
keep_late-first-requires-clause-of_b c = c.requires.of_b

pub keep_late-first-requires-clause-known : goal.keep_late-first-requires-clause-known
keep_late-first-requires-clause-known c = c.requires.known

pub keep_late-first-requires-clause-live : goal.keep_late-first-requires-clause-live
keep_late-first-requires-clause-live c = c.requires.live

pub keep_early-second-requires-clause-of_a : goal.keep_early-second-requires-clause-of_a
keep_early-second-requires-clause-of_a c = same_temp c.args.w.now.vars.now c.keep_late-first.new.w.vars.now c.args.a.now
    (ap (λ r. r.now) c.keep_late-first.ensures.vars) c.requires.of_a

pub keep_early-second-requires-clause-of_b : goal.keep_early-second-requires-clause-of_b
keep_early-second-requires-clause-of_b c = same_temp c.args.w.now.vars.now c.keep_late-first.new.w.vars.now c.args.b.now
    (ap (λ r. r.now) c.keep_late-first.ensures.vars) c.requires.of_b

pub keep_early-second-requires-clause-known : goal.keep_early-second-requires-clause-known
keep_early-second-requires-clause-known c = same_known c.args.w.now.vars.now c.keep_late-first.new.w.vars.now c.args.w.now.store.now.sets
    c.keep_late-first.new.w.store.now.sets (ap (λ r. r.now) c.keep_late-first.ensures.vars)
    (c.keep_late-first.ensures.step.long) c.requires.known

pub keep_early-second-requires-clause-live : goal.keep_early-second-requires-clause-live
keep_early-second-requires-clause-live c = c.keep_late-first.ensures.step.live c.requires.live

pub keep_users-requires-clause-of_b : goal.keep_users-requires-clause-of_b
keep_users-requires-clause-of_b c = same_temp c.args.w.now.vars.now c.keep_early-second.new.w.vars.now c.args.b.now
    (ap (λ r. r.now) (c.keep_early-second.ensures.vars ∙ c.keep_late-first.ensures.vars)) c.requires.of_b

pub keep_users-requires-clause-known : goal.keep_users-requires-clause-known
keep_users-requires-clause-known c = same_known c.args.w.now.vars.now c.keep_early-second.new.w.vars.now c.args.w.now.store.now.sets
    c.keep_early-second.new.w.store.now.sets (ap (λ r. r.now) (c.keep_early-second.ensures.vars ∙ c.keep_late-first.ensures.vars))
    (c.keep_early-second.ensures.step.long ∙ c.keep_late-first.ensures.step.long) c.requires.known

pub keep_users-requires-clause-live : goal.keep_users-requires-clause-live
keep_users-requires-clause-live c = c.keep_early-second.ensures.step.live (c.keep_late-first.ensures.step.live c.requires.live)
