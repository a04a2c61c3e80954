use Rattle.std.proofs.Common.{ℕ, Bool, ◌∙◌, ◌||◌, not, nat_le, sym, ap}
use Rattle.un_domains.specs.Sets.{cut_by}
use Rattle.un_prop.specs.Acts.{at_vars}
use Rattle.un_prop.specs.AmongLaws.{has_among}
use Rattle.un_prop.specs.GoingLaws.{stepped_same, stepped_by}
use Rattle.un_prop.specs.LookLaws.{known_of}
use Rattle.un_rect.specs.Spans.{greatest_start}
use Rattle.un_rect.specs.Orders.{time_cut, user_test}
use Rattle.un_rect.specs.OrdersLaws.{time_same, time_is}
use Rattle.un_rect.proofs.OrderSteps.{time_in}
use Rattle.un_rect.proofs.Going.{going}
use Rattle.un_rect.proofs.orders.keep_user.Goals as goal

pub returns-then-not-is_sure_user-clause-step : goal.returns-then-not-is_sure_user-clause-step
returns-then-not-is_sure_user-clause-step c =
    let vs = c.args.w.now.vars.now in
    let s = c.args.w.now.store.now in
    let b = c.args.b.now in
    let u = c.args.u.now in
    stepped_same vs (time_cut (user_test b u) u.at) s c.args.before
    (λ live. time_same vs (user_test b u) u.at s.sets c.requires.of_u.of_at c.requires.known live
    (λ y. ap (λ (d : Bool). not d || nat_le y (greatest_start b s.sets)) (sym c.is_sure_user.ensures ∙ c.if-not-is_sure_user.true)))

pub greatest_time-high-requires-clause-known : goal.greatest_time-high-requires-clause-known
greatest_time-high-requires-clause-known c = known_of c.args.w.now.vars.now (at_vars c.args.b.now.at) c.args.w.now.store.now.sets
    c.requires.of_b.of_at c.requires.known

pub keep_le-requires-clause-there : goal.keep_le-requires-clause-there
keep_le-requires-clause-there c = has_among c.args.w.now.vars.now c.in-Var.v c.args.w.now.store.now.sets
    (time_in c.args.w.now.vars.now c.in-Var.v c.args.u.now.at c.in-Var.is c.requires.of_u.of_at) c.requires.known

pub keep_le-requires-clause-lent : goal.keep_le-requires-clause-lent
keep_le-requires-clause-lent c = time_in c.args.w.now.vars.now c.in-Var.v c.args.u.now.at c.in-Var.is c.requires.of_u.of_at

pub returns-in-Var-clause-step : goal.returns-in-Var-clause-step
returns-in-Var-clause-step c =
    let s = c.args.w.now.store.now in
    let b = c.args.b.now in
    let u = c.args.u.now in
    let v = c.in-Var.v in
    let high = c.greatest_time-high.result in
    stepped_by c.args.w.now.vars.now (time_cut (user_test b u) u.at) (cut_by (λ y. nat_le y high) v.0) s c.keep_le.new.w.store.now
    c.args.before c.keep_le.result
    (λ live. time_is (user_test b u) (λ y. nat_le y high) u.at v s.sets c.in-Var.is
    (λ y. ap (λ (d : Bool). not d || nat_le y (greatest_start b s.sets)) (sym c.is_sure_user.ensures ∙ c.if-not-is_sure_user.false)
    ∙ ap (λ (n : ℕ). nat_le y n) (sym c.greatest_time-high.ensures)))
    c.keep_le.ensures.step

pub is_sure_user-requires-clause-vars : goal.is_sure_user-requires-clause-vars
is_sure_user-requires-clause-vars c = c.requires.of_u

pub is_sure_user-requires-clause-known : goal.is_sure_user-requires-clause-known
is_sure_user-requires-clause-known c = c.requires.known

pub is_sure_user-requires-clause-live : goal.is_sure_user-requires-clause-live
is_sure_user-requires-clause-live c = c.requires.live (going c.args.before c.if-eq.ensures)

pub greatest_time-high-requires-clause-live : goal.greatest_time-high-requires-clause-live
greatest_time-high-requires-clause-live c = c.requires.live (going c.args.before c.if-eq.ensures)

pub keep_le-requires-clause-going : goal.keep_le-requires-clause-going
keep_le-requires-clause-going c = going c.args.before c.if-eq.ensures
