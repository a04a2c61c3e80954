use Rattle.std.proofs.Common.{ℕ, ◌≡◌, ◌-◌, ◌∙◌, nat_le, sym, ap}
use Rattle.un_domains.specs.Sets.{cut_by}
use Rattle.un_prop.specs.Acts.{at_vars}
use Rattle.un_prop.specs.AmongLaws.{has_among}
use Rattle.un_prop.specs.GoingLaws.{stepped_by}
use Rattle.un_prop.specs.LookLaws.{known_of}
use Rattle.un_rect.specs.Spans.{greatest_start}
use Rattle.un_rect.specs.Orders.{time_cut, early_test}
use Rattle.un_rect.specs.OrdersLaws.{time_is}
use Rattle.un_rect.proofs.OrderSteps.{time_in}
use Rattle.un_rect.proofs.Going.{going}
use Rattle.un_rect.proofs.orders.keep_early.Goals as goal

pub greatest_time-requires-clause-known : goal.greatest_time-requires-clause-known
greatest_time-requires-clause-known c = known_of c.args.w.now.vars.now (at_vars c.args.b.now.at) c.args.w.now.store.now.sets
    c.requires.of_b.of_at c.requires.known

pub keep_le-requires-clause-there : goal.keep_le-requires-clause-there
keep_le-requires-clause-there c = has_among c.args.w.now.vars.now c.in-Var.v c.args.w.now.store.now.sets
    (time_in c.args.w.now.vars.now c.in-Var.v c.args.a.now.at c.in-Var.is c.requires.of_a.of_at) c.requires.known

pub keep_le-requires-clause-lent : goal.keep_le-requires-clause-lent
keep_le-requires-clause-lent c = time_in c.args.w.now.vars.now c.in-Var.v c.args.a.now.at c.in-Var.is c.requires.of_a.of_at

pub returns-in-Var-clause-step : goal.returns-in-Var-clause-step
returns-in-Var-clause-step c =
    let s = c.args.w.now.store.now in
    let b = c.args.b.now in
    let at = c.args.a.now.at in
    let v = c.in-Var.v in
    let high = c.saturating_sub-high.result in
    let is : high ≡ greatest_start b s.sets - 1 = c.saturating_sub-high.ensures ∙ ap (λ (n : ℕ). n - 1) c.greatest_time.ensures in
    stepped_by c.args.w.now.vars.now (time_cut (early_test b) at) (cut_by (λ y. nat_le y high) v.0) s c.keep_le.new.w.store.now
    c.args.before c.keep_le.result
    (λ live. time_is (early_test b) (λ y. nat_le y high) at v s.sets c.in-Var.is (λ y. ap (λ (n : ℕ). nat_le y n) (sym is)))
    c.keep_le.ensures.step

pub greatest_time-requires-clause-live : goal.greatest_time-requires-clause-live
greatest_time-requires-clause-live c = c.requires.live (going c.args.before c.if-eq.ensures)

pub keep_le-requires-clause-going : goal.keep_le-requires-clause-going
keep_le-requires-clause-going c = going c.args.before c.if-eq.ensures
