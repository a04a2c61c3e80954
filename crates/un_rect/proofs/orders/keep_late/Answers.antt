use Rattle.std.proofs.Common.{nat_lt}
use Rattle.un_domains.specs.Sets.{cut_by}
use Rattle.un_prop.specs.AmongLaws.{has_among}
use Rattle.un_prop.specs.GoingLaws.{stepped_by}
use Rattle.un_rect.specs.Orders.{time_cut, late_test}
use Rattle.un_rect.specs.OrdersLaws.{time_is}
use Rattle.un_rect.proofs.OrderSteps.{time_in, late_is}
use Rattle.un_rect.proofs.Going.{going}
use Rattle.un_rect.proofs.orders.keep_late.Goals as goal

pub keep_gt-requires-clause-there : goal.keep_gt-requires-clause-there
keep_gt-requires-clause-there c = has_among c.args.w.now.vars.now c.in-Var.v c.args.w.now.store.now.sets
    (time_in c.args.w.now.vars.now c.in-Var.v c.args.b.now.at c.in-Var.is c.requires.of_b.of_at) c.requires.known

pub keep_gt-requires-clause-lent : goal.keep_gt-requires-clause-lent
keep_gt-requires-clause-lent c = time_in c.args.w.now.vars.now c.in-Var.v c.args.b.now.at c.in-Var.is c.requires.of_b.of_at

pub returns-in-Var-clause-step : goal.returns-in-Var-clause-step
returns-in-Var-clause-step c =
    let s = c.args.w.now.store.now in
    let a = c.args.a.now in
    let at = c.args.b.now.at in
    let v = c.in-Var.v in
    let last = c.last_cycle-last.result in
    stepped_by c.args.w.now.vars.now (time_cut (late_test a) at) (cut_by (λ y. nat_lt last y) v.0) s c.keep_gt.new.w.store.now c.args.before
    c.keep_gt.result
    (λ live. time_is (late_test a) (λ y. nat_lt last y) at v s.sets c.in-Var.is (λ y. late_is last _ y c.last_cycle-last.ensures))
    c.keep_gt.ensures.step

pub last_cycle-last-requires-clause-vars : goal.last_cycle-last-requires-clause-vars
last_cycle-last-requires-clause-vars c = c.requires.of_a

pub last_cycle-last-requires-clause-known : goal.last_cycle-last-requires-clause-known
last_cycle-last-requires-clause-known c = c.requires.known

pub last_cycle-last-requires-clause-live : goal.last_cycle-last-requires-clause-live
last_cycle-last-requires-clause-live c = c.requires.live (going c.args.before c.if-eq.ensures)

pub keep_gt-requires-clause-going : goal.keep_gt-requires-clause-going
keep_gt-requires-clause-going c = going c.args.before c.if-eq.ensures
