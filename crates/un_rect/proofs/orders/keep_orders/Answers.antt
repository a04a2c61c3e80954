use Rattle.un_rect.proofs.Rows.{same_known, same_temp}
use Rattle.std.proofs.Common.{ap}
use Rattle.std.proofs.Common.{◌∙◌, sym}
use Rattle.un_prop.specs.GoingLaws.{stepped_same}
use Rattle.un_rect.specs.Orders.{order_pair}
use Rattle.un_rect.proofs.Going.{going}
use Rattle.un_rect.proofs.OrderSteps.{pair_idle}
use Rattle.un_rect.proofs.orders.keep_orders.Goals as goal

pub share_one-requires-clause-live : goal.share_one-requires-clause-live
share_one-requires-clause-live c = c.requires.live (going c.args.before c.if-eq.ensures)

pub returns-then-not-share_one-clause-step : goal.returns-then-not-share_one-clause-step
returns-then-not-share_one-clause-step c =
    let s = c.args.w.now.store.now in
    let a = c.args.a.now in
    let b = c.args.b.now in
    stepped_same c.args.w.now.vars.now (order_pair a b) s c.args.before
    (λ live. pair_idle a b s.sets (sym c.share_one.ensures ∙ c.if-not-share_one.true))

pub keep_order-first-requires-clause-of_a : goal.keep_order-first-requires-clause-of_a
keep_order-first-requires-clause-of_a c = c.requires.of_a

pub keep_order-first-requires-clause-of_b : goal.keep_order-first-requires-clause-of_b
keep_order-first-requires-clause-of_b c = c.requires.of_b

pub keep_order-first-requires-clause-known : goal.keep_order-first-requires-clause-known
keep_order-first-requires-clause-known c = c.requires.known

pub keep_order-first-requires-clause-live : goal.keep_order-first-requires-clause-live
keep_order-first-requires-clause-live c = c.requires.live

pub keep_order-requires-clause-of_a : goal.keep_order-requires-clause-of_a
keep_order-requires-clause-of_a c = same_temp c.args.w.now.vars.now c.keep_order-first.new.w.vars.now c.args.b.now
    (ap (λ r. r.now) c.keep_order-first.ensures.vars) c.requires.of_b

pub keep_order-requires-clause-of_b : goal.keep_order-requires-clause-of_b
keep_order-requires-clause-of_b c = same_temp c.args.w.now.vars.now c.keep_order-first.new.w.vars.now c.args.a.now
    (ap (λ r. r.now) c.keep_order-first.ensures.vars) c.requires.of_a

pub keep_order-requires-clause-known : goal.keep_order-requires-clause-known
keep_order-requires-clause-known c = same_known c.args.w.now.vars.now c.keep_order-first.new.w.vars.now c.args.w.now.store.now.sets
    c.keep_order-first.new.w.store.now.sets
    (ap (λ r. r.now) c.keep_order-first.ensures.vars) c.keep_order-first.ensures.step.long c.requires.known

pub keep_order-requires-clause-live : goal.keep_order-requires-clause-live
keep_order-requires-clause-live c = c.keep_order-first.ensures.step.live c.requires.live
