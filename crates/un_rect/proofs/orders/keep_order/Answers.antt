use Rattle.std.proofs.Common.{Bool, ◌∙◌, cond, Some, sym, ap}
use Rattle.un_prop.specs.GoingLaws.{stepped_same, stepped_by}
use Rattle.un_rect.specs.Orders.{order_steps, order_cut}
use Rattle.un_rect.proofs.Going.{going}
use Rattle.un_rect.proofs.orders.keep_order.Goals as goal

pub returns-then-comes_first-clause-step : goal.returns-then-comes_first-clause-step
returns-then-comes_first-clause-step c =
    let s = c.args.w.now.store.now in
    let a = c.args.a.now in
    let b = c.args.b.now in
    stepped_by c.args.w.now.vars.now (order_cut a b) (order_steps a b) s c.keep_steps.new.w.store.now c.args.before c.keep_steps.result
    (λ live. ap (λ (d : Bool). cond d (order_steps a b s.sets) (Some s.sets)) (sym c.comes_first.ensures ∙ c.if-comes_first.true))
    c.keep_steps.ensures.step

pub returns-else-comes_first-clause-step : goal.returns-else-comes_first-clause-step
returns-else-comes_first-clause-step c =
    let s = c.args.w.now.store.now in
    let a = c.args.a.now in
    let b = c.args.b.now in
    stepped_same c.args.w.now.vars.now (order_cut a b) s c.args.before
    (λ live. ap (λ (d : Bool). cond d (order_steps a b s.sets) (Some s.sets)) (sym c.comes_first.ensures ∙ c.if-comes_first.false))

pub comes_first-requires-clause-of_a : goal.comes_first-requires-clause-of_a
comes_first-requires-clause-of_a c = c.requires.of_a

pub comes_first-requires-clause-of_b : goal.comes_first-requires-clause-of_b
comes_first-requires-clause-of_b c = c.requires.of_b

pub comes_first-requires-clause-known : goal.comes_first-requires-clause-known
comes_first-requires-clause-known c = c.requires.known

pub comes_first-requires-clause-live : goal.comes_first-requires-clause-live
comes_first-requires-clause-live c = c.requires.live (going c.args.before c.if-eq.ensures)

pub keep_steps-requires-clause-of_a : goal.keep_steps-requires-clause-of_a
keep_steps-requires-clause-of_a c = c.requires.of_a

pub keep_steps-requires-clause-of_b : goal.keep_steps-requires-clause-of_b
keep_steps-requires-clause-of_b c = c.requires.of_b

pub keep_steps-requires-clause-known : goal.keep_steps-requires-clause-known
keep_steps-requires-clause-known c = c.requires.known

pub keep_steps-requires-clause-live : goal.keep_steps-requires-clause-live
keep_steps-requires-clause-live c = c.requires.live
