use Rattle.std.proofs.Common.{ℕ, ◌∙◌, not, nat_eq, sym}
use Rattle.un_domains.specs.Sets.{cut_by}
use Rattle.un_prop.specs.AmongLaws.{has_among}
use Rattle.un_prop.specs.GoingLaws.{stepped_same, stepped_by}
use Rattle.un_rect.specs.Orders.{choice_cut, reader_test}
use Rattle.un_rect.specs.OrdersLaws.{choice_same, choice_is}
use Rattle.un_rect.proofs.OrderSteps.{choice_in, reader_stays, reader_goes}
use Rattle.un_rect.proofs.Going.{going}
use Rattle.un_rect.proofs.orders.keep_reader.Goals as goal

pub drop_value-requires-clause-there : goal.drop_value-requires-clause-there
drop_value-requires-clause-there c = has_among c.args.w.now.vars.now c.in-Some.v c.args.w.now.store.now.sets
    (choice_in c.args.w.now.vars.now c.in-Some.v c.args.u.now.choice c.in-Some.is c.requires.of_u.of_choice) c.requires.known

pub drop_value-requires-clause-some : goal.drop_value-requires-clause-some
drop_value-requires-clause-some c = c.requires.live (going c.args.before c.if-eq.ensures) c.in-Some.v.0
    (has_among c.args.w.now.vars.now c.in-Some.v c.args.w.now.store.now.sets (choice_in c.args.w.now.vars.now c.in-Some.v
    c.args.u.now.choice c.in-Some.is c.requires.of_u.of_choice) c.requires.known)

pub drop_value-requires-clause-lent : goal.drop_value-requires-clause-lent
drop_value-requires-clause-lent c = choice_in c.args.w.now.vars.now c.in-Some.v c.args.u.now.choice c.in-Some.is c.requires.of_u.of_choice

pub returns-then-is_late-clause-step : goal.returns-then-is_late-clause-step
returns-then-is_late-clause-step c =
    let s = c.args.w.now.store.now in
    let b = c.args.b.now in
    let u = c.args.u.now in
    let v = c.in-Some.v in
    let q = λ (y : ℕ). not (nat_eq y u.value) in
    stepped_by c.args.w.now.vars.now (choice_cut (reader_test b u) u.choice) (cut_by q v.0) s c.drop_value.new.w.store.now c.args.before
    c.drop_value.result
    (λ live. choice_is (reader_test b u) q u.choice v s.sets c.in-Some.is (λ y. reader_goes b u s.sets y (sym c.is_late.ensures
    ∙ c.if-is_late.true))) c.drop_value.ensures.step

pub returns-else-is_late-clause-step : goal.returns-else-is_late-clause-step
returns-else-is_late-clause-step c =
    let vs = c.args.w.now.vars.now in
    let s = c.args.w.now.store.now in
    let b = c.args.b.now in
    let u = c.args.u.now in
    stepped_same vs (choice_cut (reader_test b u) u.choice) s c.args.before
    (λ live. choice_same vs (reader_test b u) u.choice s.sets c.requires.of_u.of_choice c.requires.known live
    (λ y. reader_stays b u s.sets y (sym c.is_late.ensures ∙ c.if-is_late.false)))

pub is_late-requires-clause-of_b : goal.is_late-requires-clause-of_b
is_late-requires-clause-of_b c = c.requires.of_b

pub is_late-requires-clause-of_u : goal.is_late-requires-clause-of_u
is_late-requires-clause-of_u c = c.requires.of_u

pub is_late-requires-clause-known : goal.is_late-requires-clause-known
is_late-requires-clause-known c = c.requires.known

pub is_late-requires-clause-live : goal.is_late-requires-clause-live
is_late-requires-clause-live c = c.requires.live (going c.args.before c.if-eq.ensures)

pub drop_value-requires-clause-going : goal.drop_value-requires-clause-going
drop_value-requires-clause-going c = going c.args.before c.if-eq.ensures
