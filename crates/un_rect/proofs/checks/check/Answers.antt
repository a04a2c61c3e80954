use Rattle.un_prop.specs.GoingLaws.{stepped_by, stepped_same}
use Rattle.un_rect.specs.Apart.{check_pair}
use Rattle.un_rect.specs.Checks.{decide_cut}
use Rattle.un_rect.proofs.Going.{going}
use Rattle.un_rect.proofs.checks.check.Goals as goal

pub to_decide-requires-clause-ascend : goal.to_decide-requires-clause-ascend
to_decide-requires-clause-ascend c = c.requires.ascend

pub to_decide-requires-clause-of_a : goal.to_decide-requires-clause-of_a
to_decide-requires-clause-of_a c = c.requires.of_a

pub to_decide-requires-clause-of_b : goal.to_decide-requires-clause-of_b
to_decide-requires-clause-of_b c = c.requires.of_b

pub to_decide-requires-clause-known : goal.to_decide-requires-clause-known
to_decide-requires-clause-known c = c.requires.known

pub to_decide-requires-clause-live : goal.to_decide-requires-clause-live
to_decide-requires-clause-live c = c.requires.live (going c.args.before c.if-eq.ensures)

pub to_decide-requires-clause-noted : goal.to_decide-requires-clause-noted
to_decide-requires-clause-noted c = c.requires.noted (going c.args.before c.if-eq.ensures)

pub returns-in-None-clause-step : goal.returns-in-None-clause-step
returns-in-None-clause-step c = stepped_same c.args.w.now.vars.now (check_pair c.args.w.now.vars.now c.args.a.now c.args.b.now)
    c.args.w.now.store.now c.args.before (λ live. c.in-None.ensures)

pub returns-in-None-clause-written : goal.returns-in-None-clause-written
returns-in-None-clause-written c = c.requires.written

pub decide-requires-clause-of_a : goal.decide-requires-clause-of_a
decide-requires-clause-of_a c = c.requires.of_a

pub decide-requires-clause-of_b : goal.decide-requires-clause-of_b
decide-requires-clause-of_b c = c.requires.of_b

pub decide-requires-clause-lent : goal.decide-requires-clause-lent
decide-requires-clause-lent c = c.in-Some.ensures.0

pub decide-requires-clause-known : goal.decide-requires-clause-known
decide-requires-clause-known c = c.requires.known

pub decide-requires-clause-going : goal.decide-requires-clause-going
decide-requires-clause-going c = going c.args.before c.if-eq.ensures

pub decide-requires-clause-live : goal.decide-requires-clause-live
decide-requires-clause-live c = c.requires.live (going c.args.before c.if-eq.ensures)

pub decide-requires-clause-room : goal.decide-requires-clause-room
decide-requires-clause-room c = c.requires.room

pub decide-requires-clause-written : goal.decide-requires-clause-written
decide-requires-clause-written c = c.requires.written (going c.args.before c.if-eq.ensures)

pub returns-in-Some-clause-step : goal.returns-in-Some-clause-step
returns-in-Some-clause-step c =
    let vs = c.args.w.now.vars.now in
    let s = c.args.w.now.store.now in
    let a = c.args.a.now in
    let b = c.args.b.now in
    stepped_by vs (check_pair vs a b) (decide_cut a b c.in-Some.v s.sets) s c.decide.new.w.store.now c.args.before c.decide.result
    (λ live. c.in-Some.ensures.1) c.decide.ensures.step

pub returns-in-Some-clause-written : goal.returns-in-Some-clause-written
returns-in-Some-clause-written c = c.decide.ensures.written
