use Rattle.std.proofs.Common.{◌∙◌, not, ◌&&◌, nat_eq, sym, subst, arith}
use Rattle.std.specs.declared.option.Option.{Option}
use Rattle.un_base.specs.declared.ids.VarId.{VarId}
use Rattle.un_domains.specs.Sets.{cut_by}
use Rattle.un_prop.specs.Among.{AllAmong}
use Rattle.un_prop.specs.Looks.{sure}
use Rattle.un_prop.specs.LookLaws.{both}
use Rattle.un_prop.specs.LastLaws.{cut_same}
use Rattle.un_prop.specs.GoingLaws.{stepped_same, stepped_by}
use Rattle.un_rect.specs.Spans.{choice_vars}
use Rattle.un_rect.specs.Clobber.{may_survive, reader_test, reader_cut}
use Rattle.un_rect.proofs.Refusals.{no_left, no_right, passes_unmet, refuses_met, choice_same, choice_is, in_choice}
use Rattle.un_rect.proofs.Going.{going}
use Rattle.un_rect.proofs.clobber.keep_reader.Goals as goal

pub returns-then-not-c-clause-step : goal.returns-then-not-c-clause-step
returns-then-not-c-clause-step c =
    let w = c.args.w.now in
    let s = w.store.now in
    let a = c.args.a.now in
    let u = c.args.u.now in
    let rest = (sure a.on s.sets && sure u.on s.sets) && not (may_survive c.args.mask a s.sets) in
    stepped_same w.vars.now (reader_cut c.args.mask a c.args.c.now u) s c.args.before
    (λ live. choice_same w.vars.now (reader_test c.args.mask a c.args.c.now u) u.choice s.sets c.requires.of_user.of_choice
    c.requires.known live
    (λ y. passes_unmet _ (no_right (nat_eq y u.value) _ (no_left c.args.c.now.before rest c.if-not-c.true))))

pub drop_value-requires-clause-there : goal.drop_value-requires-clause-there
drop_value-requires-clause-there c = in_choice c.args.w.now.vars.now c.args.u.now.choice c.in-Some.v c.args.w.now.store.now.sets
    c.in-Some.is c.requires.of_user.of_choice c.requires.known

pub drop_value-requires-clause-some : goal.drop_value-requires-clause-some
drop_value-requires-clause-some c = c.requires.live (going c.args.before c.if-eq.ensures) c.in-Some.v.0
    (in_choice c.args.w.now.vars.now c.args.u.now.choice c.in-Some.v c.args.w.now.store.now.sets c.in-Some.is
    c.requires.of_user.of_choice c.requires.known)

pub drop_value-requires-clause-lent : goal.drop_value-requires-clause-lent
drop_value-requires-clause-lent c = subst (λ (o : Option VarId). AllAmong c.args.w.now.vars.now (choice_vars o)) c.in-Some.is
    c.requires.of_user.of_choice 0 c.in-Some.v (omega arith)

pub returns-then-is_doomed-clause-step : goal.returns-then-is_doomed-clause-step
returns-then-is_doomed-clause-step c =
    let w = c.args.w.now in
    let s = w.store.now in
    let a = c.args.a.now in
    let u = c.args.u.now in
    let v = c.in-Some.v in
    let q = reader_test c.args.mask a c.args.c.now u in
    let rest = (sure a.on s.sets && sure u.on s.sets) && not (may_survive c.args.mask a s.sets) in
    stepped_by w.vars.now (reader_cut c.args.mask a c.args.c.now u) (cut_by (λ y. not (nat_eq y u.value)) v.0) s
    c.drop_value.new.w.store.now c.args.before c.drop_value.result
    (λ live. choice_is q u.choice v s.sets c.in-Some.is
    ∙ cut_same (q s.sets) (λ y. not (nat_eq y u.value)) v.0 s.sets
    (λ y there. refuses_met (nat_eq y u.value) _ (both c.args.c.now.before rest c.if-not-c.false (sym c.is_doomed.ensures
    ∙ c.if-is_doomed.true))))
    c.drop_value.ensures.step

pub returns-else-is_doomed-clause-step : goal.returns-else-is_doomed-clause-step
returns-else-is_doomed-clause-step c =
    let w = c.args.w.now in
    let s = w.store.now in
    let a = c.args.a.now in
    let u = c.args.u.now in
    let rest = (sure a.on s.sets && sure u.on s.sets) && not (may_survive c.args.mask a s.sets) in
    stepped_same w.vars.now (reader_cut c.args.mask a c.args.c.now u) s c.args.before
    (λ live. choice_same w.vars.now (reader_test c.args.mask a c.args.c.now u) u.choice s.sets c.requires.of_user.of_choice
    c.requires.known live
    (λ y. passes_unmet _ (no_right (nat_eq y u.value) _ (no_right c.args.c.now.before rest (sym c.is_doomed.ensures
    ∙ c.if-is_doomed.false)))))

pub is_doomed-requires-clause-of_temp : goal.is_doomed-requires-clause-of_temp
is_doomed-requires-clause-of_temp c = c.requires.of_temp

pub is_doomed-requires-clause-of_user : goal.is_doomed-requires-clause-of_user
is_doomed-requires-clause-of_user c = c.requires.of_user

pub is_doomed-requires-clause-known : goal.is_doomed-requires-clause-known
is_doomed-requires-clause-known c = c.requires.known

pub is_doomed-requires-clause-live : goal.is_doomed-requires-clause-live
is_doomed-requires-clause-live c = c.requires.live (going c.args.before c.if-eq.ensures)

pub drop_value-requires-clause-going : goal.drop_value-requires-clause-going
drop_value-requires-clause-going c = going c.args.before c.if-eq.ensures
