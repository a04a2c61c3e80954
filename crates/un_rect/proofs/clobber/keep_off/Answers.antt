use Rattle.std.proofs.Common.{List, ◌≡◌, ◌∙◌, true, not, nat_eq, nat_le, sym, ap, subst, arith}
use Rattle.un_base.specs.declared.ids.VarId.{VarId}
use Rattle.un_domains.specs.Sets.{cut_by}
use Rattle.un_prop.specs.Acts.{act_vars}
use Rattle.un_prop.specs.Among.{among, AllAmong}
use Rattle.un_prop.specs.AmongLaws.{has_among}
use Rattle.un_prop.specs.LookLaws.{both}
use Rattle.un_prop.specs.PlaceLaws.{act_same, act_is}
use Rattle.un_prop.specs.GoingLaws.{stepped_same, stepped_by}
use Rattle.un_prop.specs.declared.act.Act.{Act}
use Rattle.un_prop.specs.declared.act.Act.TheVariants.{Var}
use Rattle.un_rect.specs.Clobber.{may_survive, lasts, off_test, off_cut}
use Rattle.un_rect.proofs.Refusals.{no_left, no_right, passes_unmet, only_zero}
use Rattle.un_rect.proofs.Going.{going}
use Rattle.un_rect.proofs.clobber.keep_off.Goals as goal

pub may_survive-requires-clause-there : goal.may_survive-requires-clause-there
may_survive-requires-clause-there c = has_among c.args.w.now.vars.now c.args.a.now.reg c.args.w.now.store.now.sets
    c.requires.of_temp.of_reg c.requires.known

pub returns-then-may_survive-clause-step : goal.returns-then-may_survive-clause-step
returns-then-may_survive-clause-step c =
    let w = c.args.w.now in
    let s = w.store.now in
    let a = c.args.a.now in
    let q = off_test c.args.mask a c.args.c.now in
    stepped_same w.vars.now (off_cut c.args.mask a c.args.c.now) s c.args.before
    (λ live. act_same w.vars.now q a.on s.sets c.requires.of_temp.of_on c.requires.known live
    (λ y. passes_unmet _ (no_right (not (nat_eq y 0)) _ (no_left (not (may_survive c.args.mask a s.sets)) (lasts a c.args.c.now s.sets)
    (ap not (sym c.may_survive.ensures ∙ c.if-may_survive.true))))))

in_window : (vs : List VarId) (v : VarId) (on : Act) → on ≡ Var v → AllAmong vs (act_vars on) → among vs v ≡ true
in_window vs v on e all = subst (λ (a : Act). AllAmong vs (act_vars a)) e all 0 v (omega arith)

pub keep_le-requires-clause-there : goal.keep_le-requires-clause-there
keep_le-requires-clause-there c = has_among c.args.w.now.vars.now c.in-Var.v c.args.w.now.store.now.sets
    (in_window c.args.w.now.vars.now c.in-Var.v c.args.a.now.on c.in-Var.is c.requires.of_temp.of_on) c.requires.known

pub keep_le-requires-clause-lent : goal.keep_le-requires-clause-lent
keep_le-requires-clause-lent c = in_window c.args.w.now.vars.now c.in-Var.v c.args.a.now.on c.in-Var.is c.requires.of_temp.of_on

pub returns-then-lasts-clause-step : goal.returns-then-lasts-clause-step
returns-then-lasts-clause-step c =
    let w = c.args.w.now in
    let s = w.store.now in
    let a = c.args.a.now in
    let q = off_test c.args.mask a c.args.c.now in
    stepped_by w.vars.now (off_cut c.args.mask a c.args.c.now) (cut_by (λ y. nat_le y 0) c.in-Var.v.0) s c.keep_le.new.w.store.now
    c.args.before c.keep_le.result
    (λ live. act_is q (λ y. nat_le y 0) a.on c.in-Var.v s.sets c.in-Var.is
    (λ y. only_zero y _ (both (not (may_survive c.args.mask a s.sets)) (lasts a c.args.c.now s.sets)
    (ap not (sym c.may_survive.ensures ∙ c.if-may_survive.false)) (sym c.lasts.ensures ∙ c.if-lasts.true))))
    c.keep_le.ensures.step

pub returns-else-lasts-clause-step : goal.returns-else-lasts-clause-step
returns-else-lasts-clause-step c =
    let w = c.args.w.now in
    let s = w.store.now in
    let a = c.args.a.now in
    let q = off_test c.args.mask a c.args.c.now in
    stepped_same w.vars.now (off_cut c.args.mask a c.args.c.now) s c.args.before
    (λ live. act_same w.vars.now q a.on s.sets c.requires.of_temp.of_on c.requires.known live
    (λ y. passes_unmet _ (no_right (not (nat_eq y 0)) _ (no_right (not (may_survive c.args.mask a s.sets)) (lasts a c.args.c.now s.sets)
    (sym c.lasts.ensures ∙ c.if-lasts.false)))))

pub may_survive-requires-clause-live : goal.may_survive-requires-clause-live
may_survive-requires-clause-live c = c.requires.live (going c.args.before c.if-eq.ensures)

pub lasts-requires-clause-of_temp : goal.lasts-requires-clause-of_temp
lasts-requires-clause-of_temp c = c.requires.of_temp

pub lasts-requires-clause-of_call : goal.lasts-requires-clause-of_call
lasts-requires-clause-of_call c = c.requires.of_call

pub lasts-requires-clause-known : goal.lasts-requires-clause-known
lasts-requires-clause-known c = c.requires.known

pub lasts-requires-clause-live : goal.lasts-requires-clause-live
lasts-requires-clause-live c = c.requires.live (going c.args.before c.if-eq.ensures)

pub keep_le-requires-clause-going : goal.keep_le-requires-clause-going
keep_le-requires-clause-going c = going c.args.before c.if-eq.ensures
