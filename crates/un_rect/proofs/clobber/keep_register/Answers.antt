use Rattle.std.proofs.Common.{◌∙◌, not, sym}
use Rattle.un_domains.specs.Sets.{cut_by}
use Rattle.un_isa.specs.Tables.{in_mask}
use Rattle.un_prop.specs.Acts.{act_vars}
use Rattle.un_prop.specs.AmongLaws.{has_among}
use Rattle.un_prop.specs.Looks.{sure}
use Rattle.un_prop.specs.LookLaws.{both, known_of}
use Rattle.un_prop.specs.LastLaws.{cut_all, cut_same}
use Rattle.un_prop.specs.GoingLaws.{stepped_same, stepped_by}
use Rattle.un_rect.specs.Clobber.{lasts, hit_test, hit_cut}
use Rattle.un_rect.proofs.Refusals.{no_left, no_right, passes_unmet, refuses_met}
use Rattle.un_rect.proofs.Going.{going}
use Rattle.un_rect.proofs.clobber.keep_register.Goals as goal

pub is_sure-requires : goal.is_sure-requires
is_sure-requires c = known_of c.args.w.now.vars.now (act_vars c.args.a.now.on) c.args.w.now.store.now.sets c.requires.of_temp.of_on
    c.requires.known

pub returns-then-not-is_sure-clause-step : goal.returns-then-not-is_sure-clause-step
returns-then-not-is_sure-clause-step c =
    let w = c.args.w.now in
    let s = w.store.now in
    let a = c.args.a.now in
    stepped_same w.vars.now (hit_cut c.args.mask a c.args.c.now) s c.args.before
    (λ live. cut_all (hit_test c.args.mask a c.args.c.now s.sets) a.reg.0 s.sets
    (has_among w.vars.now a.reg s.sets c.requires.of_temp.of_reg c.requires.known) live
    (λ y there. passes_unmet _ (no_right (in_mask c.args.mask y) _ (no_left (sure a.on s.sets) (lasts a c.args.c.now s.sets)
    (sym c.is_sure.ensures ∙ c.if-not-is_sure.true)))))

pub returns-then-not-lasts-clause-step : goal.returns-then-not-lasts-clause-step
returns-then-not-lasts-clause-step c =
    let w = c.args.w.now in
    let s = w.store.now in
    let a = c.args.a.now in
    stepped_same w.vars.now (hit_cut c.args.mask a c.args.c.now) s c.args.before
    (λ live. cut_all (hit_test c.args.mask a c.args.c.now s.sets) a.reg.0 s.sets
    (has_among w.vars.now a.reg s.sets c.requires.of_temp.of_reg c.requires.known) live
    (λ y there. passes_unmet _ (no_right (in_mask c.args.mask y) _ (no_right (sure a.on s.sets) (lasts a c.args.c.now s.sets)
    (sym c.lasts.ensures ∙ c.if-not-lasts.true)))))

pub returns-clause-step : goal.returns-clause-step
returns-clause-step c =
    let w = c.args.w.now in
    let s = w.store.now in
    let a = c.args.a.now in
    stepped_by w.vars.now (hit_cut c.args.mask a c.args.c.now) (cut_by (λ y. not (in_mask c.args.mask y)) a.reg.0) s
    c.keep_passing.new.w.store.now c.args.before c.keep_passing.result
    (λ live. cut_same (hit_test c.args.mask a c.args.c.now s.sets) (λ y. not (in_mask c.args.mask y)) a.reg.0 s.sets
    (λ y there. refuses_met (in_mask c.args.mask y) _ (both (sure a.on s.sets) (lasts a c.args.c.now s.sets) (sym c.is_sure.ensures
    ∙ c.if-not-is_sure.false) (sym c.lasts.ensures ∙ c.if-not-lasts.false))))
    c.keep_passing.ensures.step

pub lasts-requires-clause-of_temp : goal.lasts-requires-clause-of_temp
lasts-requires-clause-of_temp c = c.requires.of_temp

pub lasts-requires-clause-of_call : goal.lasts-requires-clause-of_call
lasts-requires-clause-of_call c = c.requires.of_call

pub lasts-requires-clause-known : goal.lasts-requires-clause-known
lasts-requires-clause-known c = c.requires.known

pub lasts-requires-clause-live : goal.lasts-requires-clause-live
lasts-requires-clause-live c = c.requires.live (going c.args.before c.if-eq.ensures)

pub keep_passing-requires-clause-lent : goal.keep_passing-requires-clause-lent
keep_passing-requires-clause-lent c = c.requires.of_temp.of_reg

pub keep_passing-requires-clause-known : goal.keep_passing-requires-clause-known
keep_passing-requires-clause-known c = c.requires.known

pub keep_passing-requires-clause-live : goal.keep_passing-requires-clause-live
keep_passing-requires-clause-live c = c.requires.live
