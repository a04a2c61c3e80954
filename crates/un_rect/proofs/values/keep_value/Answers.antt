use Rattle.std.proofs.Common.{◌||◌, ◌∙◌, not, nat_eq, sym}
use Rattle.un_domains.specs.Sets.{cut_by}
use Rattle.un_prop.specs.AmongLaws.{has_among}
use Rattle.un_prop.specs.LastLaws.{cut_all, cut_same, passes_tested, dropped_tested}
use Rattle.un_prop.specs.GoingLaws.{stepped_same, stepped_by}
use Rattle.un_rect.proofs.Going.{going}
use Rattle.un_rect.proofs.values.keep_value.Goals as goal

pub returns-then-passes-clause-step : goal.returns-then-passes-clause-step
returns-then-passes-clause-step g c =
    let w = c.args.w.now in
    let v = c.args.v in
    let t = g.T.ValueTest.lets c.args.t.now c.args.y in
    stepped_same w.vars.now (cut_by (λ z. not (nat_eq z c.args.y) || t) v.0) w.store.now c.args.before
    (λ live. cut_all (λ z. not (nat_eq z c.args.y) || t) v.0 w.store.now.sets (has_among w.vars.now v w.store.now.sets c.requires.lent
    c.requires.known) live
    (λ y there. passes_tested (not (nat_eq y c.args.y)) t (sym c.passes.ensures ∙ c.if-passes.true)))

pub drop_value-requires-clause-there : goal.drop_value-requires-clause-there
drop_value-requires-clause-there g c = has_among c.args.w.now.vars.now c.args.v c.args.w.now.store.now.sets c.requires.lent c.requires.known

pub drop_value-requires-clause-some : goal.drop_value-requires-clause-some
drop_value-requires-clause-some g c = c.requires.live (going c.args.before c.if-eq.ensures) c.args.v.0
    (has_among c.args.w.now.vars.now c.args.v c.args.w.now.store.now.sets c.requires.lent c.requires.known)

pub returns-clause-step : goal.returns-clause-step
returns-clause-step g c =
    let w = c.args.w.now in
    let v = c.args.v in
    let t = g.T.ValueTest.lets c.args.t.now c.args.y in
    stepped_by w.vars.now (cut_by (λ z. not (nat_eq z c.args.y) || t) v.0) (cut_by (λ z. not (nat_eq z c.args.y)) v.0) w.store.now
    c.drop_value.new.w.store.now
    c.args.before c.drop_value.result
    (λ live. cut_same (λ z. not (nat_eq z c.args.y) || t) (λ z. not (nat_eq z c.args.y)) v.0 w.store.now.sets
    (λ y there. dropped_tested (not (nat_eq y c.args.y)) t (sym c.passes.ensures ∙ c.if-passes.false)))
    c.drop_value.ensures.step

pub drop_value-requires-clause-lent : goal.drop_value-requires-clause-lent
drop_value-requires-clause-lent g c = c.requires.lent

pub drop_value-requires-clause-going : goal.drop_value-requires-clause-going
drop_value-requires-clause-going g c = going c.args.before c.if-eq.ensures
