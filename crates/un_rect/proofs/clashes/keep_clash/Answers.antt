use Rattle.std.proofs.Common.{ℕ, not, nat_eq}
use Rattle.un_domains.specs.Sets.{cut_by}
use Rattle.un_prop.specs.AmongLaws.{has_among}
use Rattle.un_prop.specs.LastLaws.{cut_all, cut_same}
use Rattle.un_prop.specs.GoingLaws.{stepped_same, stepped_by}
use Rattle.un_rect.specs.Apart.{clash_test, clash_cut}
use Rattle.un_rect.proofs.Going.{going}
use Rattle.un_rect.proofs.clashes.keep_clash.Goals as goal

pub drop_value-requires-clause-there : goal.drop_value-requires-clause-there
drop_value-requires-clause-there c = has_among c.args.w.now.vars.now c.args.b.now.reg c.args.w.now.store.now.sets c.requires.of_b.of_reg
    c.requires.known

pub drop_value-requires-clause-some : goal.drop_value-requires-clause-some
drop_value-requires-clause-some c = c.requires.live (going c.args.before c.if-eq.ensures) c.args.b.now.reg.0
    (has_among c.args.w.now.vars.now c.args.b.now.reg c.args.w.now.store.now.sets c.requires.of_b.of_reg c.requires.known)

pub returns-in-None-clause-step : goal.returns-in-None-clause-step
returns-in-None-clause-step c =
    let s = c.args.w.now.store.now in
    let a = c.args.a.now in
    let b = c.args.b.now in
    stepped_same c.args.w.now.vars.now (clash_cut a b) s c.args.before
    (λ live. cut_all (clash_test a b s.sets) b.reg.0 s.sets (has_among c.args.w.now.vars.now b.reg s.sets c.requires.of_b.of_reg
    c.requires.known) live c.in-None.ensures)

pub returns-in-Some-clause-step : goal.returns-in-Some-clause-step
returns-in-Some-clause-step c =
    let s = c.args.w.now.store.now in
    let a = c.args.a.now in
    let b = c.args.b.now in
    let q = λ (y : ℕ). not (nat_eq y c.in-Some.r) in
    stepped_by c.args.w.now.vars.now (clash_cut a b) (cut_by q b.reg.0) s c.drop_value.new.w.store.now c.args.before c.drop_value.result
    (λ live. cut_same (clash_test a b s.sets) q b.reg.0 s.sets (λ y there. c.in-Some.ensures y)) c.drop_value.ensures.step
