use Rattle.std.proofs.Common.{ℕ, List, ◌≡◌, ◌-◌, ◌∙◌, nat_le, true, sym, ap, subst}
use Rattle.std.proofs.Common.{arith}
use Rattle.un_base.specs.declared.ids.VarId.{VarId}
use Rattle.un_domains.specs.Sets.{cut_by, greatest}
use Rattle.un_prop.specs.Acts.{at_vars}
use Rattle.un_prop.specs.AmongLaws.{has_among}
use Rattle.un_prop.specs.Among.{among, AllAmong}
use Rattle.un_prop.specs.declared.act.At.{At}
use Rattle.un_prop.specs.declared.act.At.TheVariants.{Var}
use Rattle.un_prop.specs.Looks.{at_set}
use Rattle.un_prop.specs.GoingLaws.{stepped_same, stepped_by}
use Rattle.un_prec.specs.Links.{at_cut, both_sure, earlier_test}
use Rattle.un_prop.specs.LookLaws.{known_of}
use Rattle.un_prec.specs.LinkLaws.{at_same, at_is, not_sure, is_sure_or}
use Rattle.un_prec.proofs.rules.earlier.Goals as goal

pub returns-then-not-are_sure-clause-step : goal.returns-then-not-are_sure-clause-step
returns-then-not-are_sure-clause-step c =
    let w = c.args.w.now in
    let vs = w.vars.now in
    let s = w.store.now in
    let l = c.args.link in
    stepped_same vs (at_cut (earlier_test l) l.from) s c.args.before
    (λ live. at_same vs (earlier_test l) l.from s.sets c.requires.vars.of_from c.requires.known live
    (λ y. not_sure (both_sure l s.sets) _ (sym c.if-not-are_sure.ensures)))

pub greatest_time-requires-clause-known : goal.greatest_time-requires-clause-known
greatest_time-requires-clause-known c = known_of c.args.w.now.vars.now (at_vars c.args.link.to) c.args.w.now.store.now.sets
    c.requires.vars.of_to c.requires.known

in_window : (vs : List VarId) (v : VarId) (at : At) → at ≡ Var v → AllAmong vs (at_vars at) → among vs v ≡ true
in_window vs v at e all = subst (λ (a : At). AllAmong vs (at_vars a)) e all 0 v (omega arith)

pub keep_le-requires-clause-there : goal.keep_le-requires-clause-there
keep_le-requires-clause-there c = has_among c.args.w.now.vars.now c.in-Var.v c.args.w.now.store.now.sets
    (in_window c.args.w.now.vars.now c.in-Var.v c.args.link.from c.in-Var.is c.requires.vars.of_from) c.requires.known

pub keep_le-requires-clause-lent : goal.keep_le-requires-clause-lent
keep_le-requires-clause-lent c = in_window c.args.w.now.vars.now c.in-Var.v c.args.link.from c.in-Var.is c.requires.vars.of_from

pub returns-in-Var-clause-step : goal.returns-in-Var-clause-step
returns-in-Var-clause-step c =
    let w = c.args.w.now in
    let vs = w.vars.now in
    let s = w.store.now in
    let l = c.args.link in
    let v = c.in-Var.v in
    let high = c.saturating_sub-high.result in
    let is : high ≡ greatest (at_set l.to s.sets) - l.gap = c.saturating_sub-high.ensures
    ∙ ap (λ (n : ℕ). n - l.gap) c.greatest_time.ensures in
    stepped_by vs (at_cut (earlier_test l) l.from) (cut_by (λ y. nat_le y high) v.0) s c.keep_le.new.w.store.now c.args.before
    c.keep_le.result
    (λ live. at_is (earlier_test l) (λ y. nat_le y high) l.from v s.sets c.in-Var.is
    (λ y. is_sure_or (both_sure l s.sets) _ (sym c.if-not-are_sure.ensures) ∙ ap (λ (n : ℕ). nat_le y n) (sym is)))
    c.keep_le.ensures.step
