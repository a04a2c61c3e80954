use Rattle.std.proofs.Common.{List, ◌≡◌, ◌-◌, nat_lt, true, false, refl, sym, subst}
use Rattle.std.proofs.Common.{arith}
use Rattle.un_base.specs.declared.ids.VarId.{VarId}
use Rattle.un_domains.specs.Sets.{cut_by}
use Rattle.un_prop.specs.Acts.{at_vars}
use Rattle.un_prop.specs.AmongLaws.{has_among}
use Rattle.un_prop.specs.Among.{among, AllAmong}
use Rattle.un_prop.specs.declared.act.At.{At}
use Rattle.un_prop.specs.declared.act.At.TheVariants.{Var}
use Rattle.un_prop.specs.GoingLaws.{stepped_same, stepped_by}
use Rattle.un_prec.specs.Links.{at_cut, both_sure, close_test}
use Rattle.un_prop.specs.LookLaws.{known_of}
use Rattle.un_prec.specs.LinkLaws.{at_same, at_is, not_sure, close_is, close_all}
use Rattle.un_prec.proofs.rules.close.Goals as goal

pub returns-then-not-are_sure-clause-step : goal.returns-then-not-are_sure-clause-step
returns-then-not-are_sure-clause-step c =
    let w = c.args.w.now in
    let l = c.args.link in
    stepped_same w.vars.now (at_cut (close_test l) l.from) w.store.now c.args.before
    (λ live. at_same w.vars.now (close_test l) l.from w.store.now.sets c.requires.vars.of_from c.requires.known live
    (λ y. not_sure (both_sure l w.store.now.sets) _ (sym c.if-not-are_sure.ensures)))

pub least_time-low-requires-clause-known : goal.least_time-low-requires-clause-known
least_time-low-requires-clause-known c = known_of c.args.w.now.vars.now (at_vars c.args.link.to) c.args.w.now.store.now.sets
    c.requires.vars.of_to c.requires.known

in_window : (vs : List VarId) (v : VarId) (at : At) → at ≡ Var v → AllAmong vs (at_vars at) → among vs v ≡ true
in_window vs v at e all = subst (λ (a : At). AllAmong vs (at_vars a)) e all 0 v (omega arith)

pub keep_gt-requires-clause-there : goal.keep_gt-requires-clause-there
keep_gt-requires-clause-there c = has_among c.args.w.now.vars.now c.in-Var.v c.args.w.now.store.now.sets
    (in_window c.args.w.now.vars.now c.in-Var.v c.args.link.from c.in-Var.is c.requires.vars.of_from) c.requires.known

pub keep_gt-requires-clause-lent : goal.keep_gt-requires-clause-lent
keep_gt-requires-clause-lent c = in_window c.args.w.now.vars.now c.in-Var.v c.args.link.from c.in-Var.is c.requires.vars.of_from

pub returns-then-low-link-clause-step : goal.returns-then-low-link-clause-step
returns-then-low-link-clause-step c =
    let w = c.args.w.now in
    let l = c.args.link in
    stepped_same w.vars.now (at_cut (close_test l) l.from) w.store.now c.args.before
    (λ live. at_same w.vars.now (close_test l) l.from w.store.now.sets c.requires.vars.of_from c.requires.known live
    (λ y. close_all l w.store.now.sets c.least_time-low.result y (sym c.if-not-are_sure.ensures) c.least_time-low.ensures
    c.if-low-link.true))

pub returns-else-low-link-clause-step : goal.returns-else-low-link-clause-step
returns-else-low-link-clause-step c =
    let w = c.args.w.now in
    let l = c.args.link in
    let v = c.in-Var.v in
    let below = c.least_time-low.result - l.gap - 1 in
    stepped_by w.vars.now (at_cut (close_test l) l.from) (cut_by (λ y. nat_lt below y) v.0) w.store.now c.keep_gt.new.w.store.now
    c.args.before c.keep_gt.result
    (λ live. at_is (close_test l) (λ y. nat_lt below y) l.from v w.store.now.sets c.in-Var.is
    (λ y. close_is l w.store.now.sets c.least_time-low.result below y (sym c.if-not-are_sure.ensures) c.least_time-low.ensures
    c.if-low-link.false refl))
    c.keep_gt.ensures.step
