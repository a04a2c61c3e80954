use Rattle.std.proofs.Common.{List, ◌≡◌, ◌+◌, ◌-◌, ◌^◌, min, nat_lt, true, false, sym, subst}
use Rattle.std.proofs.Common.{arith}
use Rattle.un_base.specs.declared.ids.VarId.{VarId}
use Rattle.un_domains.specs.Sets.{cut_by, least}
use Rattle.un_prop.specs.Acts.{at_vars}
use Rattle.un_prop.specs.AmongLaws.{has_among}
use Rattle.un_prop.specs.Among.{among, AllAmong}
use Rattle.un_prop.specs.declared.act.At.{At}
use Rattle.un_prop.specs.declared.act.At.TheVariants.{Var}
use Rattle.un_prop.specs.Looks.{at_set}
use Rattle.un_prop.specs.GoingLaws.{stepped_same, stepped_by}
use Rattle.un_prec.specs.Links.{at_cut, both_sure, later_test}
use Rattle.un_prop.specs.LookLaws.{known_of}
use Rattle.un_prec.specs.LinkLaws.{at_same, at_is, not_sure, later_is, later_zero}
use Rattle.un_prec.proofs.rules.later.Goals as goal

pub returns-then-not-are_sure-clause-step : goal.returns-then-not-are_sure-clause-step
returns-then-not-are_sure-clause-step c =
    let w = c.args.w.now in
    let vs = w.vars.now in
    let s = w.store.now in
    let l = c.args.link in
    stepped_same vs (at_cut (later_test l) l.to) s c.args.before (λ live. at_same vs (later_test l) l.to s.sets c.requires.vars.of_to
    c.requires.known live
    (λ y. not_sure (both_sure l s.sets) _ (sym c.if-not-are_sure.ensures)))

pub least_time-requires-clause-known : goal.least_time-requires-clause-known
least_time-requires-clause-known c = known_of c.args.w.now.vars.now (at_vars c.args.link.from) c.args.w.now.store.now.sets
    c.requires.vars.of_from c.requires.known

in_window : (vs : List VarId) (v : VarId) (at : At) → at ≡ Var v → AllAmong vs (at_vars at) → among vs v ≡ true
in_window vs v at e all = subst (λ (a : At). AllAmong vs (at_vars a)) e all 0 v (omega arith)

pub keep_gt-requires-clause-there : goal.keep_gt-requires-clause-there
keep_gt-requires-clause-there c = has_among c.args.w.now.vars.now c.in-Var.v c.args.w.now.store.now.sets
    (in_window c.args.w.now.vars.now c.in-Var.v c.args.link.to c.in-Var.is c.requires.vars.of_to) c.requires.known

pub keep_gt-requires-clause-lent : goal.keep_gt-requires-clause-lent
keep_gt-requires-clause-lent c = in_window c.args.w.now.vars.now c.in-Var.v c.args.link.to c.in-Var.is c.requires.vars.of_to

pub returns-then-low-eq0-clause-step : goal.returns-then-low-eq0-clause-step
returns-then-low-eq0-clause-step c =
    let w = c.args.w.now in
    let vs = w.vars.now in
    let s = w.store.now in
    let l = c.args.link in
    let low : c.from-least.result + c.from-gap.result ≡ least (at_set l.from s.sets) + l.gap =
    omega (arith, c.from-least.ensures, c.from-gap.ensures, c.least_time.ensures) in
    stepped_same vs (at_cut (later_test l) l.to) s c.args.before (λ live. at_same vs (later_test l) l.to s.sets c.requires.vars.of_to
    c.requires.known live
    (λ y. later_zero l s.sets (c.from-least.result + c.from-gap.result) y (sym c.if-not-are_sure.ensures) low c.if-low-eq0.true))

pub returns-else-low-eq0-clause-step : goal.returns-else-low-eq0-clause-step
returns-else-low-eq0-clause-step c =
    let w = c.args.w.now in
    let vs = w.vars.now in
    let s = w.store.now in
    let l = c.args.link in
    let v = c.in-Var.v in
    let low : c.from-least.result + c.from-gap.result ≡ least (at_set l.from s.sets) + l.gap =
    omega (arith, c.from-least.ensures, c.from-gap.ensures, c.least_time.ensures) in
    let below = c.min-below.result in
    let is : below ≡ min (c.from-least.result + c.from-gap.result - 1) (2 ^ 32 - 1) = omega (arith, c.min-below.ensures, c.from.ensures) in
    stepped_by vs (at_cut (later_test l) l.to) (cut_by (λ y. nat_lt below y) v.0) s c.keep_gt.new.w.store.now c.args.before c.keep_gt.result
    (λ live. at_is (later_test l) (λ y. nat_lt below y) l.to v s.sets c.in-Var.is
    (λ y. later_is l s.sets (c.from-least.result + c.from-gap.result) below y (sym c.if-not-are_sure.ensures) low c.if-low-eq0.false
    is))
    c.keep_gt.ensures.step
