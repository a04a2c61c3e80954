use Rattle.std.proofs.Common.{ℕ, List, Bool, true, false, ◌≡◌, ◌∙◌, not, ◌||◌, get_or, sym, ap, subst}
use Rattle.std.proofs.Common.{arith}
use Rattle.std.specs.declared.option.Option.{Option}
use Rattle.un_base.specs.declared.ids.VarId.{VarId}
use Rattle.un_domains.specs.Sets.{cut_by, greatest}
use Rattle.un_prop.specs.Acts.{act_vars, at_vars}
use Rattle.un_prop.specs.Among.{among, AllAmong}
use Rattle.un_prop.specs.AmongLaws.{has_among}
use Rattle.un_prop.specs.GoingLaws.{stepped_same, stepped_by}
use Rattle.un_prop.specs.LookLaws.{known_of, both}
use Rattle.un_prop.specs.Looks.{at_set, act_set, sure}
use Rattle.un_prop.specs.Rounds.{HasVars}
use Rattle.un_prop.specs.When.{is_only, when_test}
use Rattle.un_prop.specs.declared.act.At.{At}
use Rattle.un_prop.specs.declared.act.At.TheVariants.{Var}
use Rattle.un_prec.specs.Links.{at_cut}
use Rattle.un_prec.specs.LinkLaws.{at_is}
use Rattle.un_prec.specs.declared.reads.ReadAlt.{ReadAlt}
use Rattle.un_prec.specs.Reads.{is_in_time, must_read, early_of, early_cut, ends_by, ReadAltVars}
use Rattle.un_prec.proofs.InTime.{in_time_is, got_at, early_idle, first_false, second_false}
use Rattle.un_prec.proofs.reads.keep_early.Goals as goal

pub is_sure-requires : goal.is_sure-requires
is_sure-requires c = let p = c.args.p.now in known_of p.vars (act_vars p.user_on) c.args.w.now.store.now.sets p.among.of_on c.requires.known

pub is_only-requires-clause-there : goal.is_only-requires-clause-there
is_only-requires-clause-there c = let p = c.args.p.now in has_among p.vars p.choice c.args.w.now.store.now.sets p.among.of_choice
    c.requires.known

pub returns-then-not-is_sure-clause-step : goal.returns-then-not-is_sure-clause-step
returns-then-not-is_sure-clause-step c =
    let p = c.args.p.now in
    let i = c.args.i in
    let s = c.args.w.now.store.now in
    stepped_same c.args.w.now.vars.now (early_cut p.user p.user_on p.choice p.alts i) s c.args.before
    (λ live. early_idle p.vars p.user p.user_on p.choice p.alts i s.sets p.among.of_alts c.requires.known live
    (first_false (sure p.user_on s.sets) (is_only p.choice i s.sets) (sym c.is_sure.ensures ∙ c.if-not-is_sure.true)))

pub returns-then-not-is_only-clause-step : goal.returns-then-not-is_only-clause-step
returns-then-not-is_only-clause-step c =
    let p = c.args.p.now in
    let i = c.args.i in
    let s = c.args.w.now.store.now in
    stepped_same c.args.w.now.vars.now (early_cut p.user p.user_on p.choice p.alts i) s c.args.before
    (λ live. early_idle p.vars p.user p.user_on p.choice p.alts i s.sets p.among.of_alts c.requires.known live
    (second_false (sure p.user_on s.sets) (is_only p.choice i s.sets) (sym c.is_only.ensures ∙ c.if-not-is_only.true)))

-- the definer in the list that is lent
lent_entry : (alts lent : List ReadAlt) (i : ℕ) (a : ReadAlt) → lent ≡ alts → a ≡ get_or lent i a → a ≡ get_or alts i a
lent_entry alts lent i a e is = is ∙ ap (λ (us : List ReadAlt). get_or us i a) e

in_window : (vs : List VarId) (v : VarId) (at : At) → at ≡ Var v → AllAmong vs (at_vars at) → among vs v ≡ true
in_window vs v at e all = subst (λ (a : At). AllAmong vs (at_vars a)) e all 0 v (omega arith)

pub returns-in-Const-clause-step : goal.returns-in-Const-clause-step
returns-in-Const-clause-step c =
    let p = c.args.p.now in
    let i = c.args.i in
    let s = c.args.w.now.store.now in
    let a = c.index-alts-i.result in
    let so = must_read p.user_on p.choice i in
    let is = lent_entry p.alts c.as_slice-alts.result.now i a c.as_slice-alts.ensures c.index-alts-i.is in
    stepped_same c.args.w.now.vars.now (early_cut p.user p.user_on p.choice p.alts i) s c.args.before
    (λ live. ap (λ (o : Option ReadAlt). early_of p.user so o s.sets) (got_at p.alts i a c.requires.there is)
    ∙ ap (λ (t : At). at_cut (when_test so (is_in_time p.user a)) t s.sets) c.in-Const.is)

pub first_from-gap-requires-clause-vars : goal.first_from-gap-requires-clause-vars
first_from-gap-requires-clause-vars c =
    let p = c.args.p.now in
    let i = c.args.i in
    let a = c.index-alts-i.result in
    let is = lent_entry p.alts c.as_slice-alts.result.now i a c.as_slice-alts.ensures c.index-alts-i.is in
    subst (λ (us : List VarId). ReadAltVars us a) (sym c.requires.vars)
    (subst (λ (b : ReadAlt). ReadAltVars p.vars b) (sym is) (p.among.of_alts i a c.requires.there))

pub first_from-gap-requires-clause-known : goal.first_from-gap-requires-clause-known
first_from-gap-requires-clause-known c = subst (λ (us : List VarId). HasVars us c.args.w.now.store.now.sets) (sym c.requires.vars)
    c.requires.known

pub greatest_time-high-requires-clause-known : goal.greatest_time-high-requires-clause-known
greatest_time-high-requires-clause-known c = let p = c.args.p.now in known_of p.vars (at_vars p.user) c.args.w.now.store.now.sets
    p.among.of_user c.requires.known

pub keep_by-requires-clause-there : goal.keep_by-requires-clause-there
keep_by-requires-clause-there c =
    let p = c.args.p.now in
    let i = c.args.i in
    let a = c.index-alts-i.result in
    let is = lent_entry p.alts c.as_slice-alts.result.now i a c.as_slice-alts.ensures c.index-alts-i.is in
    let va = subst (λ (b : ReadAlt). ReadAltVars p.vars b) (sym is) (p.among.of_alts i a c.requires.there) in
    has_among p.vars c.in-Var.v c.args.w.now.store.now.sets (in_window p.vars c.in-Var.v a.at c.in-Var.is va.of_at) c.requires.known

pub keep_by-requires-clause-lent : goal.keep_by-requires-clause-lent
keep_by-requires-clause-lent c =
    let p = c.args.p.now in
    let i = c.args.i in
    let a = c.index-alts-i.result in
    let is = lent_entry p.alts c.as_slice-alts.result.now i a c.as_slice-alts.ensures c.index-alts-i.is in
    let va = subst (λ (b : ReadAlt). ReadAltVars p.vars b) (sym is) (p.among.of_alts i a c.requires.there) in
    subst (λ (us : List VarId). among us c.in-Var.v ≡ true) (sym c.requires.vars) (in_window p.vars c.in-Var.v a.at c.in-Var.is va.of_at)

pub keep_by-requires-clause-going : goal.keep_by-requires-clause-going
keep_by-requires-clause-going c = λ e. let h = rw e at c.if-eq.ensures in cc h

pub returns-in-Var-clause-step : goal.returns-in-Var-clause-step
returns-in-Var-clause-step c =
    let p = c.args.p.now in
    let i = c.args.i in
    let s = c.args.w.now.store.now in
    let v = c.in-Var.v in
    let a = c.index-alts-i.result in
    let so = must_read p.user_on p.choice i in
    let q = when_test so (is_in_time p.user a) in
    let gap = c.first_from-gap.result in
    let high = c.greatest_time-high.result in
    let is = lent_entry p.alts c.as_slice-alts.result.now i a c.as_slice-alts.ensures c.index-alts-i.is in
    let sure_one : so s.sets ≡ true = both (sure p.user_on s.sets) (is_only p.choice i s.sets)
    (sym c.is_sure.ensures ∙ c.if-not-is_sure.false) (sym c.is_only.ensures ∙ c.if-not-is_only.false) in
    stepped_by c.args.w.now.vars.now (early_cut p.user p.user_on p.choice p.alts i) (cut_by (ends_by gap high) v.0) s
    c.keep_by.new.w.store.now c.args.before c.keep_by.result
    (λ live. ap (λ (o : Option ReadAlt). early_of p.user so o s.sets) (got_at p.alts i a c.requires.there is)
    ∙ at_is q (ends_by gap high) a.at v s.sets c.in-Var.is
    (λ y. ap (λ (b : Bool). not b || is_in_time p.user a s.sets y) sure_one
    ∙ (in_time_is a.gaps (act_set a.on s.sets) gap (greatest (at_set p.user s.sets)) y c.first_from-gap.ensures
    ∙ ap (λ (n : ℕ). ends_by gap n y) (sym c.greatest_time-high.ensures))))
    c.keep_by.ensures.step
