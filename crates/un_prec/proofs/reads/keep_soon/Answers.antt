use Rattle.std.proofs.Common.{ℕ, List, Bool, true, ◌≡◌, ◌^◌, ◌||◌, ◌∙◌, All, nat_lt, nat_le, sym, ap, subst, arith}
use Rattle.un_base.specs.declared.ids.VarId.{VarId}
use Rattle.un_domains.specs.Sets.{Sets, cut_by}
use Rattle.un_prop.specs.Acts.{act_vars, at_vars}
use Rattle.un_prop.specs.Among.{among, AllAmong}
use Rattle.un_prop.specs.AmongLaws.{has_among}
use Rattle.un_prop.specs.Looks.{sure}
use Rattle.un_prop.specs.LookLaws.{known_of}
use Rattle.un_prop.specs.GoingLaws.{stepped_same, stepped_by}
use Rattle.un_prop.specs.Somewhere.{is_by}
use Rattle.un_prop.specs.declared.act.At.{At}
use Rattle.un_prop.specs.declared.act.At.TheVariants.{Var}
use Rattle.un_prec.specs.Links.{at_cut}
use Rattle.un_prec.specs.LinkLaws.{at_same, at_is, not_sure, is_sure_or}
use Rattle.un_prec.specs.declared.reads.ReadAlt.{ReadAlt}
use Rattle.un_prec.specs.Reads.{may_read, soon_test, ReadAltVars}
use Rattle.un_prec.proofs.reads.keep_soon.Goals as goal

pub is_sure-requires : goal.is_sure-requires
is_sure-requires c = let p = c.args.reads.now in known_of p.vars (act_vars p.user_on) c.args.w.now.store.now.sets p.among.of_on
    c.requires.known

pub returns-then-not-is_sure-clause-step : goal.returns-then-not-is_sure-clause-step
returns-then-not-is_sure-clause-step c =
    let p = c.args.reads.now in
    let s = c.args.w.now.store.now in
    let q = soon_test p.user_on p.choice p.alts in
    stepped_same c.args.w.now.vars.now (at_cut q p.user) s c.args.before
    (λ live. at_same p.vars q p.user s.sets p.among.of_user c.requires.known live
    (λ y. not_sure (sure p.user_on s.sets) (nat_le (2 ^ 32) y || may_read p.choice p.alts s.sets y)
    (sym c.is_sure.ensures ∙ c.if-not-is_sure.true)))

pub first_read-first-requires-clause-choice : goal.first_read-first-requires-clause-choice
first_read-first-requires-clause-choice c = let p = c.args.reads.now in subst (λ (us : List VarId). among us p.choice ≡ true)
    (sym c.requires.vars) p.among.of_choice

pub first_read-first-requires-clause-vars : goal.first_read-first-requires-clause-vars
first_read-first-requires-clause-vars c =
    let p = c.args.reads.now in
    subst (λ (alts : List ReadAlt). All (ReadAltVars c.args.w.now.vars.now) alts) (sym c.as_slice.ensures)
    (subst (λ (us : List VarId). All (ReadAltVars us) p.alts) (sym c.requires.vars) p.among.of_alts)

in_window : (vs : List VarId) (v : VarId) (at : At) → at ≡ Var v → AllAmong vs (at_vars at) → among vs v ≡ true
in_window vs v at e all = subst (λ (a : At). AllAmong vs (at_vars a)) e all 0 v (omega arith)

pub keep_gt-requires-clause-there : goal.keep_gt-requires-clause-there
keep_gt-requires-clause-there c =
    let p = c.args.reads.now in
    has_among p.vars c.in-Var.v c.args.w.now.store.now.sets (in_window p.vars c.in-Var.v p.user c.in-Var.is p.among.of_user)
    c.requires.known

pub keep_gt-requires-clause-lent : goal.keep_gt-requires-clause-lent
keep_gt-requires-clause-lent c =
    let p = c.args.reads.now in
    subst (λ (us : List VarId). among us c.in-Var.v ≡ true) (sym c.requires.vars)
    (in_window p.vars c.in-Var.v p.user c.in-Var.is p.among.of_user)

-- what the first time says of each time
by_first : (choice : VarId) (alts lent : List ReadAlt) (s : Sets) (first : Bool) (y : ℕ) → lent ≡ alts → first ≡ may_read choice lent s y
    → (nat_le (2 ^ 32) y || may_read choice alts s y) ≡ (nat_le (2 ^ 32) y || first)
by_first choice alts lent s first y e h = ap (λ (b : Bool). nat_le (2 ^ 32) y || b) (sym (h ∙ ap (λ as'. may_read choice as' s y) e))

pub returns-in-None-clause-step : goal.returns-in-None-clause-step
returns-in-None-clause-step c =
    let p = c.args.reads.now in
    let s = c.args.w.now.store.now in
    let q = soon_test p.user_on p.choice p.alts in
    stepped_same c.args.w.now.vars.now (at_cut q p.user) s c.args.before
    (λ live. at_same p.vars q p.user s.sets p.among.of_user c.requires.known live
    (λ y. is_sure_or (sure p.user_on s.sets) (nat_le (2 ^ 32) y || may_read p.choice p.alts s.sets y)
    (sym c.is_sure.ensures ∙ c.if-not-is_sure.false)
    ∙ (by_first p.choice p.alts c.as_slice.result.now s.sets (is_by c.first_read-first.result y) y c.as_slice.ensures
    (c.first_read-first.ensures y) ∙ c.in-None.ensures y)))

pub returns-in-Some-clause-step : goal.returns-in-Some-clause-step
returns-in-Some-clause-step c =
    let p = c.args.reads.now in
    let s = c.args.w.now.store.now in
    let q = soon_test p.user_on p.choice p.alts in
    let b = c.in-Some.b in
    stepped_by c.args.w.now.vars.now (at_cut q p.user) (cut_by (λ y. nat_lt b y) c.in-Var.v.0) s c.keep_gt.new.w.store.now
    c.args.before c.keep_gt.result
    (λ live. at_is q (λ y. nat_lt b y) p.user c.in-Var.v s.sets c.in-Var.is
    (λ y. is_sure_or (sure p.user_on s.sets) (nat_le (2 ^ 32) y || may_read p.choice p.alts s.sets y)
    (sym c.is_sure.ensures ∙ c.if-not-is_sure.false)
    ∙ (by_first p.choice p.alts c.as_slice.result.now s.sets (is_by c.first_read-first.result y) y c.as_slice.ensures
    (c.first_read-first.ensures y) ∙ c.in-Some.ensures y)))
    c.keep_gt.ensures.step
