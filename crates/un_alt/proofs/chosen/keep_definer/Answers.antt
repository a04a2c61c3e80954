use Rattle.std.proofs.Common.{ℕ, List, Bool, true, false, ◌≡◌, ◌∙◌, not, ◌&&◌, ◌||◌, get_or, nat_eq, refl, sym}
use Rattle.std.proofs.Common.{ap, subst, arith}
use Rattle.un_base.specs.declared.ids.VarId.{VarId}
use Rattle.un_domains.specs.Sets.{cut_by}
use Rattle.un_prop.specs.Acts.{act_vars}
use Rattle.un_prop.specs.Among.{among, AllAmong}
use Rattle.un_prop.specs.AmongLaws.{has_among}
use Rattle.un_prop.specs.GoingLaws.{stepped_same, stepped_by}
use Rattle.un_prop.specs.LookLaws.{known_of}
use Rattle.un_prop.specs.Looks.{sure}
use Rattle.un_prop.specs.PlaceLaws.{act_same, act_is}
use Rattle.un_prop.specs.Places.{act_cut}
use Rattle.un_prop.specs.When.{is_only, when_test, other_than}
use Rattle.un_prop.specs.declared.act.Act.{Act}
use Rattle.un_prop.specs.declared.act.Act.TheVariants.{Always, Var}
use Rattle.un_alt.specs.Chosen.{must_choose, definer_cut}
use Rattle.un_alt.proofs.Orders.{going}
use Rattle.un_alt.proofs.chosen.keep_definer.Goals as goal

pub is_sure-requires : goal.is_sure-requires
is_sure-requires c = let p = c.args.p.now in known_of p.vars (act_vars p.user) c.args.w.now.store.now.sets p.among.of_user c.requires.known

pub is_only-requires-clause-there : goal.is_only-requires-clause-there
is_only-requires-clause-there c = let p = c.args.p.now in has_among p.vars p.choice c.args.w.now.store.now.sets p.among.of_choice
    c.requires.known

-- the test where the user may be inactive, where another place is left, and where neither is so
unsure : (b c d : Bool) → b ≡ false → (not (b && c) || d) ≡ true
unsure true c d e = absurd (cc e)
unsure false c d e = refl

others : (b c d : Bool) → c ≡ false → (not (b && c) || d) ≡ true
others true true d e = absurd (cc e)
others true false d e = refl
others false c d e = refl

must : (b c d : Bool) → b ≡ true → c ≡ true → (not (b && c) || d) ≡ d
must true true d e f = refl
must true false d e f = absurd (cc f)
must false c d e f = absurd (cc e)

pub returns-then-not-is_sure-clause-step : goal.returns-then-not-is_sure-clause-step
returns-then-not-is_sure-clause-step c =
    let p = c.args.p.now in
    let i = c.args.i in
    let s = c.args.w.now.store.now in
    let q = when_test (must_choose p.user p.choice i) (other_than 0) in
    stepped_same c.args.w.now.vars.now (definer_cut p.user p.choice p.alts i) s c.args.before
    (λ live. act_same p.vars q (get_or p.alts i Always) s.sets (p.among.of_alts i Always c.requires.there) c.requires.known live
    (λ y. unsure (sure p.user s.sets) (is_only p.choice i s.sets) (not (nat_eq y 0)) (sym c.is_sure.ensures ∙ c.if-not-is_sure.true)))

pub returns-then-not-is_only-clause-step : goal.returns-then-not-is_only-clause-step
returns-then-not-is_only-clause-step c =
    let p = c.args.p.now in
    let i = c.args.i in
    let s = c.args.w.now.store.now in
    let q = when_test (must_choose p.user p.choice i) (other_than 0) in
    stepped_same c.args.w.now.vars.now (definer_cut p.user p.choice p.alts i) s c.args.before
    (λ live. act_same p.vars q (get_or p.alts i Always) s.sets (p.among.of_alts i Always c.requires.there) c.requires.known live
    (λ y. others (sure p.user s.sets) (is_only p.choice i s.sets) (not (nat_eq y 0)) (sym c.is_only.ensures ∙ c.if-not-is_only.true)))

-- the definer in the list that is lent
lent_is : (alts lent : List Act) (i : ℕ) (a : Act) → lent ≡ alts → get_or lent i Always ≡ a → get_or alts i Always ≡ a
lent_is alts lent i a e is = sym (ap (λ (xs : List Act). get_or xs i Always) e) ∙ is

in_window : (vs : List VarId) (v : VarId) (a : Act) → a ≡ Var v → AllAmong vs (act_vars a) → among vs v ≡ true
in_window vs v a e all = subst (λ (b : Act). AllAmong vs (act_vars b)) e all 0 v (omega arith)

pub returns-in-Always-clause-step : goal.returns-in-Always-clause-step
returns-in-Always-clause-step c =
    let p = c.args.p.now in
    let i = c.args.i in
    let s = c.args.w.now.store.now in
    let q = when_test (must_choose p.user p.choice i) (other_than 0) in
    stepped_same c.args.w.now.vars.now (definer_cut p.user p.choice p.alts i) s c.args.before
    (λ live. ap (λ (a : Act). act_cut q a s.sets) (lent_is p.alts c.as_slice.result.now i Always c.as_slice.ensures c.in-Always.is))

pub drop_value-requires-clause-there : goal.drop_value-requires-clause-there
drop_value-requires-clause-there c =
    let p = c.args.p.now in
    let i = c.args.i in
    has_among p.vars c.in-Var.v c.args.w.now.store.now.sets
    (in_window p.vars c.in-Var.v (get_or p.alts i Always)
    (lent_is p.alts c.as_slice.result.now i (Var c.in-Var.v) c.as_slice.ensures c.in-Var.is) (p.among.of_alts i Always c.requires.there))
    c.requires.known

pub drop_value-requires-clause-some : goal.drop_value-requires-clause-some
drop_value-requires-clause-some c =
    let p = c.args.p.now in
    let i = c.args.i in
    c.requires.live (going c.args.before c.if-eq.ensures) c.in-Var.v.0
    (has_among p.vars c.in-Var.v c.args.w.now.store.now.sets
    (in_window p.vars c.in-Var.v (get_or p.alts i Always)
    (lent_is p.alts c.as_slice.result.now i (Var c.in-Var.v) c.as_slice.ensures c.in-Var.is) (p.among.of_alts i Always c.requires.there))
    c.requires.known)

pub drop_value-requires-clause-lent : goal.drop_value-requires-clause-lent
drop_value-requires-clause-lent c =
    let p = c.args.p.now in
    let i = c.args.i in
    subst (λ (us : List VarId). among us c.in-Var.v ≡ true) (sym c.requires.vars)
    (in_window p.vars c.in-Var.v (get_or p.alts i Always)
    (lent_is p.alts c.as_slice.result.now i (Var c.in-Var.v) c.as_slice.ensures c.in-Var.is) (p.among.of_alts i Always c.requires.there))

pub returns-in-Var-clause-step : goal.returns-in-Var-clause-step
returns-in-Var-clause-step c =
    let p = c.args.p.now in
    let i = c.args.i in
    let s = c.args.w.now.store.now in
    let v = c.in-Var.v in
    let q = when_test (must_choose p.user p.choice i) (other_than 0) in
    stepped_by c.args.w.now.vars.now (definer_cut p.user p.choice p.alts i) (cut_by (λ y. not (nat_eq y 0)) v.0) s
    c.drop_value.new.w.store.now c.args.before c.drop_value.result
    (λ live. act_is q (λ y. not (nat_eq y 0)) (get_or p.alts i Always) v s.sets
    (lent_is p.alts c.as_slice.result.now i (Var v) c.as_slice.ensures c.in-Var.is)
    (λ y. must (sure p.user s.sets) (is_only p.choice i s.sets) (not (nat_eq y 0)) (sym c.is_sure.ensures ∙ c.if-not-is_sure.false)
    (sym c.is_only.ensures ∙ c.if-not-is_only.false)))
    c.drop_value.ensures.step
