use Rattle.std.proofs.Common.{List, true, ◌≡◌, ◌∙◌, nat_le, sym, subst, arith}
use Rattle.std.specs.List.{list_any}
use Rattle.un_base.specs.declared.ids.VarId.{VarId}
use Rattle.un_domains.specs.Sets.{set_at, cut_by}
use Rattle.un_prop.specs.Acts.{act_vars}
use Rattle.un_prop.specs.Among.{among, AllAmong}
use Rattle.un_prop.specs.AmongLaws.{has_among}
use Rattle.un_prop.specs.GoingLaws.{stepped_same, stepped_by}
use Rattle.un_prop.specs.Places.{idle_test, act_cut}
use Rattle.un_prop.specs.PlaceLaws.{act_same, act_is, idle_is, idle_not}
use Rattle.un_prop.specs.declared.act.Act.{Act}
use Rattle.un_prop.specs.declared.act.Act.TheVariants.{Var}
use Rattle.un_prop.proofs.place.keep_idle.Goals as goal

in_window : (vs : List VarId) (v : VarId) (on : Act) → on ≡ Var v → AllAmong vs (act_vars on) → among vs v ≡ true
in_window vs v on e all = subst (λ (a : Act). AllAmong vs (act_vars a)) e all 0 v (omega arith)

pub keep_le-requires-clause-there : goal.keep_le-requires-clause-there
keep_le-requires-clause-there g c =
    let vs = g.C.Predicate.scope c.args.c.now in
    has_among vs c.in-Var.v c.args.w.now.store.now.sets (in_window vs c.in-Var.v c.args.on c.in-Var.is c.requires.of_on) c.requires.known

pub keep_le-requires-clause-lent : goal.keep_le-requires-clause-lent
keep_le-requires-clause-lent g c = in_window c.args.w.now.vars.now c.in-Var.v c.args.on c.in-Var.is
    (subst (λ (us : List VarId). AllAmong us (act_vars c.args.on)) (sym c.requires.vars) c.requires.of_on)

pub returns-then-any_place-clause-step : goal.returns-then-any_place-clause-step
returns-then-any_place-clause-step g c =
    let vs = g.C.Predicate.scope c.args.c.now in
    let s = c.args.w.now.store.now in
    let can = g.C.Choice.can c.args.c.now in
    let v = c.args.choice in
    stepped_same c.args.w.now.vars.now (act_cut (idle_test v can) c.args.on) s c.args.before
    (λ live. act_same vs (idle_test v can) c.args.on s.sets c.requires.of_on c.requires.known live
    (λ y. idle_not (list_any (can s.sets) (set_at s.sets v.0)) y (sym c.any_place.ensures ∙ c.if-any_place.true)))

pub returns-else-any_place-clause-step : goal.returns-else-any_place-clause-step
returns-else-any_place-clause-step g c =
    let s = c.args.w.now.store.now in
    let can = g.C.Choice.can c.args.c.now in
    let v = c.args.choice in
    stepped_by c.args.w.now.vars.now (act_cut (idle_test v can) c.args.on) (cut_by (λ y. nat_le y 0) c.in-Var.v.0) s
    c.keep_le.new.w.store.now c.args.before c.keep_le.result
    (λ live. act_is (idle_test v can) (λ y. nat_le y 0) c.args.on c.in-Var.v s.sets c.in-Var.is
    (λ y. idle_is (list_any (can s.sets) (set_at s.sets v.0)) y (sym c.any_place.ensures ∙ c.if-any_place.false)))
    c.keep_le.ensures.step
