use Rattle.std.proofs.Common.{ℕ, List, Bool, true, false, ◌≡◌, ◌∙◌, ◌||◌, not, nat_eq, refl, sym, ap, arith}
use Rattle.std.proofs.lemmas.Bool.Decides.{nat_tests}
use Rattle.un_domains.specs.Sets.{cut_by, has, set_at}
use Rattle.un_prop.specs.Acts.{act_vars}
use Rattle.un_prop.specs.AmongLaws.{has_among}
use Rattle.un_prop.specs.Looks.{sure}
use Rattle.un_prop.specs.LookLaws.{known_of}
use Rattle.un_prop.specs.LastLaws.{cut_all, cut_same}
use Rattle.un_prop.specs.GoingLaws.{stepped_same, stepped_by}
use Rattle.un_prop.specs.Places.{place_test, place_cut}
use Rattle.un_prop.specs.PlaceLaws.{place_unsure, place_can, place_goes}
use Rattle.un_prop.proofs.place.keep_place.Goals as goal

pub has-requires : goal.has-requires
has-requires g c = has_among (g.C.Predicate.scope c.args.c.now) c.args.choice c.args.w.now.store.now.sets c.requires.of_choice
    c.requires.known

-- a value that is there is none that is not
other_one : (xs : List ℕ) (y z : ℕ) → has xs y ≡ false → has xs z ≡ true → (b : Bool) → nat_eq z y ≡ b → not b ≡ true
other_one xs y z gone there false e = refl
other_one xs y z gone there true e = absurd (let is : z ≡ y = grind (arith, nat_tests, e) in
    let bad : true ≡ false = sym there ∙ (ap (has xs) is ∙ gone) in cc bad)

pub returns-then-not-has-clause-step : goal.returns-then-not-has-clause-step
returns-then-not-has-clause-step g c =
    let s = c.args.w.now.store.now in
    let can = g.C.Choice.can c.args.c.now in
    let v = c.args.choice in
    let i = c.args.i in
    let within = has_among (g.C.Predicate.scope c.args.c.now) v s.sets c.requires.of_choice c.requires.known in
    stepped_same c.args.w.now.vars.now (place_cut c.args.on v can i) s c.args.before
    (λ live. cut_all (place_test c.args.on can i s.sets) v.0 s.sets within live
    (λ y there. ap (λ (b : Bool). b || (not (sure c.args.on s.sets) || can s.sets i))
    (other_one (set_at s.sets v.0) i y (sym c.has.ensures ∙ c.if-not-has.true) there (nat_eq y i) refl)))

pub is_sure-requires : goal.is_sure-requires
is_sure-requires g c = known_of (g.C.Predicate.scope c.args.c.now) (act_vars c.args.on) c.args.w.now.store.now.sets c.requires.of_on
    c.requires.known

pub returns-then-not-is_sure-clause-step : goal.returns-then-not-is_sure-clause-step
returns-then-not-is_sure-clause-step g c =
    let s = c.args.w.now.store.now in
    let can = g.C.Choice.can c.args.c.now in
    let v = c.args.choice in
    let within = has_among (g.C.Predicate.scope c.args.c.now) v s.sets c.requires.of_choice c.requires.known in
    stepped_same c.args.w.now.vars.now (place_cut c.args.on v can c.args.i) s c.args.before
    (λ live. cut_all (place_test c.args.on can c.args.i s.sets) v.0 s.sets within live
    (λ y there. place_unsure (nat_eq y c.args.i) (sure c.args.on s.sets) (can s.sets c.args.i)
    (sym c.is_sure.ensures ∙ c.if-not-is_sure.true)))

pub returns-then-can_choose-clause-step : goal.returns-then-can_choose-clause-step
returns-then-can_choose-clause-step g c =
    let s = c.args.w.now.store.now in
    let can = g.C.Choice.can c.args.c.now in
    let v = c.args.choice in
    let within = has_among (g.C.Predicate.scope c.args.c.now) v s.sets c.requires.of_choice c.requires.known in
    stepped_same c.args.w.now.vars.now (place_cut c.args.on v can c.args.i) s c.args.before
    (λ live. cut_all (place_test c.args.on can c.args.i s.sets) v.0 s.sets within live
    (λ y there. place_can (nat_eq y c.args.i) (sure c.args.on s.sets) (can s.sets c.args.i)
    (sym c.can_choose.ensures ∙ c.if-can_choose.true)))

pub drop_value-requires-clause-there : goal.drop_value-requires-clause-there
drop_value-requires-clause-there g c = has_among (g.C.Predicate.scope c.args.c.now) c.args.choice c.args.w.now.store.now.sets
    c.requires.of_choice c.requires.known

pub drop_value-requires-clause-some : goal.drop_value-requires-clause-some
drop_value-requires-clause-some g c = c.requires.live (λ e. let h = rw e at c.if-eq.ensures in cc h) c.args.choice.0
    (has_among (g.C.Predicate.scope c.args.c.now) c.args.choice c.args.w.now.store.now.sets c.requires.of_choice c.requires.known)

pub returns-clause-step : goal.returns-clause-step
returns-clause-step g c =
    let s = c.args.w.now.store.now in
    let can = g.C.Choice.can c.args.c.now in
    let v = c.args.choice in
    let i = c.args.i in
    stepped_by c.args.w.now.vars.now (place_cut c.args.on v can i) (cut_by (λ y. not (nat_eq y i)) v.0) s c.drop_value.new.w.store.now
    c.args.before c.drop_value.result
    (λ live. cut_same (place_test c.args.on can i s.sets) (λ y. not (nat_eq y i)) v.0 s.sets
    (λ y there. place_goes (nat_eq y i) (sure c.args.on s.sets) (can s.sets i) (sym c.is_sure.ensures ∙ c.if-not-is_sure.false)
    (sym c.can_choose.ensures ∙ c.if-can_choose.false)))
    c.drop_value.ensures.step
