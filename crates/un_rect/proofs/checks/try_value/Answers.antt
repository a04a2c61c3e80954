use Rattle.std.proofs.Common.{ℕ, ◌≡◌, ◌∙◌, ◌||◌, Bool, true, false, not, nat_eq, set, refl, sym, ap, arith, List}
use Rattle.std.proofs.lemmas.Bool.Decides.{nat_tests}
use Rattle.un_domains.specs.Sets.{cut_by, has, set_at}
use Rattle.un_prop.specs.AmongLaws.{has_among}
use Rattle.un_prop.specs.LastLaws.{cut_all, cut_same, passes_tested, dropped_tested}
use Rattle.un_prop.specs.GoingLaws.{stepped_same, stepped_by}
use Rattle.un_rect.specs.Apart.{pair_holds}
use Rattle.un_rect.proofs.Going.{going}
use Rattle.un_rect.proofs.checks.try_value.Goals as goal

pub has-requires : goal.has-requires
has-requires c = has_among c.args.w.now.vars.now c.args.v c.args.w.now.store.now.sets c.requires.lent c.requires.known

-- a value that is there is none that is not
other_one : (xs : List ℕ) (y z : ℕ) → has xs y ≡ false → has xs z ≡ true → (b : Bool) → nat_eq z y ≡ b → not b ≡ true
other_one xs y z gone there false e = refl
other_one xs y z gone there true e = absurd (let is : z ≡ y = grind (arith, nat_tests, e) in
    let bad : true ≡ false = sym there ∙ (ap (has xs) is ∙ gone) in cc bad)

pub returns-then-not-has-clause-step : goal.returns-then-not-has-clause-step
returns-then-not-has-clause-step c =
    let vs = c.args.w.now.vars.now in
    let s = c.args.w.now.store.now in
    let v = c.args.v in
    let y = c.args.y in
    let t = pair_holds c.args.a.now c.args.b.now (set c.args.fixed.now v.0 y) in
    let q = λ (z : ℕ). not (nat_eq z y) || t in
    stepped_same vs (cut_by q v.0) s c.args.before
    (λ live. cut_all q v.0 s.sets (has_among vs v s.sets c.requires.lent c.requires.known) live
    (λ z there. ap (λ (b : Bool). b || t) (other_one (set_at s.sets v.0) y z (sym c.has.ensures ∙ c.if-not-has.true) there (nat_eq z y) refl)))

pub bounds-fixed-v : goal.bounds-fixed-v
bounds-fixed-v c =
    let within = has_among c.args.w.now.vars.now c.args.v c.args.w.now.store.now.sets c.requires.lent c.requires.known in
    omega (arith, within, c.requires.room)

pub returns-then-are_apart-clause-step : goal.returns-then-are_apart-clause-step
returns-then-are_apart-clause-step c =
    let vs = c.args.w.now.vars.now in
    let s = c.args.w.now.store.now in
    let v = c.args.v in
    let t = pair_holds c.args.a.now c.args.b.now (set c.args.fixed.now v.0 c.args.y) in
    let q = λ (z : ℕ). not (nat_eq z c.args.y) || t in
    stepped_same vs (cut_by q v.0) s c.args.before
    (λ live. cut_all q v.0 s.sets (has_among vs v s.sets c.requires.lent c.requires.known) live
    (λ z there. passes_tested (not (nat_eq z c.args.y)) t (sym c.are_apart.ensures ∙ c.if-are_apart.true)))

pub drop_value-requires-clause-there : goal.drop_value-requires-clause-there
drop_value-requires-clause-there c = has_among c.args.w.now.vars.now c.args.v c.args.w.now.store.now.sets c.requires.lent c.requires.known

pub drop_value-requires-clause-some : goal.drop_value-requires-clause-some
drop_value-requires-clause-some c = c.requires.live (going c.args.before c.if-eq.ensures) c.args.v.0
    (has_among c.args.w.now.vars.now c.args.v c.args.w.now.store.now.sets c.requires.lent c.requires.known)

pub returns-clause-step : goal.returns-clause-step
returns-clause-step c =
    let s = c.args.w.now.store.now in
    let v = c.args.v in
    let t = pair_holds c.args.a.now c.args.b.now (set c.args.fixed.now v.0 c.args.y) in
    let q = λ (z : ℕ). not (nat_eq z c.args.y) in
    stepped_by c.args.w.now.vars.now (cut_by (λ z. not (nat_eq z c.args.y) || t) v.0) (cut_by q v.0) s c.drop_value.new.w.store.now
    c.args.before c.drop_value.result
    (λ live. cut_same (λ z. not (nat_eq z c.args.y) || t) q v.0 s.sets
    (λ z there. dropped_tested (not (nat_eq z c.args.y)) t (sym c.are_apart.ensures ∙ c.if-are_apart.false)))
    c.drop_value.ensures.step

pub drop_value-requires-clause-lent : goal.drop_value-requires-clause-lent
drop_value-requires-clause-lent c = c.requires.lent

pub drop_value-requires-clause-going : goal.drop_value-requires-clause-going
drop_value-requires-clause-going c = going c.args.before c.if-eq.ensures
