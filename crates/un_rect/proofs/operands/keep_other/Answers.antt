use Rattle.std.proofs.Common.{ℕ, ◌≡◌, ◌||◌, ◌∙◌, Bool, true, false, List, not, nat_eq, sym, ap, refl, arith}
use Rattle.std.proofs.lemmas.Bool.Decides.{nat_tests}
use Rattle.un_domains.specs.Sets.{set_at, has, cut_by}
use Rattle.un_prop.specs.AmongLaws.{has_among}
use Rattle.un_prop.specs.LastLaws.{cut_all, cut_same, passes_tested, dropped_tested}
use Rattle.un_prop.specs.GoingLaws.{stepped_same, stepped_by}
use Rattle.un_rect.specs.Operands.{may_avoid, other_test, other_cut}
use Rattle.un_rect.specs.Sides.{side_of}
use Rattle.un_rect.proofs.Going.{going}
use Rattle.un_rect.proofs.operands.keep_other.Goals as goal

pub has-requires : goal.has-requires
has-requires c = has_among c.args.w.now.vars.now c.args.v c.args.w.now.store.now.sets c.requires.lent c.requires.known

-- a value that is there is not one that is not
absent : (xs : List ℕ) (y r : ℕ) (d : Bool) → has xs y ≡ true → has xs r ≡ false → (not (nat_eq y r) || d) ≡ true
absent xs y r d there none = by (nat_eq y r) refl
  where
    by : (e : Bool) → nat_eq y r ≡ e → (not e || d) ≡ true
    by false e = refl
    by true e = absurd (
        let same : y ≡ r = grind (arith, nat_tests, e) in
        let two : true ≡ false = sym there ∙ (ap (has xs) same ∙ none) in
        cc two)

pub returns-then-not-has-clause-step : goal.returns-then-not-has-clause-step
returns-then-not-has-clause-step c =
    let w = c.args.w.now in
    let s = w.store.now in
    let b = side_of c.args.other.now in
    let v = c.args.v in
    let r = c.args.r in
    let within = has_among w.vars.now v s.sets c.requires.lent c.requires.known in
    stepped_same w.vars.now (other_cut b v r) s c.args.before
    (λ live. cut_all (other_test b r s.sets) v.0 s.sets within live
    (λ y there. absent (set_at s.sets v.0) y r (may_avoid b s.sets r) there (sym c.has.ensures ∙ c.if-not-has.true)))

pub returns-then-may_avoid-clause-step : goal.returns-then-may_avoid-clause-step
returns-then-may_avoid-clause-step c =
    let w = c.args.w.now in
    let s = w.store.now in
    let b = side_of c.args.other.now in
    let v = c.args.v in
    let r = c.args.r in
    let within = has_among w.vars.now v s.sets c.requires.lent c.requires.known in
    stepped_same w.vars.now (other_cut b v r) s c.args.before
    (λ live. cut_all (other_test b r s.sets) v.0 s.sets within live
    (λ y there. passes_tested (not (nat_eq y r)) (may_avoid b s.sets r) (sym c.may_avoid.ensures ∙ c.if-may_avoid.true)))

pub returns-clause-step : goal.returns-clause-step
returns-clause-step c =
    let w = c.args.w.now in
    let s = w.store.now in
    let b = side_of c.args.other.now in
    let v = c.args.v in
    let r = c.args.r in
    stepped_by w.vars.now (other_cut b v r) (cut_by (λ y. not (nat_eq y r)) v.0) s c.drop_value.new.w.store.now c.args.before
    c.drop_value.result
    (λ live. cut_same (other_test b r s.sets) (λ y. not (nat_eq y r)) v.0 s.sets
    (λ y there. dropped_tested (not (nat_eq y r)) (may_avoid b s.sets r) (sym c.may_avoid.ensures ∙ c.if-may_avoid.false)))
    c.drop_value.ensures.step

pub may_avoid-requires-clause-vars : goal.may_avoid-requires-clause-vars
may_avoid-requires-clause-vars c = c.requires.vars

pub may_avoid-requires-clause-known : goal.may_avoid-requires-clause-known
may_avoid-requires-clause-known c = c.requires.known

pub may_avoid-requires-clause-live : goal.may_avoid-requires-clause-live
may_avoid-requires-clause-live c = c.requires.live (going c.args.before c.if-eq.ensures)

pub drop_value-requires-clause-there : goal.drop_value-requires-clause-there
drop_value-requires-clause-there c = has_among c.args.w.now.vars.now c.args.v c.args.w.now.store.now.sets c.requires.lent c.requires.known

pub drop_value-requires-clause-some : goal.drop_value-requires-clause-some
drop_value-requires-clause-some c = c.requires.live (going c.args.before c.if-eq.ensures) c.args.v.0
    (has_among c.args.w.now.vars.now c.args.v c.args.w.now.store.now.sets c.requires.lent c.requires.known)

pub drop_value-requires-clause-lent : goal.drop_value-requires-clause-lent
drop_value-requires-clause-lent c = c.requires.lent

pub drop_value-requires-clause-going : goal.drop_value-requires-clause-going
drop_value-requires-clause-going c = going c.args.before c.if-eq.ensures
