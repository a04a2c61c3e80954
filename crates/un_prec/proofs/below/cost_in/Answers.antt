use Rattle.std.proofs.Common.{ℕ, zero, suc, List, [], ◌∷◌, ◌≡◌, ◌≤◌, ◌+◌, ◌-◌, ◌^◌, min, drop, length, refl, arith, subst}
use Rattle.un_prec.specs.declared.below.Weighted.{Weighted}
use Rattle.un_prec.specs.Below.{least_cost}
use Rattle.un_prop.specs.AmongLaws.{has_among}
use Rattle.un_prec.proofs.below.cost_in.Goals as goal

drop_all : (es : List Weighted) (i : ℕ) → length es ≤ i → drop i es ≡ []
drop_all [] zero le = refl
drop_all [] (suc i) le = refl
drop_all (e ∷ es) zero le = absurd (omega (arith, le))
drop_all (e ∷ es) (suc i) le = drop_all es i (omega (arith, le))

pub min-requires-clause-there : goal.min-requires-clause-there
min-requires-clause-there c = has_among c.args.w.now.vars.now _ c.args.w.now.store.now.sets
    (c.requires.vars c.loop-e.e-index (record { end = record { 0 = 0 }; freq = 0 }) c.loop-e-test.true) c.requires.known

pub min-requires-clause-some : goal.min-requires-clause-some
min-requires-clause-some c = c.requires.live _ (has_among c.args.w.now.vars.now _ c.args.w.now.store.now.sets
    (c.requires.vars c.loop-e.e-index (record { end = record { 0 = 0 }; freq = 0 }) c.loop-e-test.true) c.requires.known)

pub returns : goal.returns
returns c =
    let es = c.args.ends.now in
    let s = c.args.w.now.store.now.sets in
    let none = drop_all es c.loop-e.e-index (omega (arith, c.loop-e-test.false)) in
    let end : min (c.loop-e.total + 0) (2 ^ 64 - 1) ≡ min (least_cost es s) (2 ^ 64 - 1) =
    subst (λ (us : List Weighted). min (c.loop-e.total + least_cost us s) (2 ^ 64 - 1) ≡ min (least_cost es s) (2 ^ 64 - 1)) none
    c.loop-e.invariant.so_far in
    omega (arith, end, c.loop-e.invariant.small)
