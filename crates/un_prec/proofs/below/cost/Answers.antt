use Rattle.std.proofs.Common.{ℕ, zero, suc, List, [], ◌∷◌, ◌≡◌, ◌≤◌, ◌+◌, ◌-◌, ◌^◌, min, drop, length, refl, arith, subst}
use Rattle.un_prec.specs.declared.below.Weighted.{Weighted}
use Rattle.un_prec.specs.Below.{cost_at}
use Rattle.un_prec.proofs.below.cost.Goals as goal

drop_all : (es : List Weighted) (i : ℕ) → length es ≤ i → drop i es ≡ []
drop_all [] zero le = refl
drop_all [] (suc i) le = refl
drop_all (e ∷ es) zero le = absurd (omega (arith, le))
drop_all (e ∷ es) (suc i) le = drop_all es i (omega (arith, le))

pub returns : goal.returns
returns c =
    let es = c.args.ends.now in
    let x = c.args.fixed.now in
    let none = drop_all es c.loop-e.e-index (omega (arith, c.loop-e-test.false)) in
    let end : min (c.loop-e.total + 0) (2 ^ 64 - 1) ≡ min (cost_at es x) (2 ^ 64 - 1) =
    subst (λ (us : List Weighted). min (c.loop-e.total + cost_at us x) (2 ^ 64 - 1) ≡ min (cost_at es x) (2 ^ 64 - 1)) none
    c.loop-e.invariant.so_far in
    omega (arith, end, c.loop-e.invariant.small)
