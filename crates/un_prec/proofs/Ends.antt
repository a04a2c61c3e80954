-- What the limit leaves an end, as the code has it.
use Rattle.std.proofs.Common.{ℕ, ◌≡◌, ◌≢◌, ◌<◌, ◌≤◌, ◌+◌, ◌-◌, ◌*◌, ◌/◌, ◌∙◌, Bool, true, false, List, [], ◌∷◌, length, max}
use Rattle.std.proofs.Common.{filter, nat_lt, nat_le}
use Rattle.std.proofs.Common.{None, option_and_then, refl, sym, ap, subst, arith, inl, inr, ◌&&◌, ◌⊎◌}
use Rattle.std.proofs.lemmas.Bool.Decides.{nat_tests}
use Rattle.std.proofs.lemmas.List.{get_or-set_same, get_or-set_other}
use Rattle.std.proofs.Math.Nat.{le-div_iff_mul-le}
use Rattle.un_base.specs.declared.ids.VarId.{VarId}
use Rattle.un_domains.specs.Sets.{Sets, set_at, has, least, kept, cut_by}
use Rattle.un_domains.specs.SetLaws.{least-le, has-filter, same_or_not}
use Rattle.un_domains.specs.OrderLaws.{le_least, same_test, and_true}
use Rattle.un_prop.specs.ChainLaws.{least_in}
use Rattle.un_prop.specs.Failing.{fail_cut}
use Rattle.un_prop.specs.Rounds.{round}
use Rattle.un_prec.specs.declared.below.Weighted.{Weighted}
use Rattle.un_prec.specs.Below.{cost_of, least_cost, end_cut, BelowVars}

-- an end whose block is never run keeps all
pub free_end : (f low y cost room limit : ℕ) → f ≡ 0 → cost + room + 1 ≡ limit → nat_lt (cost + f * (y - 1 - (low - 1))) limit ≡ true
free_end f low y cost room limit none is =
    let e = ap (λ (n : ℕ). n * (y - 1 - (low - 1))) none in
    let zero : 0 * (y - 1 - (low - 1)) ≡ 0 = omega arith in
    let less : cost + f * (y - 1 - (low - 1)) < limit = omega (arith, e, zero, is) in
    grind (arith, nat_tests, less)

-- the last cycle that is left
pub last_end : (f low y cost room limit high : ℕ) → f ≢ 0 → cost + room + 1 ≡ limit → high ≡ max low 1 + room / f
    → nat_lt (cost + f * (y - 1 - (low - 1))) limit ≡ nat_le y high
last_end f low y cost room limit high some is high_is = same_test (nat_lt (cost + f * d) limit) (nat_le y high) forth back
  where
    d : ℕ
    d = y - 1 - (low - 1)

    pos : 0 < f
    pos = omega (arith, some)

    forth : nat_lt (cost + f * (y - 1 - (low - 1))) limit ≡ true → nat_le y high ≡ true
    forth h =
        let less : cost + f * (y - 1 - (low - 1)) < limit = grind (arith, nat_tests, h) in
        let fits : (y - 1 - (low - 1)) * f ≤ room = omega (arith, less, is) in
        let few = (le-div_iff_mul-le pos).1 fits in
        let le : y ≤ high = omega (arith, few, high_is) in
        grind (arith, nat_tests, le)

    back : nat_le y high ≡ true → nat_lt (cost + f * (y - 1 - (low - 1))) limit ≡ true
    back h =
        let le : y ≤ high = grind (arith, nat_tests, h) in
        let few : y - 1 - (low - 1) ≤ room / f = omega (arith, le, high_is) in
        let fits = (le-div_iff_mul-le pos).0 few in
        let less : cost + f * (y - 1 - (low - 1)) < limit = omega (arith, fits, is) in
        grind (arith, nat_tests, less)

some_of : (xs : List ℕ) (y : ℕ) → has xs y ≡ true → 0 < length xs
some_of [] y h = absurd (cc h)
some_of (x ∷ xs) y h = omega arith

-- where the least value passes, it stays the least
pub least_passes : (p : ℕ → Bool) (xs : List ℕ) → 0 < length xs → p (least xs) ≡ true → least (filter p xs) ≡ least xs
least_passes p xs some pass =
    let there : has (filter p xs) (least xs) ≡ true = has-filter p (least xs) xs ∙ (ap (λ (b : Bool). b && has xs (least xs)) pass
    ∙ least_in xs some) in
    let up = le_least (least xs) (filter p xs) (some_of (filter p xs) (least xs) there)
    (λ y h. least-le xs y ((and_true (p y) (has xs y) (sym (has-filter p y xs) ∙ h)).1)) in
    let down = least-le (filter p xs) (least xs) there in
    omega (arith, up, down)

cost_same : (es : List Weighted) (f g : VarId → ℕ) → ((v : VarId) → f v ≡ g v) → cost_of es f ≡ cost_of es g
cost_same [] f g h = refl
cost_same (e ∷ es) f g h = ap (λ (n : ℕ). e.freq * (n - 1) + cost_of es f) (h e.end)
    ∙ ap (λ (n : ℕ). e.freq * (g e.end - 1) + n) (cost_same es f g h)

-- the least ends cost the same after a cut that keeps the least value
pub least_stays : (es : List Weighted) (s t : Sets) (v high : ℕ) → v < length s → 0 < length (set_at s v) → least (set_at s v) ≤ high
    → t ≡ kept (λ y. nat_le y high) s v → least_cost es t ≡ least_cost es s
least_stays es s t v high within some le is = cost_same es (λ u. least (set_at t u.0)) (λ u. least (set_at s u.0))
    (λ u. ap (λ (r : Sets). least (set_at r u.0)) is ∙ at u.0 (same_or_not u.0 v))
  where
    pass : nat_le (least (set_at s v)) high ≡ true
    pass = grind (arith, nat_tests, le)

    at : (u : ℕ) → (u ≡ v) ⊎ (u ≢ v) → least (set_at (kept (λ y. nat_le y high) s v) u) ≡ least (set_at s u)
    at u (inl e) = subst (λ (w : ℕ). least (set_at (kept (λ y. nat_le y high) s v) w) ≡ least (set_at s w)) (sym e)
        (ap least (get_or-set_same s v (filter (λ y. nat_le y high) (set_at s v)) [] within)
        ∙ least_passes (λ y. nat_le y high) (set_at s v) some pass)
    at u (inr ne) = ap least (get_or-set_other s v u (filter (λ y. nat_le y high) (set_at s v)) [] ne)

none_left : (xs : List ℕ) → filter (λ y. false) xs ≡ []
none_left [] = refl
none_left (x ∷ xs) = none_left xs

-- after a failure the ends are not looked at
pub ends_after : (vs : List VarId) (es : List Weighted) (limit : ℕ) (s : Sets) → BelowVars vs es
    → option_and_then (round (end_cut es limit) es) (fail_cut vs s) ≡ fail_cut vs s
ends_after [] [] limit s h = refl
ends_after [] (e ∷ es) limit s h = absurd (let bad = h 0 e (omega arith) in cc bad)
ends_after (v ∷ vs) es limit s h =
    let gone : cut_by (λ y. false) v.0 s ≡ None = rw (none_left (set_at s v.0)) refl in
    ap (option_and_then (round (end_cut es limit) es)) gone ∙ sym gone
