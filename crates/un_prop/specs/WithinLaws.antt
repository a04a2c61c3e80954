-- Parts speak of a predicate's variables alone.
use Rattle.std.proofs.Common.{ℕ, ◌≡◌, ◌++◌, Bool, true, false, ◌||◌, cond, nat_eq, List, [], ◌∷◌, filter, refl, subst, arith}
use Rattle.std.specs.List.{Contains, AllByRecursion}
use Rattle.std.proofs.lemmas.Bool.Decides.{nat_tests}
use Rattle.std.proofs.lemmas.List.Elements.{All-from_recursion, All-contains}
use Rattle.un_base.specs.declared.ids.VarId.{VarId}
use Rattle.un_prop.specs.Among.{among, AllAmong}
use Rattle.un_prop.specs.Parts.{Part}
use Rattle.un_prop.specs.PartLaws.{one_part, only_part}

among_here : (v : VarId) (vs : List VarId) → among (v ∷ vs) v ≡ true
among_here v vs = let e : nat_eq v.0 v.0 ≡ true = grind (arith, nat_tests) in rw e refl

or_later : (b c : Bool) → c ≡ true → (b || c) ≡ true
or_later true c h = refl
or_later false c h = h

filter_each : (q : VarId → Bool) (ws vs : List VarId) → ((u : VarId) → among vs u ≡ true → among ws u ≡ true)
    → AllByRecursion (λ (u : VarId). among ws u ≡ true) (filter q vs)
filter_each q ws [] h = tt
filter_each q ws (v ∷ vs) h = by (q v) (filter_each q ws vs (λ u k. h u (or_later (nat_eq v.0 u.0) (among vs u) k)))
  where
    by : (b : Bool) → AllByRecursion (λ (u : VarId). among ws u ≡ true) (filter q vs)
        → AllByRecursion (λ (u : VarId). among ws u ≡ true) (cond b (v ∷ filter q vs) (filter q vs))
    by true rest = (h v (among_here v vs), rest)
    by false rest = rest

own_each : (ws vs : List VarId) → ((u : VarId) → among vs u ≡ true → among ws u ≡ true)
    → AllByRecursion (λ (u : VarId). among ws u ≡ true) vs
own_each ws [] h = tt
own_each ws (v ∷ vs) h = (h v (among_here v vs), own_each ws vs (λ u k. h u (or_later (nat_eq v.0 u.0) (among vs u) k)))

-- a list has its own
pub own_among : (vs : List VarId) → AllAmong vs vs
own_among vs = All-from_recursion (λ (u : VarId). among vs u ≡ true) vs (own_each vs vs (λ u k. k))

-- and those that pass a test
pub filter_among : (q : VarId → Bool) (vs : List VarId) → AllAmong vs (filter q vs)
filter_among q vs = All-from_recursion (λ (u : VarId). among vs u ≡ true) (filter q vs) (filter_each q vs vs (λ u k. k))

pub one_within : (vs : List VarId) (t : List ℕ → Bool) (part : Part) → Contains (one_part vs t) part → AllAmong vs part.vars
one_within vs t part there =
    subst (λ (q : Part). AllAmong vs q.vars) (only_part (record { vars = vs; meets = t }) part there) (own_among vs)

-- each of some parts, and so one that is among them
abbrev pub AreWithin : List VarId → List Part → Type 0
AreWithin vs parts = AllByRecursion (λ (q : Part). AllAmong vs q.vars) parts

pub both_within : (vs : List VarId) (xs ys : List Part) → AreWithin vs xs → AreWithin vs ys → AreWithin vs (xs ++ ys)
both_within vs [] ys a b = b
both_within vs (x ∷ xs) ys a b = (a.0, both_within vs xs ys a.1 b)

pub part_within : (vs : List VarId) (parts : List Part) → AreWithin vs parts → (part : Part) → Contains parts part → AllAmong vs part.vars
part_within vs parts all part there =
    All-contains (λ (q : Part). AllAmong vs q.vars) parts part (All-from_recursion (λ (q : Part). AllAmong vs q.vars) parts all) there
