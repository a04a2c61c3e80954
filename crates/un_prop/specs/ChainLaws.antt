-- Laws of cuts one after another.
use Rattle.std.proofs.Common.{ℕ, zero, suc, ◌≡◌, ◌<◌, true, List, [], ◌∷◌, length, fold, min, None, Some, option_and_then}
use Rattle.std.proofs.Common.{MatchOption, refl, sym, ap, ◌∙◌, subst, arith, inl, inr}
use Rattle.std.specs.declared.option.Option.{Option}
use Rattle.std.specs.Bool.{⊤}
use Rattle.std.proofs.lemmas.Bool.{cases_lt}
use Rattle.un_base.specs.declared.ids.VarId.{VarId}
use Rattle.un_domains.specs.Sets.{Sets, has, least, IsIn, NoneEmpty, Kept}
use Rattle.un_domains.specs.SetLaws.{has-cons}
use Rattle.un_domains.specs.Order.{Below}
use Rattle.un_domains.specs.OrderLaws.{Below-same, has_here, has_later}
use Rattle.un_prop.specs.Rounds.{HasVars}
use Rattle.un_prop.specs.Lawful.{Lawful}
use Rattle.un_prop.specs.Steps.{lawful_then, lawful_some}
use Rattle.un_prop.specs.Places.{each_place}

-- The least value is a value

fold_in : (a : ℕ) (xs : List ℕ) → has (a ∷ xs) (fold min a xs) ≡ true
fold_in a [] = has_here a []
fold_in a (y ∷ ys) = elim (has-cons (min a y) (fold min (min a y) ys) ys (fold_in (min a y) ys)) [
  | inl e ↦ elim (cases_lt a y) [
    | inl lt ↦ (let is : fold min (min a y) ys ≡ a = omega (arith, e, lt) in
        subst (λ (n : ℕ). has (a ∷ y ∷ ys) n ≡ true) (sym is) (has_here a (y ∷ ys)))
    | inr le ↦ (let is : fold min (min a y) ys ≡ y = omega (arith, e, le) in
        has_later a (fold min (min a y) ys) (y ∷ ys) (subst (λ (n : ℕ). has (y ∷ ys) n ≡ true) (sym is) (has_here y ys)))
  ]
  | inr t ↦ has_later a (fold min (min a y) ys) (y ∷ ys) (has_later y (fold min (min a y) ys) ys t)
]

pub least_in : (xs : List ℕ) → 0 < length xs → has xs (least xs) ≡ true
least_in [] some = absurd (omega arith)
least_in (x ∷ xs) some = fold_in x xs

-- Two cuts, one after the other

pub then_kept : (g : Sets → Option Sets) (x : List ℕ) (c : Option Sets) → Kept x c → ((m : Sets) → IsIn x m → Kept x (g m))
    → Kept x (option_and_then g c)
then_kept g x None h k = absurd h
then_kept g x (Some m) h k = k m h

pub known_in : (vs : List VarId) (s m : Sets) (x : List ℕ) → IsIn x s → IsIn x m → HasVars vs s → HasVars vs m
known_in vs s m x a b k i d lt = (let e = k i d lt in omega (arith, e, a.long, b.long))

-- a store that stays through two lawful cuts stays through each
pub stable_then : (vs : List VarId) (f g : Sets → Option Sets) → Lawful vs f → Lawful vs g → (s : Sets) → HasVars vs s → NoneEmpty s
    → option_and_then g (f s) ≡ Some s
    → (f s ≡ Some s) × (g s ≡ Some s)
stable_then vs f g hf hg s k full e = by (f s) refl (hf.shrinks s k full) e
  where
    by : (c : Option Sets) → f s ≡ c → MatchOption c ⊤ (λ m. Below m s × NoneEmpty m) → option_and_then g c ≡ Some s → (f s ≡ Some s)
        × (g s ≡ Some s)
    by None is h end = absurd (cc end)
    by (Some m) is h end =
        let km : HasVars vs m = λ i d lt. rw h.0.long (k i d lt) in
        let down : Below s m × NoneEmpty s = subst (λ (c : Option Sets). MatchOption c ⊤ (λ u. Below u m × NoneEmpty u)) end
        (hg.shrinks m km h.1) in
        let same : m ≡ s = Below-same m s h.0 down.0 in
        (is ∙ ap (λ (u : Sets). Some u) same, subst (λ (u : Sets). g u ≡ Some s) same end)

-- A cut for each place

pub each_lawful : (vs : List VarId) (f : ℕ → Sets → Option Sets) → ((i : ℕ) → Lawful vs (f i)) → (n : ℕ) → Lawful vs (each_place f n)
each_lawful vs f h zero = lawful_some vs
each_lawful vs f h (suc n) = lawful_then vs (each_place f n) (f n) (each_lawful vs f h n) (h n)

pub each_keeps : (vs : List VarId) (f : ℕ → Sets → Option Sets) (x : List ℕ)
    → ((i : ℕ) (m : Sets) → HasVars vs m → IsIn x m → Kept x (f i m))
    → (n : ℕ) (s : Sets) → HasVars vs s → IsIn x s → Kept x (each_place f n s)
each_keeps vs f x h zero s k there = there
each_keeps vs f x h (suc n) s k there = then_kept (f n) x (each_place f n s) (each_keeps vs f x h n s k there)
    (λ m in_m. h n m (known_in vs s m x there in_m k) in_m)

-- a store that stays through all stays through each
pub each_stable : (vs : List VarId) (f : ℕ → Sets → Option Sets) → ((i : ℕ) → Lawful vs (f i)) → (n : ℕ) (s : Sets) → HasVars vs s
    → NoneEmpty s → each_place f n s ≡ Some s
    → (i : ℕ) → i < n → f i s ≡ Some s
each_stable vs f h zero s k full e i lt = absurd (omega (arith, lt))
each_stable vs f h (suc n) s k full e i lt = elim (cases_lt i n) [
  | inl below ↦ each_stable vs f h n s k full two.0 i below
  | inr above ↦ (let is : i ≡ n = omega (arith, lt, above) in subst (λ (j : ℕ). f j s ≡ Some s) (sym is) two.1)
]
  where
    two : (each_place f n s ≡ Some s) × (f n s ≡ Some s)
    two = stable_then vs (each_place f n) (f n) (each_lawful vs f h n) (h n) s k full e
