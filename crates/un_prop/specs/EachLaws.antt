-- Laws of a cut for each item of a list, in order.
use Rattle.std.proofs.Common.{ℕ, zero, suc, ◌≡◌, ◌<◌, ◌≤◌, ◌+◌, ◌∙◌, List, [], ◌∷◌, length, get_or, take, Some, option_and_then, refl}
use Rattle.std.proofs.Common.{ap, subst}
use Rattle.std.proofs.Common.{None, add-one, arith}
use Rattle.std.specs.declared.option.Option.{Option}
use Rattle.std.specs.List.{AllByRecursion, Contains}
use Rattle.un_base.specs.declared.ids.VarId.{VarId}
use Rattle.un_domains.specs.Sets.{Sets, IsIn, NoneEmpty, Kept}
use Rattle.un_domains.specs.Cuts.{Contents}
use Rattle.un_prop.specs.Rounds.{HasVars, round}
use Rattle.un_prop.specs.Lawful.{Lawful}
use Rattle.un_prop.specs.Steps.{lawful_each}
use Rattle.un_prop.specs.ChainLaws.{then_kept, known_in, stable_then}
use Rattle.un_prop.specs.Going.{Stepped}
use Rattle.un_prop.specs.GoingLaws.{stepped_by, stepped_chain, stepped_same}
use Rattle.un_prop.specs.declared.propagator.Pruned.{Pruned}

-- one item more
round_one : {A : Type 0} (f : A → Sets → Option Sets) (xs : List A) (k : ℕ) (d : A) (s : Sets) → k < length xs
    → round f (take (suc k) xs) s ≡ option_and_then (f (get_or xs k d)) (round f (take k xs) s)
round_one f [] k d s lt = absurd (omega (arith, lt))
round_one f (x ∷ xs) zero d s lt = by (f x s)
  where
    by : (c : Option Sets) → option_and_then (λ t. Some t) c ≡ c
    by None = refl
    by (Some t) = refl
round_one f (x ∷ xs) (suc k) d s lt = by (f x s) (λ t. round_one f xs k d t (omega (arith, lt)))
  where
    by : (c : Option Sets)
        → ((t : Sets) → round f (take (suc k) xs) t ≡ option_and_then (f (get_or xs k d)) (round f (take k xs) t))
        → option_and_then (round f (take (suc k) xs)) c ≡ option_and_then (f (get_or xs k d)) (option_and_then (round f (take k xs)) c)
    by None rest = refl
    by (Some t) rest = rest t

-- a loop over a list: at its start, after one item more, and at its end
pub each_start : {A : Type 0} (vs : List VarId) (f : A → Sets → Option Sets) (xs : List A) (old : Contents) (before : Pruned)
    → Stepped vs (round f (take 0 xs)) old old before before
each_start vs f xs old before = stepped_same vs (round f (take 0 xs)) old before (λ live. refl)

pub each_next : {A : Type 0} (vs us : List VarId) (f : A → Sets → Option Sets) (xs : List A) (k : ℕ) (d : A) (old mid new : Contents)
    (before so_far after : Pruned)
    → us ≡ vs → k < length xs → Stepped vs (round f (take k xs)) old mid before so_far
    → Stepped us (f (get_or xs k d)) mid new so_far after
    → Stepped vs (round f (take (k + 1) xs)) old new before after
each_next vs us f xs k d old mid new before so_far after e lt first step =
    stepped_by vs (round f (take (k + 1) xs)) (λ s. option_and_then (f (get_or xs k d)) (round f (take k xs) s)) old new before after
    (λ live. ap (λ (n : ℕ). round f (take n xs) old.sets) (add-one k) ∙ round_one f xs k d old.sets lt)
    (stepped_chain vs (round f (take k xs)) (f (get_or xs k d)) old mid new before so_far after first
    (subst (λ (ws : List VarId). Stepped ws (f (get_or xs k d)) mid new so_far after) e step))

take_all : {A : Type 0} (xs : List A) (k : ℕ) → length xs ≤ k → take k xs ≡ xs
take_all [] zero le = refl
take_all [] (suc k) le = refl
take_all (x ∷ xs) zero le = absurd (omega (arith, le))
take_all (x ∷ xs) (suc k) le = ap (λ ys. x ∷ ys) (take_all xs k (omega (arith, le)))

pub each_end : {A : Type 0} (vs : List VarId) (f : A → Sets → Option Sets) (xs : List A) (k : ℕ) (old new : Contents) (before after :
    Pruned)
    → length xs ≤ k → Stepped vs (round f (take k xs)) old new before after → Stepped vs (round f xs) old new before after
each_end vs f xs k old new before after le h = subst (λ ys. Stepped vs (round f ys) old new before after) (take_all xs k le) h

-- what each lets stay stays
pub each_kept : {A : Type 0} (vs : List VarId) (P : A → Type 0) (f : A → Sets → Option Sets) (x : List ℕ)
    → ((a : A) → P a → (m : Sets) → HasVars vs m → IsIn x m → Kept x (f a m)) → (xs : List A) → AllByRecursion P xs → (s : Sets)
    → HasVars vs s → IsIn x s → Kept x (round f xs s)
each_kept vs P f x h [] all s k there = there
each_kept vs P f x h (a ∷ xs) all s k there = then_kept (round f xs) x (f a s) (h a all.0 s k there)
    (λ m in_m. each_kept vs P f x h xs all.1 m (known_in vs s m x there in_m k) in_m)

-- a store that stays through all stays through each
pub each_stays : {A : Type 0} (vs : List VarId) (f : A → Sets → Option Sets) (xs : List A) → AllByRecursion (λ a. Lawful vs (f a)) xs
    → (s : Sets) → HasVars vs s → NoneEmpty s → round f xs s ≡ Some s → AllByRecursion (λ a. f a s ≡ Some s) xs
each_stays vs f [] laws s k full e = tt
each_stays vs f (a ∷ xs) laws s k full e =
    let two = stable_then vs (f a) (round f xs) laws.0 (lawful_each vs f xs laws.1) s k full e in
    (two.0, each_stays vs f xs laws.1 s k full two.1)

-- each item of a list is one of it
pub members : {A : Type 0} (xs : List A) → AllByRecursion (Contains xs) xs
members xs = by xs xs (λ a there. there)
  where
    by : {A : Type 0} (whole ys : List A) → ((a : A) → Contains ys a → Contains whole a) → AllByRecursion (Contains whole) ys
    by whole [] h = tt
    by whole (y ∷ ys) h = (
      h y (0, omega arith, refl),
      by whole ys (λ a there. h a (suc (there.0), (let lt = there.1 in omega (arith, lt)), there.2)),
    )
