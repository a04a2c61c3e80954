-- Laws of cuts by an entry, and by the one place that a choice has left.
use Rattle.std.proofs.Common.{ℕ, zero, suc, ◌≡◌, ◌<◌, ◌≤◌, ◌≢◌, inl, inr, All, true, false, List, [], ◌∷◌, length, get_or, nat_eq, None}
use Rattle.std.proofs.Common.{Some, MatchOption, refl, sym, ap, ◌∙◌, subst, arith}
use Rattle.std.specs.declared.option.Option.{Option}
use Rattle.std.specs.Bool.{⊤}
use Rattle.std.specs.List.{AllByRecursion}
use Rattle.std.proofs.lemmas.Bool.Decides.{nat_tests}
use Rattle.un_base.specs.declared.ids.VarId.{VarId}
use Rattle.un_domains.specs.Sets.{Sets, set_at, has, least, IsIn, NoneEmpty, Kept}
use Rattle.un_domains.specs.SetLaws.{has-cons}
use Rattle.un_domains.specs.Order.{Below}
use Rattle.un_domains.specs.OrderLaws.{Below-refl, Below-trans, single_below}
use Rattle.un_prop.specs.Rounds.{HasVars}
use Rattle.un_prop.specs.Lawful.{BelowOption, Agree, AgreeOption, Lawful}
use Rattle.un_prop.specs.Steps.{lawful_some}
use Rattle.un_prop.specs.Among.{among}
use Rattle.un_prop.specs.AmongLaws.{has_among}
use Rattle.un_prop.specs.LookLaws.{set_alike}
use Rattle.un_prop.specs.ChainLaws.{each_lawful, each_keeps}
use Rattle.un_rect.specs.Entries.{entry_cut, each_entry, at_only, where_fixed}

-- Entries

pub entry_within : {A : Type 0} (f : A → Sets → Option Sets) (xs : List A) (i : ℕ) (d : A) (s : Sets) → i < length xs
    → entry_cut f xs i s ≡ f (get_or xs i d) s
entry_within f [] i d s lt = absurd (omega (arith, lt))
entry_within f (x ∷ xs) zero d s lt = refl
entry_within f (x ∷ xs) (suc i) d s lt = entry_within f xs i d s (omega (arith, lt))

pub entry_past : {A : Type 0} (f : A → Sets → Option Sets) (xs : List A) (i : ℕ) (s : Sets) → length xs ≤ i → entry_cut f xs i s ≡ Some s
entry_past f [] i s le = refl
entry_past f (x ∷ xs) zero s le = absurd (omega (arith, le))
entry_past f (x ∷ xs) (suc i) s le = entry_past f xs i s (omega (arith, le))

pub entry_lawful : {A : Type 0} (vs : List VarId) (P : A → Type 0) (f : A → Sets → Option Sets) → ((a : A) → P a → Lawful vs (f a))
    → (xs : List A) → AllByRecursion P xs
    → (i : ℕ) → Lawful vs (entry_cut f xs i)
entry_lawful vs P f h [] all i = lawful_some vs
entry_lawful vs P f h (x ∷ xs) all zero = h x all.0
entry_lawful vs P f h (x ∷ xs) all (suc i) = entry_lawful vs P f h xs all.1 i

pub entry_keeps : {A : Type 0} (P : A → Type 0) (f : A → Sets → Option Sets) (x : List ℕ) (m : Sets) → IsIn x m
    → ((a : A) → P a → Kept x (f a m)) → (xs : List A)
    → AllByRecursion P xs → (i : ℕ) → Kept x (entry_cut f xs i m)
entry_keeps P f x m there h [] all i = there
entry_keeps P f x m there h (a ∷ xs) all zero = h a all.0
entry_keeps P f x m there h (a ∷ xs) all (suc i) = entry_keeps P f x m there h xs all.1 i

pub entries_lawful_each : {A : Type 0} (vs : List VarId) (P : A → Type 0) (f : A → Sets → Option Sets)
    → ((a : A) → P a → Lawful vs (f a)) → (xs : List A)
    → AllByRecursion P xs → Lawful vs (each_entry f xs)
entries_lawful_each vs P f h xs all = each_lawful vs (entry_cut f xs) (entry_lawful vs P f h xs all) (length xs)

pub entries_keep : {A : Type 0} (vs : List VarId) (P : A → Type 0) (f : A → Sets → Option Sets) (x : List ℕ)
    → ((a : A) → P a → (m : Sets) → HasVars vs m → IsIn x m → Kept x (f a m)) → (xs : List A) → AllByRecursion P xs → (s : Sets)
    → HasVars vs s → IsIn x s
    → Kept x (each_entry f xs s)
entries_keep vs P f x h xs all s k there = each_keeps vs (entry_cut f xs) x
    (λ i m km in_m. entry_keeps P f x m in_m (λ a p. h a p m km in_m) xs all i) (length xs) s k there

-- The one value

pub fixed_lawful : (vs : List VarId) (f : ℕ → Sets → Option Sets) (v : VarId) → among vs v ≡ true → ((i : ℕ) → Lawful vs (f i))
    → Lawful vs (where_fixed f v)
fixed_lawful vs f v at h = record {
  shrinks = λ s k full. shrink s k full (set_at s v.0);
  monotone = λ t s k ft fs le. less t s k ft fs le (set_at s v.0) refl;
  local = λ s t k fs ft e a. subst (λ (xs : List ℕ). AgreeOption vs (at_only f (set_at s v.0) s) (at_only f xs t))
      (set_alike vs s t a v at) (alike s t k fs ft e a (set_at s v.0));
  outside = λ s w other. far s w other (set_at s v.0);
}
  where
    shrink : (s : Sets) → HasVars vs s → NoneEmpty s → (xs : List ℕ) → MatchOption (at_only f xs s) ⊤ (λ u. Below u s × NoneEmpty u)
    shrink s k full [] = (Below-refl s, full)
    shrink s k full (i ∷ []) = (h i).shrinks s k full
    shrink s k full (i ∷ j ∷ is) = (Below-refl s, full)

    known : (t s : Sets) → Below t s → HasVars vs s → HasVars vs t
    known t s le k i d lt = rw le.long (k i d lt)

    under : (t s : Sets) → Below t s → (c : Option Sets) → MatchOption c ⊤ (λ u. Below u t × NoneEmpty u) → BelowOption c (Some s)
    under t s le None h = tt
    under t s le (Some u) h = Below-trans u t s h.0 le

    less : (t s : Sets) → HasVars vs s → NoneEmpty t → NoneEmpty s → Below t s → (xs : List ℕ) → set_at s v.0 ≡ xs
        → BelowOption (at_only f (set_at t v.0) t) (at_only f xs s)
    less t s k ft fs le [] e = under t s le (at_only f (set_at t v.0) t) (shrink t (known t s le k) ft (set_at t v.0))
    less t s k ft fs le (i ∷ []) e =
        let same : set_at t v.0 ≡ i ∷ [] = single_below t s v.0 le (ft v.0 (has_among vs v t at (known t s le k))) (ap length e) ∙ e in
        subst (λ (xs : List ℕ). BelowOption (at_only f xs t) (f i s)) (sym same) ((h i).monotone t s k ft fs le)
    less t s k ft fs le (i ∷ j ∷ is) e = under t s le (at_only f (set_at t v.0) t) (shrink t (known t s le k) ft (set_at t v.0))

    alike : (s t : Sets) → HasVars vs s → NoneEmpty s → NoneEmpty t → length t ≡ length s → Agree vs s t → (xs : List ℕ)
        → AgreeOption vs (at_only f xs s) (at_only f xs t)
    alike s t k fs ft e a [] = a
    alike s t k fs ft e a (i ∷ []) = (h i).local s t k fs ft e a
    alike s t k fs ft e a (i ∷ j ∷ is) = a

    far : (s : Sets) (w : ℕ) → All (λ u. w ≢ u.0) vs → (xs : List ℕ) → MatchOption (at_only f xs s) ⊤ (λ t. set_at t w ≡ set_at s w)
    far s w other [] = refl
    far s w other (i ∷ []) = (h i).outside s w other
    far s w other (i ∷ j ∷ is) = refl

pub fixed_keeps : (vs : List VarId) (f : ℕ → Sets → Option Sets) (v : VarId) → among vs v ≡ true → (s : Sets) (x : List ℕ) → HasVars vs s
    → IsIn x s
    → Kept x (f (get_or x v.0 0) s) → Kept x (where_fixed f v s)
fixed_keeps vs f v at s x k there h = by (set_at s v.0) (there.each v.0 (has_among vs v s at k))
  where
    by : (xs : List ℕ) → has xs (get_or x v.0 0) ≡ true → Kept x (at_only f xs s)
    by [] e = there
    by (i ∷ []) e = elim (has-cons i (get_or x v.0 0) [] e) [
      | inl is ↦ subst (λ (j : ℕ). Kept x (f j s)) is h
      | inr more ↦ absurd (cc more)
    ]
    by (i ∷ j ∷ is) e = there

-- as the code has it
pub fixed_at : (f : ℕ → Sets → Option Sets) (v : ℕ) (s : Sets) → nat_eq (length (set_at s v)) 1 ≡ true
    → at_only f (set_at s v) s ≡ f (least (set_at s v)) s
fixed_at f v s one = by (set_at s v) one
  where
    by : (xs : List ℕ) → nat_eq (length xs) 1 ≡ true → at_only f xs s ≡ f (least xs) s
    by [] e = absurd (cc e)
    by (i ∷ []) e = refl
    by (i ∷ j ∷ is) e = absurd (let two : length (i ∷ j ∷ is) ≡ 1 = grind (arith, nat_tests, e) in omega (arith, two))

pub not_fixed : (f : ℕ → Sets → Option Sets) (v : ℕ) (s : Sets) → nat_eq (length (set_at s v)) 1 ≡ false → at_only f (set_at s v) s ≡ Some s
not_fixed f v s many = by (set_at s v) many
  where
    by : (xs : List ℕ) → nat_eq (length xs) 1 ≡ false → at_only f xs s ≡ Some s
    by [] e = refl
    by (i ∷ []) e = absurd (cc e)
    by (i ∷ j ∷ is) e = refl
