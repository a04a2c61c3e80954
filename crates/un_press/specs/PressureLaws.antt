-- Laws of the values that are there in each cycle.
use Rattle.std.proofs.Common.{ℕ, zero, suc, ◌≡◌, ◌<◌, ◌≤◌, ◌+◌, ◌∙◌, Bool, true, false, ◌&&◌, ◌||◌, cond, List, [], ◌∷◌, length, filter}
use Rattle.std.proofs.Common.{nat_le, nat_lt, refl, ap, subst, arith, Some}
use Rattle.std.specs.declared.option.Option.{Option}
use Rattle.std.specs.Prelude.{None}
use Rattle.std.specs.List.{list_all, list_any, range_with_len, AllByRecursion}
use Rattle.std.proofs.lemmas.Bool.Decides.{nat_tests}
use Rattle.std.proofs.lemmas.List.Elements.{recursion_from_All}
use Rattle.un_base.specs.declared.ids.VarId.{VarId}
use Rattle.un_domains.specs.Sets.{Sets, NoneEmpty}
use Rattle.un_prop.specs.Acts.{at_vars, at_value}
use Rattle.un_prop.specs.Among.{AllAmong}
use Rattle.un_prop.specs.AmongLaws.{same_time}
use Rattle.un_prop.specs.Last.{last_of, last_cut_at, last_cut}
use Rattle.un_prop.specs.LastLaws.{cut_all, last_single}
use Rattle.un_prop.specs.LookLaws.{both, firsts}
use Rattle.un_prop.specs.Parts.{SameAt}
use Rattle.un_prop.specs.Rounds.{HasVars}
use Rattle.un_prop.specs.Steps.{has_var}
use Rattle.un_prop.specs.declared.act.At.{At}
use Rattle.un_press.specs.declared.live.Span.{Span}
use Rattle.un_press.specs.Pressures.{is_live, living, live_holds, FitsLive, SpanVars, LiveVars}

-- ---- lists

any_alike : {A : Type 0} (p q : A → Bool) (xs : List A) → AllByRecursion (λ a. p a ≡ q a) xs → list_any p xs ≡ list_any q xs
any_alike p q [] all = refl
any_alike p q (x ∷ xs) all = ap (λ (b : Bool). b || list_any p xs) all.0 ∙ ap (λ (b : Bool). q x || b) (any_alike p q xs all.1)

filter_alike : {A : Type 0} (p q : A → Bool) (xs : List A) → AllByRecursion (λ a. p a ≡ q a) xs → filter p xs ≡ filter q xs
filter_alike p q [] all = refl
filter_alike p q (x ∷ xs) all = ap (λ (b : Bool). cond b (x ∷ filter p xs) (filter p xs)) all.0
    ∙ ap (λ ys. cond (q x) (x ∷ ys) ys) (filter_alike p q xs all.1)

range_alike : (p q : ℕ → Bool) (xs : List ℕ) → ((t : ℕ) → p t ≡ q t) → list_all p xs ≡ list_all q xs
range_alike p q [] h = refl
range_alike p q (x ∷ xs) h = ap (λ (b : Bool). b && list_all p xs) (h x) ∙ ap (λ (b : Bool). q x && b) (range_alike p q xs h)

map_each : {A : Type 0} (P Q : A → Type 0) → ((a : A) → P a → Q a) → (xs : List A) → AllByRecursion P xs → AllByRecursion Q xs
map_each P Q h [] all = tt
map_each P Q h (x ∷ xs) all = (h x all.0, map_each P Q h xs all.1)

filter_less : {A : Type 0} (p : A → Bool) (xs : List A) → length (filter p xs) ≤ length xs
filter_less p [] = omega arith
filter_less p (x ∷ xs) =
    let rest = filter_less p xs in
    elim (p x) as (λ b. length (cond b (x ∷ filter p xs) (filter p xs)) ≤ suc (length xs)) [
      | true ↦ omega (arith, rest)
      | false ↦ omega (arith, rest)
    ]

all_in : (p : ℕ → Bool) (a n : ℕ) → ((t : ℕ) → a ≤ t → t < a + n → p t ≡ true) → list_all p (range_with_len a n) ≡ true
all_in p a zero h = refl
all_in p a (suc n) h = both (p a) (list_all p (range_with_len (a + 1) n)) (h a (omega arith) (omega arith))
    (all_in p (a + 1) n (λ t le lt. h t (omega (arith, le)) (omega (arith, lt))))

in_all : (p : ℕ → Bool) (a n : ℕ) → list_all p (range_with_len a n) ≡ true → (t : ℕ) → a ≤ t → t < a + n → p t ≡ true
in_all p a zero h t le lt = absurd (omega (arith, le, lt))
in_all p a (suc n) h t le lt =
    let two = firsts (p a) (list_all p (range_with_len (a + 1) n)) h in
    by two.0 (λ later. in_all p (a + 1) n two.1 t (omega (arith, later)) (omega (arith, lt))) (nat_lt a t) refl
  where
    by : p a ≡ true → (a < t → p t ≡ true) → (b : Bool) → nat_lt a t ≡ b → p t ≡ true
    by here rest true e = rest (grind (arith, nat_tests, e))
    by here rest false e =
        let less : t ≤ a = grind (arith, nat_tests, e) in
        let same : a ≡ t = omega (arith, less, le) in
        subst (λ (k : ℕ). p k ≡ true) same here

-- ---- the predicate as a relation

pub holds_fits : (values : List Span) (room horizon : ℕ) (x : List ℕ) → live_holds values room horizon x ≡ true
    → FitsLive values room horizon x
holds_fits values room horizon x h t lt =
    let le = in_all (λ (t : ℕ). nat_le (living values x t) room) 0 horizon h t (omega arith) (omega (arith, lt)) in
    grind (arith, nat_tests, le)

pub fits_holds : (values : List Span) (room horizon : ℕ) (x : List ℕ) → FitsLive values room horizon x
    → live_holds values room horizon x ≡ true
fits_holds values room horizon x h = all_in (λ (t : ℕ). nat_le (living values x t) room) 0 horizon
    (λ t le lt. let fits = h t (omega (arith, lt)) in grind (arith, nat_tests, fits))

-- where there is room for all of them, it holds of every assignment
pub few_hold : (values : List Span) (room horizon : ℕ) (x : List ℕ) → length values ≤ room → live_holds values room horizon x ≡ true
few_hold values room horizon x few = fits_holds values room horizon x
    (λ t lt. let less = filter_less (is_live t x) values in omega (arith, less, few))

-- ---- it looks at its variables alone

module _ (vs : List VarId) (values : List Span) (room horizon : ℕ) (among : LiveVars vs values) (x y : List ℕ) (same : SameAt vs x y) where
  later_alike : (t : ℕ) (u : At) → AllAmong vs (at_vars u) → nat_lt t (at_value u x) ≡ nat_lt t (at_value u y)
  later_alike t u h = ap (λ (n : ℕ). nat_lt t n) (same_time vs x y same u h)

  one_alike : (t : ℕ) (v : Span) → SpanVars vs v → is_live t x v ≡ is_live t y v
  one_alike t v h =
      ap (λ (n : ℕ). nat_le n t && list_any (λ (u : At). nat_lt t (at_value u x)) v.uses) (same_time vs x y same v.def h.of_def)
      ∙ ap (λ (b : Bool). nat_le (at_value v.def y) t && b)
      (any_alike (λ (u : At). nat_lt t (at_value u x)) (λ (u : At). nat_lt t (at_value u y)) v.uses
      (map_each (λ (u : At). AllAmong vs (at_vars u)) (λ (u : At). nat_lt t (at_value u x) ≡ nat_lt t (at_value u y)) (later_alike t)
      v.uses (recursion_from_All _ _ h.of_uses)))

  living_alike : (t : ℕ) → living values x t ≡ living values y t
  living_alike t = ap length (filter_alike (is_live t x) (is_live t y) values
      (map_each (SpanVars vs) (λ (v : Span). is_live t x v ≡ is_live t y v) (one_alike t) values (recursion_from_All _ _ among)))

  pub live_looks : live_holds values room horizon x ≡ live_holds values room horizon y
  live_looks = range_alike (λ (t : ℕ). nat_le (living values x t) room) (λ (t : ℕ). nat_le (living values y t) room)
      (range_with_len 0 horizon) (λ t. ap (λ (n : ℕ). nat_le n room) (living_alike t))

-- ---- the check of the last variable takes nothing where the predicate holds of every assignment

pub last_all : (vs : List VarId) (t : List ℕ → Bool) (s : Sets) → HasVars vs s → NoneEmpty s → ((x : List ℕ) → t x ≡ true)
    → last_cut vs t s ≡ Some s
last_all vs t s k full h = by (last_of vs s) refl
  where
    by : (o : Option VarId) → last_of vs s ≡ o → last_cut_at t s o ≡ Some s
    by None e = refl
    by (Some v) e = cut_all _ v.0 s (has_var vs v s (last_single vs s v e).0 k) full (λ y there. h _)
