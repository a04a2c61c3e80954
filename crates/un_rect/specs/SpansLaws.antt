-- Laws of starts and ends.
use Rattle.std.proofs.Common.{ℕ, zero, suc, ◌≡◌, ◌≤◌, ◌<◌, ◌+◌, ◌⊎◌, Bool, true, false, cond, ◌&&◌, List, [], ◌∷◌, length, get_or, max}
use Rattle.std.proofs.Common.{nat_eq, None, Some, refl, sym, ap, ◌∙◌, subst, arith, inl, inr}
use Rattle.std.specs.declared.option.Option.{Option}
use Rattle.std.specs.List.{AllByRecursion}
use Rattle.std.proofs.lemmas.Bool.Decides.{nat_tests}
use Rattle.std.proofs.lemmas.List.Elements.{recursion_from_All}
use Rattle.un_base.specs.declared.ids.VarId.{VarId}
use Rattle.un_domains.specs.Sets.{Sets, set_at, has, least, greatest, IsIn, NoneEmpty}
use Rattle.un_domains.specs.SetLaws.{has-cons, same_or_not}
use Rattle.un_domains.specs.Order.{Below}
use Rattle.un_domains.specs.OrderLaws.{single_below}
use Rattle.un_prop.specs.Rounds.{HasVars}
use Rattle.un_prop.specs.Parts.{SameAt}
use Rattle.un_prop.specs.Lawful.{Agree}
use Rattle.un_prop.specs.Among.{AllAmong}
use Rattle.un_prop.specs.AmongLaws.{has_among, same_var, same_active, same_time}
use Rattle.un_prop.specs.Acts.{is_active, at_value, chooses, is_user, Occupies}
use Rattle.un_prop.specs.Looks.{at_set, sure}
use Rattle.un_prop.specs.LookLaws.{both, firsts, set_alike, at_alike, sure_alike, known_below, least_at_below, greatest_at_below}
use Rattle.un_prop.specs.LookLaws.{sure_below, sure_active, value_in}
use Rattle.un_prop.specs.declared.act.UserOf.{UserOf}
use Rattle.un_prop.specs.declared.act.Temp.{Temp}
use Rattle.un_rect.specs.Spans.{starts, use_time, last_use, ends, least_start, greatest_start, is_only, sure_choice, sure_user, sure_use}
use Rattle.un_rect.specs.Spans.{last_sure_use, least_end, choice_vars, UserVars, TempVars}

-- One value

pub only_is : (xs : List ℕ) (n y : ℕ) → is_only xs n ≡ true → has xs y ≡ true → y ≡ n
only_is [] n y e h = absurd (cc h)
only_is (z ∷ w ∷ zs) n y e h = absurd (let one = (firsts (nat_eq (length (z ∷ w ∷ zs)) 1) (nat_eq (least (z ∷ w ∷ zs)) n) e).0 in
    let is : length (z ∷ w ∷ zs) ≡ 1 = grind (arith, nat_tests, one) in omega (arith, is))
only_is (z ∷ []) n y e h =
    let is : z ≡ n = (let t = (firsts (nat_eq (length (z ∷ [])) 1) (nat_eq (least (z ∷ [])) n) e).1 in grind (arith, nat_tests, t)) in
    elim (has-cons z y [] h) [ inl same ↦ same ∙ is | inr none ↦ absurd (cc none) ]

pub only_below : (t s : Sets) (v n : ℕ) → Below t s → 0 < length (set_at t v) → is_only (set_at s v) n ≡ true → is_only (set_at t v)
    n ≡ true
only_below t s v n le some e =
    let one : length (set_at s v) ≡ 1 = (let b = (firsts (nat_eq (length (set_at s v)) 1) (nat_eq (least (set_at s v)) n) e).0 in
    grind (arith, nat_tests, b)) in
    subst (λ (xs : List ℕ). is_only xs n ≡ true) (sym (single_below t s v le some one)) e

-- The times of occupation

use_before : (x : List ℕ) (t : ℕ) (us : List UserOf) (i : ℕ) → i < length us
    → ((d : UserOf) → (is_user (get_or us i d) x ≡ true) × (t < at_value (get_or us i d).at x)) → t < last_use us x
use_before x t [] i lt h = absurd (omega (arith, lt))
use_before x t (u ∷ us) zero lt h =
    let is : use_time x u ≡ at_value u.at x = ap (λ (b : Bool). cond b (at_value u.at x) 0) (h u).0 in
    let less = (h u).1 in omega (arith, is, less)
use_before x t (u ∷ us) (suc i) lt h = let less = use_before x t us i (omega (arith, lt)) h in omega (arith, less)

use_found : (x : List ℕ) (t : ℕ) (us : List UserOf) → t < last_use us x
    → (i : ℕ) × (i < length us) × ((d : UserOf) → (is_user (get_or us i d) x ≡ true) × (t < at_value (get_or us i d).at x))
use_found x t [] lt = absurd (omega (arith, lt))
use_found x t (u ∷ us) lt = by (is_user u x) refl (nat_lt_or t (last_use us x)) (use_found x t us)
  where
    nat_lt_or : (a b : ℕ) → (a < b) ⊎ (b ≤ a)
    nat_lt_or a b = grind arith

    by : (b : Bool) → is_user u x ≡ b → (t < last_use us x) ⊎ (last_use us x ≤ t)
        → (t < last_use us x → (i : ℕ) × (i < length us) × ((d : UserOf) → (is_user (get_or us i d) x ≡ true)
        × (t < at_value (get_or us i d).at x)))
        → (i : ℕ) × (i < length (u ∷ us)) × ((d : UserOf) → (is_user (get_or (u ∷ us) i d) x ≡ true)
        × (t < at_value (get_or (u ∷ us) i d).at x))
    by b e (inl less) rest = let r = rest less in (suc (r.0), (let below = r.1 in omega (arith, below)), r.2)
    by false e (inr le) rest =
        let is : use_time x u ≡ 0 = ap (λ (b : Bool). cond b (at_value u.at x) 0) e in
        absurd (omega (arith, is, le, lt))
    by true e (inr le) rest =
        let is : use_time x u ≡ at_value u.at x = ap (λ (b : Bool). cond b (at_value u.at x) 0) e in
        (0, omega arith, λ d. (e, omega (arith, is, le, lt)))

-- **an active temporary occupies its register from its start to before its end, and in no other cycle**
pub occupied : (a : Temp) (t : ℕ) (x : List ℕ) → Occupies a t x → (is_active a.on x ≡ true) × (starts a x ≤ t) × (t < ends a x)
occupied a t x h = (
  h.0,
  h.1,
  elim h.2 [
    | inl e ↦ omega (arith, e)
    | inr u ↦ (let less = use_before x t a.users u.0 u.1 u.2 in omega (arith, less))
  ],
)

pub occupies : (a : Temp) (t : ℕ) (x : List ℕ) → is_active a.on x ≡ true → starts a x ≤ t → t < ends a x → Occupies a t x
occupies a t x on from before = (
  on,
  from,
  elim (same_or_not t (starts a x)) [
    | inl e ↦ inl e
    | inr ne ↦ inr (use_found x t a.users (omega (arith, ne, from, before)))
  ],
)

-- Assignments alike

module _ (vs : List VarId) (x y : List ℕ) (same : SameAt vs x y) where
  choice_alike : (o : Option VarId) (n : ℕ) → AllAmong vs (choice_vars o) → chooses o n x ≡ chooses o n y
  choice_alike None n all = refl
  choice_alike (Some v) n all = ap (λ (m : ℕ). nat_eq m n) (same_var vs x y same v (all 0 v (omega arith)))

  pub user_alike : (u : UserOf) → UserVars vs u → is_user u x ≡ is_user u y
  user_alike u h = ap (λ (b : Bool). b && chooses u.choice u.value x) (same_active vs x y same u.on h.of_on)
      ∙ ap (λ (b : Bool). is_active u.on y && b) (choice_alike u.choice u.value h.of_choice)

  last_use_alike : (us : List UserOf) → AllByRecursion (UserVars vs) us → last_use us x ≡ last_use us y
  last_use_alike [] all = refl
  last_use_alike (u ∷ us) all = ap (λ (b : Bool). max (cond b (at_value u.at x) 0) (last_use us x)) (user_alike u all.0)
      ∙ (ap (λ (n : ℕ). max (cond (is_user u y) n 0) (last_use us x)) (same_time vs x y same u.at (all.0).of_at)
      ∙ ap (max (use_time y u)) (last_use_alike us all.1))

  pub starts_alike : (a : Temp) → TempVars vs a → starts a x ≡ starts a y
  starts_alike a h = same_time vs x y same a.at h.of_at

  pub ends_alike : (a : Temp) → TempVars vs a → ends a x ≡ ends a y
  ends_alike a h = ap (λ (n : ℕ). max (n + 1) (last_use a.users x)) (starts_alike a h)
      ∙ ap (max (starts a y + 1)) (last_use_alike a.users (recursion_from_All _ _ h.of_users))

-- Stores

module _ (vs : List VarId) where
  -- in a smaller store a sure user stays sure
  choice_below : (t s : Sets) → HasVars vs s → NoneEmpty t → Below t s → (o : Option VarId) (n : ℕ) → AllAmong vs (choice_vars o)
      → sure_choice o n s ≡ true → sure_choice o n t ≡ true
  choice_below t s k full le None n all e = refl
  choice_below t s k full le (Some v) n all e = only_below t s v.0 n le
      (full v.0 (has_among vs v t (all 0 v (omega arith)) (known_below vs t s le k))) e

  pub sure_user_below : (t s : Sets) → HasVars vs s → NoneEmpty t → Below t s → (u : UserOf) → UserVars vs u → sure_user u s ≡ true
      → sure_user u t ≡ true
  sure_user_below t s k full le u h e =
      let two = firsts (sure u.on s) (sure_choice u.choice u.value s) e in
      both _ _ (sure_below vs t s le u.on two.0) (choice_below t s k full le u.choice u.value h.of_choice two.1)

  use_below : (t s : Sets) → HasVars vs s → NoneEmpty t → Below t s → (u : UserOf) → UserVars vs u → sure_use s u ≤ sure_use t u
  use_below t s k full le u h = by (sure_user u s) refl
    where
      by : (b : Bool) → sure_user u s ≡ b → cond b (least (at_set u.at s)) 0 ≤ sure_use t u
      by false e = omega arith
      by true e =
          let is : sure_use t u ≡ least (at_set u.at t) = ap (λ (b : Bool). cond b (least (at_set u.at t)) 0)
          (sure_user_below t s k full le u h e) in
          let more = least_at_below vs t s full le u.at h.of_at k in
          omega (arith, is, more)

  last_below : (t s : Sets) → HasVars vs s → NoneEmpty t → Below t s → (us : List UserOf) → AllByRecursion (UserVars vs) us
      → last_sure_use us s ≤ last_sure_use us t
  last_below t s k full le [] all = omega arith
  last_below t s k full le (u ∷ us) all =
      let first = use_below t s k full le u all.0 in
      let rest = last_below t s k full le us all.1 in
      omega (arith, first, rest)

  -- **its greatest start falls, its least start and its least end rise**
  pub greatest_start_below : (t s : Sets) → Below t s → (a : Temp) → greatest_start a t ≤ greatest_start a s
  greatest_start_below t s le a = greatest_at_below vs t s le a.at

  pub least_start_below : (t s : Sets) → HasVars vs s → NoneEmpty t → Below t s → (a : Temp) → TempVars vs a → least_start a s ≤ least_start
      a t
  least_start_below t s k full le a h = least_at_below vs t s full le a.at h.of_at k

  pub least_end_below : (t s : Sets) → HasVars vs s → NoneEmpty t → Below t s → (a : Temp) → TempVars vs a → least_end a s ≤ least_end a t
  least_end_below t s k full le a h =
      let first = least_start_below t s k full le a h in
      let rest = last_below t s k full le a.users (recursion_from_All _ _ h.of_users) in
      omega (arith, first, rest)

  -- stores that agree on its variables say the same
  sure_choice_alike : (s t : Sets) → Agree vs s t → (o : Option VarId) (n : ℕ) → AllAmong vs (choice_vars o)
      → sure_choice o n s ≡ sure_choice o n t
  sure_choice_alike s t a None n all = refl
  sure_choice_alike s t a (Some v) n all = ap (λ (xs : List ℕ). is_only xs n) (set_alike vs s t a v (all 0 v (omega arith)))

  pub sure_user_alike : (s t : Sets) → Agree vs s t → (u : UserOf) → UserVars vs u → sure_user u s ≡ sure_user u t
  sure_user_alike s t a u h = ap (λ (b : Bool). b && sure_choice u.choice u.value s) (sure_alike vs s t a u.on h.of_on)
      ∙ ap (λ (b : Bool). sure u.on t && b) (sure_choice_alike s t a u.choice u.value h.of_choice)

  last_alike : (s t : Sets) → Agree vs s t → (us : List UserOf) → AllByRecursion (UserVars vs) us → last_sure_use us s ≡ last_sure_use us t
  last_alike s t a [] all = refl
  last_alike s t a (u ∷ us) all = ap (λ (b : Bool). max (cond b (least (at_set u.at s)) 0) (last_sure_use us s))
      (sure_user_alike s t a u all.0)
      ∙ (ap (λ (xs : List ℕ). max (cond (sure_user u t) (least xs) 0) (last_sure_use us s)) (at_alike vs s t a u.at (all.0).of_at)
      ∙ ap (max (sure_use t u)) (last_alike s t a us all.1))

  pub greatest_start_alike : (s t : Sets) → Agree vs s t → (a : Temp) → TempVars vs a → greatest_start a s ≡ greatest_start a t
  greatest_start_alike s t agree a h = ap greatest (at_alike vs s t agree a.at h.of_at)

  pub least_start_alike : (s t : Sets) → Agree vs s t → (a : Temp) → TempVars vs a → least_start a s ≡ least_start a t
  least_start_alike s t agree a h = ap least (at_alike vs s t agree a.at h.of_at)

  pub least_end_alike : (s t : Sets) → Agree vs s t → (a : Temp) → TempVars vs a → least_end a s ≡ least_end a t
  least_end_alike s t agree a h = ap (λ (n : ℕ). max (n + 1) (last_sure_use a.users s)) (least_start_alike s t agree a h)
      ∙ ap (max (least_start a t + 1)) (last_alike s t agree a.users (recursion_from_All _ _ h.of_users))

  -- a sure user reads its temporary in each assignment
  sure_chooses : (s : Sets) (x : List ℕ) → IsIn x s → HasVars vs s → (o : Option VarId) (n : ℕ) → AllAmong vs (choice_vars o)
      → sure_choice o n s ≡ true → chooses o n x ≡ true
  sure_chooses s x there k None n all e = refl
  sure_chooses s x there k (Some v) n all e =
      let is : get_or x v.0 0 ≡ n = only_is (set_at s v.0) n (get_or x v.0 0) e
      (there.each v.0 (has_among vs v s (all 0 v (omega arith)) k)) in
      grind (arith, nat_tests, is)

  pub sure_user_reads : (s : Sets) (x : List ℕ) → IsIn x s → HasVars vs s → (u : UserOf) → UserVars vs u → sure_user u s ≡ true
      → is_user u x ≡ true
  sure_user_reads s x there k u h e =
      let two = firsts (sure u.on s) (sure_choice u.choice u.value s) e in
      both _ _ (sure_active vs s x there k u.on h.of_on two.0) (sure_chooses s x there k u.choice u.value h.of_choice two.1)

  use_in : (s : Sets) (x : List ℕ) → IsIn x s → HasVars vs s → (u : UserOf) → UserVars vs u → sure_use s u ≤ use_time x u
  use_in s x there k u h = by (sure_user u s) refl
    where
      by : (b : Bool) → sure_user u s ≡ b → cond b (least (at_set u.at s)) 0 ≤ use_time x u
      by false e = omega arith
      by true e =
          let is : use_time x u ≡ at_value u.at x = ap (λ (b : Bool). cond b (at_value u.at x) 0) (sure_user_reads s x there k u h e) in
          let low = (value_in vs s x there k u.at h.of_at).0 in
          omega (arith, is, low)

  last_in : (s : Sets) (x : List ℕ) → IsIn x s → HasVars vs s → (us : List UserOf) → AllByRecursion (UserVars vs) us → last_sure_use us s ≤
      last_use us x
  last_in s x there k [] all = omega arith
  last_in s x there k (u ∷ us) all =
      let first = use_in s x there k u all.0 in
      let rest = last_in s x there k us all.1 in
      omega (arith, first, rest)

  -- **an assignment starts between the least and the greatest start, and ends no sooner than the least end**
  pub starts_in : (s : Sets) (x : List ℕ) → IsIn x s → HasVars vs s → (a : Temp) → TempVars vs a → (least_start a s ≤ starts a x)
      × (starts a x ≤ greatest_start a s)
  starts_in s x there k a h = value_in vs s x there k a.at h.of_at

  pub ends_in : (s : Sets) (x : List ℕ) → IsIn x s → HasVars vs s → (a : Temp) → TempVars vs a → least_end a s ≤ ends a x
  ends_in s x there k a h =
      let first = (starts_in s x there k a h).0 in
      let rest = last_in s x there k a.users (recursion_from_All _ _ h.of_users) in
      omega (arith, first, rest)
