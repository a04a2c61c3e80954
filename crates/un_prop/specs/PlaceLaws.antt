-- Laws of filters of a choice.
use Rattle.std.proofs.Common.{ℕ, ◌≡◌, ◌<◌, Bool, true, false, not, ◌||◌, List, get_or}
use Rattle.std.proofs.Common.{nat_eq, nat_le, Some, refl, sym, ap, ◌∙◌, subst, arith}
use Rattle.std.specs.List.{AllByRecursion, list_any}
use Rattle.std.proofs.lemmas.Bool.Decides.{nat_tests}
use Rattle.un_base.specs.declared.ids.VarId.{VarId}
use Rattle.un_domains.specs.Sets.{Sets, set_at, has, cut_by, IsIn, NoneEmpty, Kept}
use Rattle.un_domains.specs.CutLaws.{cut_by_kept}
use Rattle.un_domains.specs.Order.{Below}
use Rattle.un_domains.specs.OrderLaws.{has_below}
use Rattle.un_prop.specs.Rounds.{HasVars}
use Rattle.un_prop.specs.Lawful.{Lawful, LawfulTest}
use Rattle.un_prop.specs.Steps.{lawful_cut_by, lawful_some, lawful_then}
use Rattle.un_prop.specs.LastLaws.{passes_all, cut_all, cut_same}
use Rattle.un_prop.specs.Among.{among, AllAmong}
use Rattle.un_prop.specs.AmongLaws.{in_list, has_among}
use Rattle.un_prop.specs.Acts.{act_vars, act_number, is_active}
use Rattle.un_prop.specs.Looks.{sure}
use Rattle.un_prop.specs.LookLaws.{not_or, or_not, set_alike, sure_alike, sure_below, sure_active}
use Rattle.un_prop.specs.ChainLaws.{then_kept, known_in, stable_then, each_lawful, each_keeps, each_stable}
use Rattle.un_prop.specs.Choices.{passes_at}
use Rattle.un_prop.specs.ChoiceLaws.{passes_more, passes_agree, map_all}
use Rattle.un_prop.specs.SomewhereLaws.{any_more, any_agree, any_has}
use Rattle.un_prop.specs.declared.act.Act.{Act}
use Rattle.un_prop.specs.declared.act.Act.TheVariants.{Always, Var as ActVar}
use Rattle.un_prop.specs.Places.{each_place, place_test, place_cut, idle_test, act_cut, choice_steps}

-- A cut of an activity

pub act_lawful : (vs : List VarId) (q : Sets → ℕ → Bool) (on : Act) → AllAmong vs (act_vars on) → LawfulTest vs q → Lawful vs (act_cut q on)
act_lawful vs q Always all h = lawful_some vs
act_lawful vs q (ActVar v) all h = lawful_cut_by vs v q (in_list vs v (all 0 v (omega arith))) h

pub act_keeps : (vs : List VarId) (q : Sets → ℕ → Bool) (on : Act) → AllAmong vs (act_vars on) → (s : Sets) (x : List ℕ) → HasVars vs s
    → IsIn x s
    → q s (act_number on x) ≡ true → Kept x (act_cut q on s)
act_keeps vs q Always all s x k there h = there
act_keeps vs q (ActVar v) all s x k there h = cut_by_kept (q s) v.0 s x (has_among vs v s (all 0 v (omega arith)) k) there h

pub act_same : (vs : List VarId) (q : Sets → ℕ → Bool) (on : Act) (s : Sets) → AllAmong vs (act_vars on) → HasVars vs s → NoneEmpty s →
    ((y : ℕ) → q s y ≡ true)
    → act_cut q on s ≡ Some s
act_same vs q Always s all k full h = refl
act_same vs q (ActVar v) s all k full h = cut_all (q s) v.0 s (has_among vs v s (all 0 v (omega arith)) k) full (λ y there. h y)

pub act_is : (q : Sets → ℕ → Bool) (p : ℕ → Bool) (on : Act) (v : VarId) (s : Sets) → on ≡ ActVar v → ((y : ℕ) → q s y ≡ p y) → act_cut
    q on s ≡ cut_by p v.0 s
act_is q p on v s e h = ap (λ (a : Act). act_cut q a s) e ∙ cut_same (q s) p v.0 s (λ y there. h y)

-- A filter of places

module _ (vs : List VarId) (on : Act) (choice : VarId) (can : Sets → ℕ → Bool) (of_on : AllAmong vs (act_vars on))
    (of_choice : among vs choice ≡ true) (h : LawfulTest vs can) where
  place_lawful_test : (i : ℕ) → LawfulTest vs (place_test on can i)
  place_lawful_test i = record {
    monotone = λ t s y k full le e. by (nat_eq y i) s t k full le e;
    local = λ s t y a. ap (λ (b : Bool). not (nat_eq y i) || (not b || can s i)) (sure_alike vs s t a on of_on) ∙ ap
        (λ (b : Bool). not (nat_eq y i) || (not (sure on t) || b)) (h.local s t i a);
  }
    where
      by : (b : Bool) (s t : Sets) → HasVars vs s → NoneEmpty t → Below t s → (not b || (not (sure on t) || can t i)) ≡ true →
          (not b || (not (sure on s) || can s i)) ≡ true
      by false s t k full le e = refl
      by true s t k full le e = not_or (sure on s) (can s i)
          (λ is. h.monotone t s i k full le (or_not (sure on t) (can t i) e (sure_below vs t s le on is)))

  place_lawful : (i : ℕ) → Lawful vs (place_cut on choice can i)
  place_lawful i = lawful_cut_by vs choice (place_test on can i) (in_list vs choice of_choice) (place_lawful_test i)

  idle_lawful_test : LawfulTest vs (idle_test choice can)
  idle_lawful_test = record {
    monotone = λ t s y k full le e. by (nat_eq y 0) s t k full le e;
    local = λ s t y a. ap (λ (xs : List ℕ). nat_eq y 0 || list_any (can s) xs) (set_alike vs s t a choice of_choice) ∙ ap
        (λ (b : Bool). nat_eq y 0 || b) (any_agree (can s) (can t) (set_at t choice.0) (λ i. h.local s t i a));
  }
    where
      by : (b : Bool) (s t : Sets) → HasVars vs s → NoneEmpty t → Below t s → (b || list_any (can t) (set_at t choice.0)) ≡ true →
          (b || list_any (can s) (set_at s choice.0)) ≡ true
      by true s t k full le e = refl
      by false s t k full le e = any_more (can t) (can s) (set_at t choice.0) (set_at s choice.0)
          (λ i there is. (has_below t s choice.0 i le there, h.monotone t s i k full le is)) e

  idle_lawful : Lawful vs (act_cut (idle_test choice can) on)
  idle_lawful = act_lawful vs (idle_test choice can) on of_on idle_lawful_test

  pub choice_lawful : (n : ℕ) → Lawful vs (choice_steps on choice can n)
  choice_lawful n = lawful_then vs (each_place (place_cut on choice can) n) (act_cut (idle_test choice can) on)
      (each_lawful vs (place_cut on choice can) place_lawful n) idle_lawful

  -- an assignment stays, where what it chooses can be chosen
  pub choice_keeps : (n : ℕ) (s : Sets) (x : List ℕ) → HasVars vs s → IsIn x s →
      ((m : Sets) → HasVars vs m → IsIn x m → is_active on x ≡ true → can m (get_or x choice.0 0) ≡ true)
      → Kept x (choice_steps on choice can n s)
  choice_keeps n s x k there fits = then_kept (act_cut (idle_test choice can) on) x (each_place (place_cut on choice can) n s)
      (each_keeps vs (place_cut on choice can) x place n s k there)
      (λ m in_m. (let km = known_in vs s m x there in_m k in act_keeps vs (idle_test choice can) on of_on m x km in_m
      (idle m km in_m (act_number on x) refl)))
    where
      chosen : (m : Sets) (i : ℕ) → HasVars vs m → IsIn x m → (b : Bool) → nat_eq (get_or x choice.0 0) i ≡ b →
          (not b || (not (sure on m) || can m i)) ≡ true
      chosen m i km in_m false e = refl
      chosen m i km in_m true e = not_or (sure on m) (can m i) (λ is.
          let same : get_or x choice.0 0 ≡ i = grind (arith, nat_tests) in
          subst (λ (j : ℕ). can m j ≡ true) same (fits m km in_m (sure_active vs m x in_m km on of_on is)))

      place : (i : ℕ) (m : Sets) → HasVars vs m → IsIn x m → Kept x (place_cut on choice can i m)
      place i m km in_m = cut_by_kept (place_test on can i m) choice.0 m x (has_among vs choice m of_choice km) in_m
          (chosen m i km in_m (nat_eq (get_or x choice.0 0) i) refl)

      idle : (m : Sets) → HasVars vs m → IsIn x m → (y : ℕ) → act_number on x ≡ y → idle_test choice can m y ≡ true
      idle m km in_m y is = by (nat_eq y 0) refl
        where
          by : (b : Bool) → nat_eq y 0 ≡ b → (b || list_any (can m) (set_at m choice.0)) ≡ true
          by true e = refl
          by false e = any_has (can m) (set_at m choice.0) (get_or x choice.0 0) (in_m.each choice.0 (has_among vs choice m of_choice km))
              (fits m km in_m (ap (λ (z : ℕ). not (nat_eq z 0)) is ∙ ap not e))

  -- a place that stays can be chosen, where the user is sure
  pub choice_strong : (n : ℕ) (s : Sets) → HasVars vs s → NoneEmpty s → choice_steps on choice can n s ≡ Some s → (i : ℕ) → i < n → has
      (set_at s choice.0) i ≡ true → sure on s ≡ true
      → can s i ≡ true
  choice_strong n s k full e i lt there is =
      let two = stable_then vs (each_place (place_cut on choice can) n) (act_cut (idle_test choice can) on)
      (each_lawful vs (place_cut on choice can) place_lawful n) idle_lawful s k full e in
      let one = each_stable vs (place_cut on choice can) place_lawful n s k full two.0 i lt in
      let pass = passes_all (place_test on can i s) choice.0 s (has_among vs choice s of_choice k) one i there in
      let here : nat_eq i i ≡ true = grind (arith, nat_tests) in
      or_not (sure on s) (can s i) (or_not (nat_eq i i) (not (sure on s) || can s i) pass here) is

-- The filters as the code has them

pub place_unsure : (b c d : Bool) → c ≡ false → (not b || (not c || d)) ≡ true
place_unsure false c d e = refl
place_unsure true false d e = refl
place_unsure true true d e = absurd (cc e)

pub place_can : (b c d : Bool) → d ≡ true → (not b || (not c || d)) ≡ true
place_can false c d e = refl
place_can true false d e = refl
place_can true true d e = e

pub place_goes : (b c d : Bool) → c ≡ true → d ≡ false → (not b || (not c || d)) ≡ not b
place_goes false c d e h = refl
place_goes true true d e h = h
place_goes true false d e h = absurd (cc e)

pub idle_is : (b : Bool) (y : ℕ) → b ≡ false → (nat_eq y 0 || b) ≡ nat_le y 0
idle_is b y e = ap (λ (c : Bool). nat_eq y 0 || c) e ∙ by (nat_eq y 0) refl
  where
    by : (c : Bool) → nat_eq y 0 ≡ c → (c || false) ≡ nat_le y 0
    by true h = let z : nat_le y 0 ≡ true = grind (arith, nat_tests, h) in sym z
    by false h = let z : nat_le y 0 ≡ false = grind (arith, nat_tests, h) in sym z

pub idle_not : (b : Bool) (y : ℕ) → b ≡ true → (nat_eq y 0 || b) ≡ true
idle_not b y e = by (nat_eq y 0)
  where
    by : (c : Bool) → (c || b) ≡ true
    by true = refl
    by false = e

-- What can be chosen by its entry

-- where a test of each entry is lawful, so is that of the entry at a place
pub entries_lawful : {A : Type 0} (vs : List VarId) (P : A → Type 0) (ok : Sets → A → Bool) (alts : List A) →
    ((a : A) → P a → LawfulTest vs (λ s y. ok s a)) → AllByRecursion P alts
    → LawfulTest vs (λ s i. passes_at (ok s) alts i)
entries_lawful vs P ok alts h all = record {
  monotone = λ t s i k full le e. passes_more P (ok t) (ok s) alts i all (λ a p is. (h a p).monotone t s i k full le is) e;
  local = λ s t i agree. passes_agree (ok s) (ok t) alts i (map_all P (λ a. ok s a ≡ ok t a) (λ a p. (h a p).local s t i agree) alts all);
}
