-- The laws of Chosen.
use Rattle.std.proofs.Common.{ℕ, zero, suc, ◌≡◌, ◌≤◌, subst, Bool, true, not, ◌||◌, List, [], ◌∷◌, get_or, nat_eq, nat_lt, ap}
use Rattle.std.proofs.Common.{arith, ◌∙◌}
use Rattle.std.proofs.lemmas.Bool.Decides.{nat_tests}
use Rattle.un_domains.specs.Sets.{Sets, greatest, IsIn, Kept}
use Rattle.un_domains.specs.SetLaws.{has-fold_max}
use Rattle.un_domains.specs.Order.{Below}
use Rattle.un_domains.specs.OrderLaws.{greatest_below}
use Rattle.un_prop.specs.Rounds.{HasVars}
use Rattle.un_prop.specs.Lawful.{Lawful, LawfulTest}
use Rattle.un_prop.specs.Steps.{lawful_then}
use Rattle.un_prop.specs.ChainLaws.{then_kept, known_in, each_lawful, each_keeps}
use Rattle.un_prop.specs.Places.{each_place, choice_steps, places_in}
use Rattle.un_prop.specs.When.{is_only, when_test, other_than, LawfulFact}
use Rattle.un_prop.specs.WhenLaws.{only_value, only_fact, both_facts, fixed_test, when_lawful_test}
use Rattle.un_prop.specs.Looks.{act_set, sure}
use Rattle.un_prop.specs.LookLaws.{not_or, or_not, firsts, act_alike, number_in, sure_below, sure_alike, sure_active}
use Rattle.un_prop.specs.PlaceLaws.{entries_lawful, act_lawful, act_keeps, choice_lawful, choice_keeps}
use Rattle.un_prop.specs.declared.act.Act.TheVariants.{Always, Var}
use Rattle.std.proofs.lemmas.List.Elements.{recursion_from_All}
use Rattle.std.specs.List.{AllByRecursion}
use Rattle.un_base.specs.declared.ids.VarId.{VarId}
use Rattle.un_prop.specs.Among.{AllAmong}
use Rattle.un_prop.specs.AmongLaws.{same_var, same_active, has_among}
use Rattle.un_prop.specs.Parts.{SameAt}
use Rattle.un_prop.specs.Acts.{act_vars, act_number, is_active}
use Rattle.un_prop.specs.declared.act.Act.{Act}
use Rattle.un_prop.specs.Choices.{passes_at}
use Rattle.un_prop.specs.ChoiceLaws.{passes_agree, passes_more}
use Rattle.un_alt.specs.Chosen.{chosen_holds, may_be_active, chosen_can, ChosenVars, must_choose, definer_cut, chosen_steps}

pub chosen_looks : (vs : List VarId) (user : Act) (choice : VarId) (alts : List Act) → ChosenVars vs user choice alts → (x y : List ℕ)
    → SameAt vs x y
    → chosen_holds user choice alts x ≡ chosen_holds user choice alts y
chosen_looks vs user choice alts h x y same =
    ap (λ (b : Bool). not b || passes_at (λ a. is_active a x) alts (get_or x choice.0 0)) (same_active vs x y same user h.of_user)
    ∙ (ap (λ (i : ℕ). not (is_active user y) || passes_at (λ a. is_active a x) alts i) (same_var vs x y same choice h.of_choice)
    ∙ ap (λ (b : Bool). not (is_active user y) || b)
    (passes_agree (λ a. is_active a x) (λ a. is_active a y) alts (get_or y choice.0 0) (each alts (recursion_from_All _ _ h.of_alts))))
  where
    each : (rest : List Act) → AllByRecursion (λ a. AllAmong vs (act_vars a)) rest → AllByRecursion
        (λ a. is_active a x ≡ is_active a y) rest
    each [] all = tt
    each (a ∷ rest) all = (same_active vs x y same a all.0, each rest all.1)

module _ (vs : List VarId) (user : Act) (choice : VarId) (alts : List Act) (h : ChosenVars vs user choice alts) where
  all_vars : AllByRecursion (λ a. AllAmong vs (act_vars a)) alts
  all_vars = recursion_from_All _ _ h.of_alts

  most_below : (t s : Sets) → Below t s → (a : Act) → greatest (act_set a t) ≤ greatest (act_set a s)
  most_below t s le Always = omega arith
  most_below t s le (Var v) = greatest_below t s v.0 le

  active_lawful : (a : Act) → AllAmong vs (act_vars a) → LawfulTest vs (λ s y. may_be_active s a)
  active_lawful a all = record {
    monotone = λ t s y k full le e. (let more = most_below t s le a in grind (arith, nat_tests, e, more));
    local = λ s t y agree. ap (λ (xs : List ℕ). nat_lt 0 (greatest xs)) (act_alike vs s t agree a all);
  }

  pub chosen_lawful : LawfulTest vs (chosen_can alts)
  chosen_lawful = entries_lawful vs (λ a. AllAmong vs (act_vars a)) may_be_active alts active_lawful all_vars

  active_in : (m : Sets) (x : List ℕ) → HasVars vs m → IsIn x m → (a : Act) → AllAmong vs (act_vars a) → is_active a x ≡ true →
      may_be_active m a ≡ true
  active_in m x k there a all e =
      let le = has-fold_max 0 (act_set a m) (act_number a x) (number_in vs m x there k a all) in
      some (act_number a x) (greatest (act_set a m)) e le
    where
      some : (n g : ℕ) → not (nat_eq n 0) ≡ true → n ≤ g → nat_lt 0 g ≡ true
      some n g ne le = grind (arith, nat_tests, ne, le)

  pub chosen_fits : (x : List ℕ) → chosen_holds user choice alts x ≡ true → (m : Sets) → HasVars vs m → IsIn x m → is_active user x ≡
      true → chosen_can alts m (get_or x choice.0 0) ≡ true
  chosen_fits x holds m k there is = passes_more (λ a. AllAmong vs (act_vars a)) (λ a. is_active a x) (may_be_active m) alts
      (get_or x choice.0 0) all_vars (active_in m x k there)
      (or_not (is_active user x) (passes_at (λ a. is_active a x) alts (get_or x choice.0 0)) holds is)

  -- The definer at the only place

  definer_among : (rest : List Act) (i : ℕ) → AllByRecursion (λ a. AllAmong vs (act_vars a)) rest → AllAmong vs (act_vars (get_or rest
      i Always))
  definer_among [] i all = λ j d lt. absurd (omega (arith, lt))
  definer_among (a ∷ rest) zero all = all.0
  definer_among (a ∷ rest) (suc i) all = definer_among rest i all.1

  definer_active : (p : Act → Bool) (rest : List Act) (i : ℕ) → passes_at p rest i ≡ true → p (get_or rest i Always) ≡ true
  definer_active p [] i e = absurd (cc e)
  definer_active p (a ∷ rest) zero e = e
  definer_active p (a ∷ rest) (suc i) e = definer_active p rest i e

  sure_fact : LawfulFact vs (sure user)
  sure_fact = record {
    grows = λ t s k full le e. sure_below vs t s le user e;
    local = λ s t agree. sure_alike vs s t agree user h.of_user;
  }

  must_fact : (i : ℕ) → LawfulFact vs (must_choose user choice i)
  must_fact i = both_facts vs (sure user) (is_only choice i) sure_fact (only_fact vs choice i h.of_choice)

  definer_lawful : (i : ℕ) → Lawful vs (definer_cut user choice alts i)
  definer_lawful i = act_lawful vs (when_test (must_choose user choice i) (other_than 0)) (get_or alts i Always) (definer_among alts i
      all_vars)
      (when_lawful_test vs (must_choose user choice i) (other_than 0) (must_fact i) (fixed_test vs (λ y. not (nat_eq y 0))))

  definer_keeps : (x : List ℕ) → chosen_holds user choice alts x ≡ true → (i : ℕ) (m : Sets) → HasVars vs m → IsIn x m
      → Kept x (definer_cut user choice alts i m)
  definer_keeps x holds i m k there = act_keeps vs (when_test (must_choose user choice i) (other_than 0)) (get_or alts i Always)
      (definer_among alts i all_vars) m x k there
      (not_or (must_choose user choice i m) (not (nat_eq (act_number (get_or alts i Always) x) 0)) (λ is.
      (let two = firsts (sure user m) (is_only choice i m) is in
      let on = sure_active vs m x there k user h.of_user two.0 in
      let at = only_value choice i m (get_or x choice.0 0) two.1 (there.each choice.0 (has_among vs choice m h.of_choice k)) in
      definer_active (λ a. is_active a x) alts i (subst (λ (n : ℕ). passes_at (λ a. is_active a x) alts n ≡ true) at
      (or_not (is_active user x) (passes_at (λ a. is_active a x) alts (get_or x choice.0 0)) holds on)))))

  places_lawful : Lawful vs (choice_steps user choice (chosen_can alts) (places_in alts))
  places_lawful = choice_lawful vs user choice (chosen_can alts) h.of_user h.of_choice chosen_lawful (places_in alts)

  pub steps_lawful : Lawful vs (chosen_steps user choice alts)
  steps_lawful = lawful_then vs (choice_steps user choice (chosen_can alts) (places_in alts))
      (each_place (definer_cut user choice alts) (places_in alts)) places_lawful
      (each_lawful vs (definer_cut user choice alts) definer_lawful (places_in alts))

  pub steps_keep : (s : Sets) (x : List ℕ) → HasVars vs s → IsIn x s → chosen_holds user choice alts x ≡ true → Kept x
      (chosen_steps user choice alts s)
  steps_keep s x k there holds = then_kept (each_place (definer_cut user choice alts) (places_in alts)) x
      (choice_steps user choice (chosen_can alts) (places_in alts) s)
      (choice_keeps vs user choice (chosen_can alts) h.of_user h.of_choice chosen_lawful (places_in alts) s x k there (chosen_fits x holds))
      (λ m in_m. each_keeps vs (definer_cut user choice alts) x (definer_keeps x holds) (places_in alts) m (known_in vs s m x there in_m k)
      in_m)
