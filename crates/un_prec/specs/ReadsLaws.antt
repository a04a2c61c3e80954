-- The laws of Reads.
use Rattle.std.proofs.Common.{ℕ, zero, suc, None, ◌≡◌, ◌≤◌, ◌<◌, ◌+◌, ◌^◌, ◌∙◌, Bool, true, false, not, ◌||◌, List, [], ◌∷◌}
use Rattle.std.proofs.Common.{get_or, nat_le, Some}
use Rattle.std.proofs.Common.{refl, sym, ap, subst, arith}
use Rattle.std.specs.declared.option.Option.{Option}
use Rattle.std.specs.List.{AllByRecursion, list_any, slice_get}
use Rattle.std.proofs.lemmas.Bool.Decides.{nat_tests}
use Rattle.std.proofs.lemmas.List.Elements.{recursion_from_All}
use Rattle.un_base.specs.declared.ids.VarId.{VarId}
use Rattle.un_domains.specs.Sets.{Sets, set_at, has, least, greatest, IsIn, NoneEmpty, Kept}
use Rattle.un_domains.specs.Order.{Below}
use Rattle.un_domains.specs.OrderLaws.{has_below, has_here}
use Rattle.un_prop.specs.Rounds.{HasVars}
use Rattle.un_prop.specs.Parts.{SameAt}
use Rattle.un_prop.specs.Lawful.{Agree, Lawful, LawfulTest}
use Rattle.un_prop.specs.LastLaws.{passes_all}
use Rattle.un_prop.specs.Steps.{lawful_then, lawful_some}
use Rattle.un_prop.specs.Among.{AllAmong}
use Rattle.un_prop.specs.AmongLaws.{has_among, same_var, same_active, same_number, same_time}
use Rattle.un_prop.specs.Acts.{act_number, is_active, at_vars, at_value}
use Rattle.un_prop.specs.Choices.{passes_at}
use Rattle.un_prop.specs.ChoiceLaws.{passes_agree, passes_get, passes_find, passes_more, get_within, map_all, always}
use Rattle.un_prop.specs.ChainLaws.{then_kept, known_in, stable_then, least_in, each_lawful, each_keeps}
use Rattle.un_prop.specs.Looks.{at_set, act_set, sure, InWords}
use Rattle.un_prop.specs.LookLaws.{not_or, or_not, firsts, set_alike, at_alike, act_alike, act_below, number_in, sure_alike, sure_below}
use Rattle.un_prop.specs.LookLaws.{sure_active, least_at_below, greatest_at_below, value_in}
use Rattle.un_prop.specs.Places.{places_in, choice_steps, each_place}
use Rattle.un_prop.specs.When.{is_only, when_test, LawfulFact}
use Rattle.un_prop.specs.WhenLaws.{only_value, only_fact, both_facts, when_lawful_test}
use Rattle.un_prop.specs.PlaceLaws.{choice_lawful, choice_keeps, choice_strong}
use Rattle.un_prop.specs.SomewhereLaws.{any_find, any_has, any_more, any_agree}
use Rattle.un_prop.specs.declared.act.Act.{Act}
use Rattle.un_prop.specs.declared.act.At.{At}
use Rattle.un_prop.specs.declared.act.At.TheVariants.{Const, Var}
use Rattle.un_prec.specs.Links.{at_cut}
use Rattle.un_prec.specs.LinkLaws.{at_lawful, at_keeps}
use Rattle.un_prec.specs.declared.reads.ReadAlt.{ReadAlt}
use Rattle.un_prec.specs.Reads.{is_late, reads_holds, may_be_late, reads_can, may_read, soon_test, reads_steps, ReadAltVars, ReadsVars}
use Rattle.un_prec.specs.Reads.{user_steps, is_in_time, must_read, early_of, early_cut}
use Rattle.un_prec.specs.Reads.{ReadsStrong}

-- more pass the second part of a choice of tests
or_more : (b c d : Bool) → (c ≡ true → d ≡ true) → (b || c) ≡ true → (b || d) ≡ true
or_more true c d h e = refl
or_more false c d h e = h e

or_last : (b c : Bool) → b ≡ false → (b || c) ≡ true → c ≡ true
or_last true c e h = absurd (cc e)
or_last false c e h = h

or_second : (b c : Bool) → c ≡ true → (b || c) ≡ true
or_second true c h = refl
or_second false c h = h

only_here : (p : ℕ → Bool) (i : ℕ) → list_any p (i ∷ []) ≡ true → p i ≡ true
only_here p i e = by (p i) e
  where
    by : (b : Bool) → (b || false) ≡ true → b ≡ true
    by true h = refl
    by false h = h

module _ (vs : List VarId) where
  late_looks : (x y : List ℕ) → SameAt vs x y → (t u : ℕ) → t ≡ u → (a : ReadAlt) → ReadAltVars vs a → is_late t x a ≡ is_late u y a
  late_looks x y same t u e a h =
      ap (λ (n : ℕ). passes_at (λ g. nat_le (n + g) t) a.gaps (act_number a.on x)) (same_time vs x y same a.at h.of_at)
      ∙ (ap (λ (n : ℕ). passes_at (λ g. nat_le (at_value a.at y + g) n) a.gaps (act_number a.on x)) e
      ∙ ap (λ (n : ℕ). passes_at (λ g. nat_le (at_value a.at y + g) u) a.gaps n) (same_number vs x y same a.on h.of_on))

  -- what may be late
  late_below : (t s : Sets) → HasVars vs s → NoneEmpty t → Below t s → (y z : ℕ) → y ≤ z → (a : ReadAlt) → ReadAltVars vs a →
      may_be_late t y a ≡ true → may_be_late s z a ≡ true
  late_below t s k full le y z more a h e =
      let low = least_at_below vs t s full le a.at h.of_at k in
      any_more (λ n. passes_at (λ g. nat_le (least (at_set a.at t) + g) y) a.gaps n)
      (λ n. passes_at (λ g. nat_le (least (at_set a.at s) + g) z) a.gaps n) (act_set a.on t) (act_set a.on s)
      (λ n there pass. (
        act_below vs t s n le a.on there,
        passes_more (λ (g : ℕ). Unit {0}) (λ g. nat_le (least (at_set a.at t) + g) y) (λ g. nat_le (least (at_set a.at s) + g) z)
            a.gaps n (always a.gaps)
            (λ g u is. grind (arith, nat_tests, is, low, more)) pass,
      )) e

  late_alike : (s t : Sets) → Agree vs s t → (y z : ℕ) → y ≡ z → (a : ReadAlt) → ReadAltVars vs a → may_be_late s y a ≡ may_be_late t z a
  late_alike s t agree y z e a h =
      ap (λ (xs : List ℕ). list_any (λ n. passes_at (λ g. nat_le (least xs + g) y) a.gaps n) (act_set a.on s))
      (at_alike vs s t agree a.at h.of_at)
      ∙ (ap (λ (u : ℕ). list_any (λ n. passes_at (λ g. nat_le (least (at_set a.at t) + g) u) a.gaps n) (act_set a.on s)) e
      ∙ ap (list_any (λ n. passes_at (λ g. nat_le (least (at_set a.at t) + g) z) a.gaps n)) (act_alike vs s t agree a.on h.of_on))

  late_in : (m : Sets) (x : List ℕ) → HasVars vs m → IsIn x m → (y z : ℕ) → y ≤ z → (a : ReadAlt) → ReadAltVars vs a → is_late y x a ≡
      true → may_be_late m z a ≡ true
  late_in m x k there y z more a h e =
      let low = (value_in vs m x there k a.at h.of_at).0 in
      any_has (λ n. passes_at (λ g. nat_le (least (at_set a.at m) + g) z) a.gaps n) (act_set a.on m) (act_number a.on x)
      (number_in vs m x there k a.on h.of_on)
      (passes_more (λ (g : ℕ). Unit {0}) (λ g. nat_le (at_value a.at x + g) y) (λ g. nat_le (least (at_set a.at m) + g) z) a.gaps
      (act_number a.on x) (always a.gaps)
      (λ g u is. grind (arith, nat_tests, is, low, more)) e)

module _ (vs : List VarId) (user : At) (on : Act) (choice : VarId) (alts : List ReadAlt) (h : ReadsVars vs user on choice alts) where
  all_vars : AllByRecursion (ReadAltVars vs) alts
  all_vars = recursion_from_All _ _ h.of_alts

  pub reads_looks : (x y : List ℕ) → SameAt vs x y → reads_holds user on choice alts x ≡ reads_holds user on choice alts y
  reads_looks x y same =
      let t = at_value user x in
      let u = at_value user y in
      ap (λ (b : Bool). not b || passes_at (is_late t x) alts (get_or x choice.0 0)) (same_active vs x y same on h.of_on)
      ∙ (ap (λ (i : ℕ). not (is_active on y) || passes_at (is_late t x) alts i) (same_var vs x y same choice h.of_choice)
      ∙ ap (λ (b : Bool). not (is_active on y) || b) (passes_agree (is_late t x) (is_late u y) alts (get_or y choice.0 0)
      (map_all (ReadAltVars vs) (λ (a : ReadAlt). is_late t x a ≡ is_late u y a)
      (late_looks vs x y same t u (same_time vs x y same user h.of_user)) alts all_vars)))

  can_lawful : LawfulTest vs (reads_can user alts)
  can_lawful = record {
    monotone = λ t s i k full le e. passes_more (ReadAltVars vs) (may_be_late t (greatest (at_set user t)))
        (may_be_late s (greatest (at_set user s))) alts i all_vars
        (late_below vs t s k full le (greatest (at_set user t)) (greatest (at_set user s)) (greatest_at_below vs t s le user)) e;
    local = λ s t i a. passes_agree (may_be_late s (greatest (at_set user s))) (may_be_late t (greatest (at_set user t))) alts i
        (map_all (ReadAltVars vs) (λ (b : ReadAlt). may_be_late s (greatest (at_set user s)) b ≡ may_be_late t (greatest (at_set user t)) b)
        (late_alike vs s t a (greatest (at_set user s)) (greatest (at_set user t)) (ap greatest (at_alike vs s t a user h.of_user)))
        alts all_vars);
  }

  read_below : (t s : Sets) → HasVars vs s → NoneEmpty t → Below t s → (y : ℕ) → may_read choice alts t y ≡ true → may_read choice alts
      s y ≡ true
  read_below t s k full le y e = any_more (passes_at (may_be_late t y) alts) (passes_at (may_be_late s y) alts) (set_at t choice.0)
      (set_at s choice.0)
      (λ i there pass. (
        has_below t s choice.0 i le there,
        passes_more (ReadAltVars vs) (may_be_late t y) (may_be_late s y) alts i
            all_vars (late_below vs t s k full le y y (omega arith)) pass,
      )) e

  read_alike : (s t : Sets) → Agree vs s t → (y : ℕ) → may_read choice alts s y ≡ may_read choice alts t y
  read_alike s t a y = ap (list_any (passes_at (may_be_late s y) alts)) (set_alike vs s t a choice h.of_choice)
      ∙ any_agree (passes_at (may_be_late s y) alts) (passes_at (may_be_late t y) alts) (set_at t choice.0)
      (λ i. passes_agree (may_be_late s y) (may_be_late t y) alts i
      (map_all (ReadAltVars vs) (λ (b : ReadAlt). may_be_late s y b ≡ may_be_late t y b) (late_alike vs s t a y y refl) alts all_vars))

  soon_lawful : LawfulTest vs (soon_test on choice alts)
  soon_lawful = record {
    monotone = λ t s y k full le e. not_or (sure on s) (nat_le (2 ^ 32) y || may_read choice alts s y) (λ is.
        or_more (nat_le (2 ^ 32) y) (may_read choice alts t y) (may_read choice alts s y) (read_below t s k full le y)
        (or_not (sure on t) (nat_le (2 ^ 32) y || may_read choice alts t y) e (sure_below vs t s le on is)));
    local = λ s t y a. ap (λ (b : Bool). not b || (nat_le (2 ^ 32) y || may_read choice alts s y)) (sure_alike vs s t a on h.of_on)
        ∙ ap (λ (b : Bool). not (sure on t) || (nat_le (2 ^ 32) y || b)) (read_alike s t a y);
  }

  f1 : Lawful vs (at_cut (soon_test on choice alts) user)
  f1 = at_lawful vs (soon_test on choice alts) user h.of_user soon_lawful

  f2 : Lawful vs (choice_steps on choice (reads_can user alts) (places_in alts))
  f2 = choice_lawful vs on choice (reads_can user alts) h.of_on h.of_choice can_lawful (places_in alts)

  user_lawful : Lawful vs (user_steps user on choice alts)
  user_lawful = lawful_then vs (at_cut (soon_test on choice alts) user)
      (choice_steps on choice (reads_can user alts) (places_in alts)) f1 f2

  -- the definer at the only place
  in_time_lawful : (a : ReadAlt) → ReadAltVars vs a → LawfulTest vs (is_in_time user a)
  in_time_lawful a k = record {
    monotone = λ t s y known full le e.
        (let high = greatest_at_below vs t s le user in
        any_more (λ n. passes_at (λ g. nat_le (y + g) (greatest (at_set user t))) a.gaps n)
        (λ n. passes_at (λ g. nat_le (y + g) (greatest (at_set user s))) a.gaps n) (act_set a.on t) (act_set a.on s)
        (λ n there pass. (
          act_below vs t s n le a.on there,
          passes_more (λ (g : ℕ). Unit {0}) (λ g. nat_le (y + g) (greatest (at_set user t))) (λ g. nat_le (y + g) (greatest (at_set
              user s)))
              a.gaps n (always a.gaps) (λ g u is. grind (arith, nat_tests, is, high)) pass,
        )) e);
    local = λ s t y agree.
        ap (λ (xs : List ℕ). list_any (λ n. passes_at (λ g. nat_le (y + g) (greatest xs)) a.gaps n) (act_set a.on s))
        (at_alike vs s t agree user h.of_user)
        ∙ ap (list_any (λ n. passes_at (λ g. nat_le (y + g) (greatest (at_set user t))) a.gaps n)) (act_alike vs s t agree a.on k.of_on);
  }

  sure_fact : LawfulFact vs (sure on)
  sure_fact = record {
    grows = λ t s k full le e. sure_below vs t s le on e;
    local = λ s t agree. sure_alike vs s t agree on h.of_on;
  }

  must_fact : (i : ℕ) → LawfulFact vs (must_read on choice i)
  must_fact i = both_facts vs (sure on) (is_only choice i) sure_fact (only_fact vs choice i h.of_choice)

  got_vars : (rest : List ReadAlt) (i : ℕ) (a : ReadAlt) → AllByRecursion (ReadAltVars vs) rest → slice_get rest i ≡ Some a →
      ReadAltVars vs a
  got_vars [] i a all e = absurd (cc e)
  got_vars (b ∷ rest) zero a all e = let same : b ≡ a = cc e in subst (ReadAltVars vs) same all.0
  got_vars (b ∷ rest) (suc i) a all e = got_vars rest i a all.1 e

  early_lawful : (i : ℕ) → Lawful vs (early_cut user on choice alts i)
  early_lawful i = by (slice_get alts i) refl
    where
      by : (o : Option ReadAlt) → slice_get alts i ≡ o → Lawful vs (early_of user (must_read on choice i) o)
      by None e = lawful_some vs
      by (Some a) e =
          let k = got_vars alts i a all_vars e in
          at_lawful vs (when_test (must_read on choice i) (is_in_time user a)) a.at k.of_at
          (when_lawful_test vs (must_read on choice i) (is_in_time user a) (must_fact i) (in_time_lawful a k))

  earlies_lawful : Lawful vs (each_place (early_cut user on choice alts) (places_in alts))
  earlies_lawful = each_lawful vs (early_cut user on choice alts) early_lawful (places_in alts)

  pub reads_lawful : Lawful vs (reads_steps user on choice alts)
  reads_lawful = lawful_then vs (user_steps user on choice alts) (each_place (early_cut user on choice alts) (places_in alts)) user_lawful
      earlies_lawful

  -- the definer that is chosen
  late : (x : List ℕ) → reads_holds user on choice alts x ≡ true → is_active on x ≡ true → passes_at (is_late (at_value user x) x) alts
      (get_or x choice.0 0) ≡ true
  late x holds is = or_not (is_active on x) (passes_at (is_late (at_value user x) x) alts (get_or x choice.0 0)) holds is

  soon_keeps : (m : Sets) (x : List ℕ) → HasVars vs m → IsIn x m → reads_holds user on choice alts x ≡ true → soon_test on choice alts
      m (at_value user x) ≡ true
  soon_keeps m x k there holds = not_or (sure on m) (nat_le (2 ^ 32) (at_value user x) || may_read choice alts m (at_value user x)) (λ is.
      or_second (nat_le (2 ^ 32) (at_value user x)) (may_read choice alts m (at_value user x))
      (any_has (passes_at (may_be_late m (at_value user x)) alts) (set_at m choice.0) (get_or x choice.0 0)
      (there.each choice.0 (has_among vs choice m h.of_choice k))
      (passes_more (ReadAltVars vs) (is_late (at_value user x) x) (may_be_late m (at_value user x)) alts (get_or x choice.0 0) all_vars
      (late_in vs m x k there (at_value user x) (at_value user x) (omega arith))
      (late x holds (sure_active vs m x there k on h.of_on is)))))

  can_keeps : (x : List ℕ) → reads_holds user on choice alts x ≡ true → (m : Sets) → HasVars vs m → IsIn x m → is_active on x ≡ true →
      reads_can user alts m (get_or x choice.0 0) ≡ true
  can_keeps x holds m k there is = passes_more (ReadAltVars vs) (is_late (at_value user x) x)
      (may_be_late m (greatest (at_set user m))) alts (get_or x choice.0 0) all_vars
      (late_in vs m x k there (at_value user x) (greatest (at_set user m)) ((value_in vs m x there k user h.of_user).1)) (late x holds is)

  user_keeps : (s : Sets) (x : List ℕ) → HasVars vs s → IsIn x s → reads_holds user on choice alts x ≡ true → Kept x
      (user_steps user on choice alts s)
  user_keeps s x k there holds =
      then_kept (choice_steps on choice (reads_can user alts) (places_in alts)) x (at_cut (soon_test on choice alts) user s)
      (at_keeps vs (soon_test on choice alts) user h.of_user s x k there (soon_keeps s x k there holds))
      (λ m in_m. choice_keeps vs on choice (reads_can user alts) h.of_on h.of_choice can_lawful (places_in alts) m x
      (known_in vs s m x there in_m k) in_m (can_keeps x holds))

  early_keeps : (x : List ℕ) → reads_holds user on choice alts x ≡ true → (i : ℕ) (m : Sets) → HasVars vs m → IsIn x m
      → Kept x (early_cut user on choice alts i m)
  early_keeps x holds i m k there = by (slice_get alts i) refl
    where
      by : (o : Option ReadAlt) → slice_get alts i ≡ o → Kept x (early_of user (must_read on choice i) o m)
      by None e = there
      by (Some a) e =
          let va = got_vars alts i a all_vars e in
          at_keeps vs (when_test (must_read on choice i) (is_in_time user a)) a.at va.of_at m x k there
          (not_or (must_read on choice i m) (is_in_time user a m (at_value a.at x)) (λ is.
          (let two = firsts (sure on m) (is_only choice i m) is in
          let active = sure_active vs m x there k on h.of_on two.0 in
          let at = only_value choice i m (get_or x choice.0 0) two.1 (there.each choice.0 (has_among vs choice m h.of_choice k)) in
          let here = subst (λ (n : ℕ). passes_at (is_late (at_value user x) x) alts n ≡ true) at (late x holds active) in
          let a_late : is_late (at_value user x) x a ≡ true = sym (passes_get (is_late (at_value user x) x) alts i a e) ∙ here in
          let high = (value_in vs m x there k user h.of_user).1 in
          any_has (λ n. passes_at (λ g. nat_le (at_value a.at x + g) (greatest (at_set user m))) a.gaps n) (act_set a.on m)
          (act_number a.on x) (number_in vs m x there k a.on va.of_on)
          (passes_more (λ (g : ℕ). Unit {0}) (λ g. nat_le (at_value a.at x + g) (at_value user x))
          (λ g. nat_le (at_value a.at x + g) (greatest (at_set user m))) a.gaps (act_number a.on x) (always a.gaps)
          (λ g u le. grind (arith, nat_tests, le, high)) a_late))))

  pub reads_keeps : (s : Sets) (x : List ℕ) → HasVars vs s → IsIn x s → reads_holds user on choice alts x ≡ true → Kept x
      (reads_steps user on choice alts s)
  reads_keeps s x k there holds = then_kept (each_place (early_cut user on choice alts) (places_in alts)) x (user_steps user on choice
      alts s)
      (user_keeps s x k there holds)
      (λ m in_m. each_keeps vs (early_cut user on choice alts) x (early_keeps x holds) (places_in alts) m (known_in vs s m x there in_m k)
      in_m)

  pub reads_strong : (s : Sets) → HasVars vs s → NoneEmpty s → InWords s → reads_steps user on choice alts s ≡ Some s → ReadsStrong
      user on choice alts s
  reads_strong s k full words e is i a one got =
      let outer = stable_then vs (user_steps user on choice alts) (each_place (early_cut user on choice alts) (places_in alts)) user_lawful
      earlies_lawful s k full e in
      let two = stable_then vs (at_cut (soon_test on choice alts) user) (choice_steps on choice (reads_can user alts) (places_in alts))
      f1 f2 s k full outer.0 in
      let here : has (set_at s choice.0) i ≡ true = subst (λ (xs : List ℕ). has xs i ≡ true) (sym one) (has_here i []) in
      let small = words choice.0 i here in
      let within = get_within alts i a got in
      let fits : i < places_in alts = omega (arith, small, within) in
      let can = choice_strong vs on choice (reads_can user alts) h.of_on h.of_choice can_lawful (places_in alts) s k full two.1 i fits
      here is in
      let far : may_be_late s (greatest (at_set user s)) a ≡ true = sym
      (passes_get (may_be_late s (greatest (at_set user s))) alts i a got) ∙ can in
      found (at user refl h.of_user two.0 far)
    where
      at : (to : At) → user ≡ to → AllAmong vs (at_vars to) → at_cut (soon_test on choice alts) to s ≡ Some s → may_be_late s
          (greatest (at_set user s)) a ≡ true
          → may_be_late s (least (at_set user s)) a ≡ true
      at (Const n) same all stays far =
          let low = ap (λ (t : At). least (at_set t s)) same in
          let high = ap (λ (t : At). greatest (at_set t s)) same in
          let equal : greatest (at_set user s) ≡ least (at_set user s) = omega (arith, low, high) in
          subst (λ (n : ℕ). may_be_late s n a ≡ true) equal far
      at (Var v) same all stays far =
          let within = has_among vs v s (all 0 v (omega arith)) k in
          let some = full v.0 within in
          let y = least (set_at s v.0) in
          let there = least_in (set_at s v.0) some in
          let pass = or_not (sure on s) (nat_le (2 ^ 32) y || may_read choice alts s y)
          (passes_all (soon_test on choice alts s) v.0 s within stays y there) is in
          let small = words v.0 y there in
          let big : nat_le (2 ^ 32) y ≡ false = grind (arith, nat_tests, small) in
          let read : may_read choice alts s y ≡ true = or_last (nat_le (2 ^ 32) y) (may_read choice alts s y) big pass in
          let only = only_here (passes_at (may_be_late s y) alts) i
          (subst (λ (xs : List ℕ). list_any (passes_at (may_be_late s y) alts) xs ≡ true) one read) in
          let low : may_be_late s y a ≡ true = sym (passes_get (may_be_late s y) alts i a got) ∙ only in
          subst (λ (t : At). may_be_late s (least (at_set t s)) a ≡ true) (sym same) low

      found : may_be_late s (least (at_set user s)) a ≡ true
          → (n : ℕ) × (g : ℕ) × (has (act_set a.on s) n ≡ true) × (slice_get a.gaps n ≡ Some g) ×
          (least (at_set a.at s) + g ≤ least (at_set user s))
      found f =
          let r = any_find (λ n. passes_at (λ g. nat_le (least (at_set a.at s) + g) (least (at_set user s))) a.gaps n) (act_set a.on s) f in
          let q = passes_find (λ g. nat_le (least (at_set a.at s) + g) (least (at_set user s))) a.gaps r.0 r.2 in
          let t = q.2 in
          (r.0, q.0, r.1, q.1, grind (arith, nat_tests, t))
