-- Two temporaries that are settled in their order are not cut for it.
use Rattle.std.proofs.Common.{ℕ, zero, suc, ◌≡◌, ◌<◌, ◌≤◌, ◌-◌, Bool, true, false, cond, not, ◌&&◌, ◌||◌, List, [], ◌∷◌, length, max}
use Rattle.std.proofs.Common.{nat_eq, nat_le, nat_lt, None, Some, option_and_then, refl, ap, ◌∙◌, subst, arith}
use Rattle.std.specs.declared.option.Option.{Option}
use Rattle.std.specs.List.{AllByRecursion}
use Rattle.std.proofs.lemmas.Bool.Decides.{nat_tests}
use Rattle.std.proofs.lemmas.List.Elements.{recursion_from_All}
use Rattle.un_base.specs.declared.ids.VarId.{VarId}
use Rattle.un_domains.specs.Sets.{Sets, set_at, has, least, greatest, NoneEmpty}
use Rattle.un_domains.specs.SetLaws.{least-le, has-fold_max}
use Rattle.un_prop.specs.Among.{AllAmong}
use Rattle.un_prop.specs.AmongLaws.{has_among}
use Rattle.un_prop.specs.Acts.{at_vars}
use Rattle.un_prop.specs.ChainLaws.{least_in}
use Rattle.un_prop.specs.LastLaws.{cut_all}
use Rattle.un_prop.specs.Looks.{at_set, sure}
use Rattle.un_prop.specs.LookLaws.{at_some}
use Rattle.un_prop.specs.Rounds.{HasVars}
use Rattle.un_prop.specs.declared.act.At.{At}
use Rattle.un_prop.specs.declared.act.At.TheVariants.{Const, Var}
use Rattle.un_prop.specs.declared.act.UserOf.{UserOf}
use Rattle.un_prop.specs.declared.act.Temp.{Temp}
use Rattle.un_rect.specs.PairLaws.{each_same}
use Rattle.un_rect.specs.Pairs.{at_place}
use Rattle.un_rect.specs.Spans.{choice_vars, UserVars, TempVars, sure_choice, sure_user, may_choose, sure_reading}
use Rattle.un_rect.specs.Spans.{greatest_start, least_start, least_end, last_reading}
use Rattle.un_rect.specs.Orders.{time_cut, choice_cut, late_test, early_test, user_test, reader_test, reader_cut, user_cut, users_cut}
use Rattle.un_rect.specs.Orders.{order_steps}
use Rattle.un_rect.proofs.OrderSteps.{reader_stays}
use Rattle.un_rect.proofs.Refusals.{no_left, no_right}

unmet : (x d : Bool) → x ≡ false → (not x || d) ≡ true
unmet false d e = refl
unmet true d e = absurd (cc e)

met : (x d : Bool) → d ≡ true → (not x || d) ≡ true
met false d e = refl
met true d e = e

other_value : (xs : List ℕ) (n y : ℕ) → has xs n ≡ false → has xs y ≡ true → nat_eq y n ≡ false
other_value xs n y none there = by (nat_eq y n) refl
  where
    by : (c : Bool) → nat_eq y n ≡ c → c ≡ false
    by false e = refl
    by true e = let is : y ≡ n = grind (arith, nat_tests, e) in
        let both : has xs n ≡ true = subst (λ (m : ℕ). has xs m ≡ true) is there in absurd (cc (none, both))

third : (p l e : Bool) → e ≡ false → not (p && (l && e)) ≡ true
third p l e h = ap not (no_right p (l && e) (no_right l e h))

module _ (vs : List VarId) (s : Sets) (k : HasVars vs s) (full : NoneEmpty s) where
  time_idle : (q : Sets → ℕ → Bool) (at : At) → AllAmong vs (at_vars at) → ((y : ℕ) → has (at_set at s) y ≡ true → q s y ≡ true)
      → time_cut q at s ≡ Some s
  time_idle q (Const n) all h = refl
  time_idle q (Var v) all h = cut_all (q s) v.0 s (has_among vs v s (all 0 v (omega arith)) k) full h

  choice_idle : (q : Sets → ℕ → Bool) (o : Option VarId) → AllAmong vs (choice_vars o)
      → ((v : VarId) (y : ℕ) → o ≡ Some v → has (set_at s v.0) y ≡ true → q s y ≡ true) → choice_cut q o s ≡ Some s
  choice_idle q None all h = refl
  choice_idle q (Some v) all h = cut_all (q s) v.0 s (has_among vs v s (all 0 v (omega arith)) k) full (λ y there. h v y refl there)

  spans : (at : At) → AllAmong vs (at_vars at) → least (at_set at s) ≤ greatest (at_set at s)
  spans at all = has-fold_max 0 (at_set at s) (least (at_set at s)) (least_in (at_set at s) (at_some vs s full at all k))

  module _ (b : Temp) (u : UserOf) (hu : UserVars vs u) where
    in_time : (p c : Bool) → sure u.on s ≡ p → sure_choice u.choice u.value s ≡ c
        → cond p (cond c (greatest (at_set u.at s)) (cond (may_choose u.choice u.value s) (least (at_set u.at s)) 0)) 0 ≤ greatest_start b s
        → (y : ℕ) → has (at_set u.at s) y ≡ true → user_test b u s y ≡ true
    in_time false c ep ec le y there = unmet (sure_user u s) (nat_le y (greatest_start b s))
        (no_left (sure u.on s) (sure_choice u.choice u.value s) ep)
    in_time true false ep ec le y there = unmet (sure_user u s) (nat_le y (greatest_start b s))
        (no_right (sure u.on s) (sure_choice u.choice u.value s) ec)
    in_time true true ep ec le y there =
        let below = has-fold_max 0 (at_set u.at s) y there in
        let most : greatest (at_set u.at s) ≤ greatest_start b s = le in
        let fits : y ≤ greatest_start b s = omega (arith, below, most) in
        let passes : nat_le y (greatest_start b s) ≡ true = grind (arith, nat_tests, fits) in
        met (sure_user u s) (nat_le y (greatest_start b s)) passes

    early_reader : least (at_set u.at s) ≤ greatest_start b s → (y : ℕ) → reader_test b u s y ≡ true
    early_reader le y =
        let no : nat_lt (greatest_start b s) (least (at_set u.at s)) ≡ false = grind (arith, nat_tests, le) in
        reader_stays b u s y (no_right (sure u.on s) (nat_lt (greatest_start b s) (least (at_set u.at s))) no)

    reads_on : (p c m : Bool) → sure u.on s ≡ p → sure_choice u.choice u.value s ≡ c → may_choose u.choice u.value s ≡ m
        → cond p (cond c (greatest (at_set u.at s)) (cond m (least (at_set u.at s)) 0)) 0 ≤ greatest_start b s
        → (v : VarId) (y : ℕ) → u.choice ≡ Some v → has (set_at s v.0) y ≡ true → reader_test b u s y ≡ true
    reads_on false c m ep ec em le v y is there = reader_stays b u s y
        (no_left (sure u.on s) (nat_lt (greatest_start b s) (least (at_set u.at s))) ep)
    reads_on true true m ep ec em le v y is there =
        let span = spans u.at hu.of_at in
        let most : greatest (at_set u.at s) ≤ greatest_start b s = le in
        early_reader (omega (arith, span, most)) y
    reads_on true false true ep ec em le v y is there = early_reader le y
    reads_on true false false ep ec em le v y is there =
        let none : has (set_at s v.0) u.value ≡ false = subst (λ (o : Option VarId). may_choose o u.value s ≡ false) is em in
        third (sure u.on s) (nat_lt (greatest_start b s) (least (at_set u.at s))) (nat_eq y u.value)
        (other_value (set_at s v.0) u.value y none there)

    user_idle : sure_reading s u ≤ greatest_start b s → user_cut b u s ≡ Some s
    user_idle le =
        ap (option_and_then (reader_cut b u)) (time_idle (user_test b u) u.at hu.of_at
        (in_time (sure u.on s) (sure_choice u.choice u.value s) refl refl le))
        ∙ choice_idle (reader_test b u) u.choice hu.of_choice
        (reads_on (sure u.on s) (sure_choice u.choice u.value s) (may_choose u.choice u.value s) refl refl refl le)

  users_idle : (b : Temp) (us : List UserOf) → AllByRecursion (UserVars vs) us → last_reading us s ≤ greatest_start b s → (i : ℕ)
      → at_place (user_cut b) us i s ≡ Some s
  users_idle b [] all le i = refl
  users_idle b (u ∷ us) all le zero =
      let most : max (sure_reading s u) (last_reading us s) ≤ greatest_start b s = le in
      user_idle b u all.0 (omega (arith, most))
  users_idle b (u ∷ us) all le (suc i) =
      let most : max (sure_reading s u) (last_reading us s) ≤ greatest_start b s = le in
      users_idle b us all.1 (omega (arith, most)) i

  -- the second starts behind the first and its readings
  pub steps_idle : (a b : Temp) → TempVars vs a → TempVars vs b → least_end a s ≤ least_start b s → greatest_start a s < greatest_start b s
      → last_reading a.users s ≤ greatest_start b s → order_steps a b s ≡ Some s
  steps_idle a b ha hb late early reads =
      let second : time_cut (late_test a) b.at s ≡ Some s = time_idle (late_test a) b.at hb.of_at (λ y there.
      (let le = least-le (at_set b.at s) y there in let fits : least_end a s ≤ y = omega (arith, late, le) in
      grind (arith, nat_tests, fits))) in
      let first : time_cut (early_test b) a.at s ≡ Some s = time_idle (early_test b) a.at ha.of_at (λ y there.
      (let le = has-fold_max 0 (at_set a.at s) y there in let fits : y ≤ greatest_start b s - 1 = omega (arith, early, le) in
      grind (arith, nat_tests, fits))) in
      ap (λ (o : Option Sets). option_and_then (users_cut b a.users (length a.users)) (option_and_then (time_cut (early_test b) a.at) o))
      second
      ∙ ap (option_and_then (users_cut b a.users (length a.users))) first
      ∙ each_same (at_place (user_cut b) a.users) (length a.users) s
      (users_idle b a.users (recursion_from_All (UserVars vs) a.users ha.of_users) reads)
