-- One temporary ends before another starts, whatever values are left of their variables.
use Rattle.std.proofs.Common.{ℕ, ◌≡◌, ◌≤◌, ◌⊎◌, Bool, true, false, cond, ◌||◌, List, [], ◌∷◌, get_or}
use Rattle.std.proofs.Common.{nat_le, None, Some, refl, ap, subst, arith, inl, inr}
use Rattle.std.specs.declared.option.Option.{Option}
use Rattle.std.specs.List.{AllByRecursion}
use Rattle.std.proofs.lemmas.Bool.Decides.{nat_tests}
use Rattle.std.proofs.lemmas.List.Elements.{recursion_from_All}
use Rattle.un_base.specs.declared.ids.VarId.{VarId}
use Rattle.un_domains.specs.Sets.{Sets, set_at, has, greatest, IsIn}
use Rattle.un_prop.specs.Among.{AllAmong}
use Rattle.un_prop.specs.AmongLaws.{has_among}
use Rattle.un_prop.specs.Acts.{at_value, is_active, chooses, is_user}
use Rattle.un_prop.specs.Looks.{at_set}
use Rattle.un_prop.specs.LookLaws.{firsts, value_in}
use Rattle.un_prop.specs.Rounds.{HasVars}
use Rattle.un_prop.specs.declared.act.UserOf.{UserOf}
use Rattle.un_prop.specs.declared.act.Temp.{Temp}
use Rattle.un_rect.specs.Spans.{use_time, last_use, ends, may_choose, possible_use, last_possible_use, greatest_end, least_start}
use Rattle.un_rect.specs.Spans.{choice_vars, UserVars, TempVars}
use Rattle.un_rect.specs.Apart.{pair_holds}
use Rattle.un_rect.specs.ApartLaws.{pair_is}

module _ (vs : List VarId) (s : Sets) (k : HasVars vs s) (x : List ℕ) (there : IsIn x s) where
  chosen : (o : Option VarId) (n : ℕ) → AllAmong vs (choice_vars o) → chooses o n x ≡ true → may_choose o n s ≡ true
  chosen None n all e = refl
  chosen (Some v) n all e =
      let is : get_or x v.0 0 ≡ n = grind (arith, nat_tests, e) in
      subst (λ (m : ℕ). has (set_at s v.0) m ≡ true) is (there.each v.0 (has_among vs v s (all 0 v (omega arith)) k))

  use_most : (u : UserOf) → UserVars vs u → use_time x u ≤ possible_use s u
  use_most u hu = by (is_user u x) refl
    where
      by : (c : Bool) → is_user u x ≡ c → cond c (at_value u.at x) 0 ≤ possible_use s u
      by false e = omega arith
      by true e =
          let may = chosen u.choice u.value hu.of_choice (firsts (is_active u.on x) (chooses u.choice u.value x) e).1 in
          let is : possible_use s u ≡ greatest (at_set u.at s) = ap (λ (c : Bool). cond c (greatest (at_set u.at s)) 0) may in
          let most = (value_in vs s x there k u.at hu.of_at).1 in
          omega (arith, is, most)

  last_most : (us : List UserOf) → AllByRecursion (UserVars vs) us → last_use us x ≤ last_possible_use us s
  last_most [] all = omega arith
  last_most (u ∷ us) all = let one = use_most u all.0 in let rest = last_most us all.1 in omega (arith, one, rest)

  ends_most : (a : Temp) → TempVars vs a → ends a x ≤ greatest_end a s
  ends_most a ha =
      let start = (value_in vs s x there k a.at ha.of_at).1 in
      let last = last_most a.users (recursion_from_All (UserVars vs) a.users ha.of_users) in
      omega (arith, start, last)

either : (c d : Bool) → (c || d) ≡ true → (c ≡ true) ⊎ (d ≡ true)
either true d h = inl refl
either false d h = inr h

module _ (vs : List VarId) (a b : Temp) (ha : TempVars vs a) (hb : TempVars vs b) (s : Sets) (k : HasVars vs s) where
  behind : (c d : Temp) → TempVars vs c → TempVars vs d → nat_le (greatest_end c s) (least_start d s) ≡ true → (x : List ℕ) → IsIn x s
      → ends c x ≤ at_value d.at x
  behind c d hc hd e x there =
      let le : greatest_end c s ≤ least_start d s = grind (arith, nat_tests, e) in
      let most = ends_most vs s k x there c hc in
      let start = (value_in vs s x there k d.at hd.of_at).0 in
      omega (arith, le, most, start)

  pub parted_holds : (nat_le (greatest_end a s) (least_start b s) || nat_le (greatest_end b s) (least_start a s)) ≡ true
      → (x : List ℕ) → IsIn x s → pair_holds a b x ≡ true
  parted_holds e x there = pair_is a b x (λ on_a on_b same.
      elim (either (nat_le (greatest_end a s) (least_start b s)) (nat_le (greatest_end b s) (least_start a s)) e) [
        | inl le ↦ inl (behind a b ha hb le x there)
        | inr le ↦ inr (behind b a hb ha le x there)
      ])
