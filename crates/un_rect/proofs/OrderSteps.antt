-- What the code sees of an order.
use Rattle.std.proofs.Common.{ℕ, ◌≡◌, ◌<◌, ◌≤◌, ◌+◌, Bool, true, false, cond, not, ◌&&◌, List, length, nat_eq, nat_le, nat_lt, Some}
use Rattle.std.proofs.Common.{option_and_then, refl, ap, ◌∙◌, subst, arith}
use Rattle.std.specs.declared.option.Option.{Option}
use Rattle.std.specs.List.{AllByRecursion}
use Rattle.std.proofs.lemmas.Bool.Decides.{nat_tests}
use Rattle.un_base.specs.declared.ids.VarId.{VarId}
use Rattle.un_domains.specs.Sets.{Sets, set_at, least, NoneEmpty}
use Rattle.un_domains.specs.OrderLaws.{same_test}
use Rattle.un_prop.specs.Among.{among, AllAmong}
use Rattle.un_prop.specs.Acts.{at_vars}
use Rattle.un_prop.specs.Looks.{at_set, sure}
use Rattle.un_prop.specs.Rounds.{HasVars}
use Rattle.un_prop.specs.declared.act.At.{At}
use Rattle.un_prop.specs.declared.act.At.TheVariants.{Var}
use Rattle.un_prop.specs.declared.act.UserOf.{UserOf}
use Rattle.un_prop.specs.declared.act.Temp.{Temp}
use Rattle.un_rect.specs.Spans.{greatest_start, least_end, is_only, choice_vars, TempVars}
use Rattle.un_rect.specs.Orders.{share_one, comes_first, reader_test, order_steps, order_cut, order_pair}
use Rattle.un_rect.specs.Pairs.{at_place, each_before}
use Rattle.un_rect.specs.PairLaws.{each_same, at_same}

pub time_in : (vs : List VarId) (v : VarId) (at : At) → at ≡ Var v → AllAmong vs (at_vars at) → among vs v ≡ true
time_in vs v at e all = subst (λ (a : At). AllAmong vs (at_vars a)) e all 0 v (omega arith)

pub choice_in : (vs : List VarId) (v : VarId) (o : Option VarId) → o ≡ Some v → AllAmong vs (choice_vars o) → among vs v ≡ true
choice_in vs v o e all = subst (λ (p : Option VarId). AllAmong vs (choice_vars p)) e all 0 v (omega arith)

pub late_is : (last end y : ℕ) → last + 1 ≡ end → nat_le end y ≡ nat_lt last y
late_is last end y is = same_test (nat_le end y) (nat_lt last y)
    (λ h. let le : end ≤ y = grind (arith, nat_tests, h) in let lt : last < y = omega (arith, le, is) in grind (arith, nat_tests, lt))
    (λ h. let lt : last < y = grind (arith, nat_tests, h) in let le : end ≤ y = omega (arith, lt, is) in grind (arith, nat_tests, le))

-- whether a place goes
module _ (b : Temp) (u : UserOf) (s : Sets) (y : ℕ) where
  three : (p q r : Bool) → (p && (q && r)) ≡ ((p && q) && r)
  three true q r = refl
  three false q r = refl

  pub reader_stays : (sure u.on s && nat_lt (greatest_start b s) (least (at_set u.at s))) ≡ false → reader_test b u s y ≡ true
  reader_stays e = ap not (three (sure u.on s) (nat_lt (greatest_start b s) (least (at_set u.at s))) (nat_eq y u.value))
      ∙ ap (λ (c : Bool). not (c && nat_eq y u.value)) e

  pub reader_goes : (sure u.on s && nat_lt (greatest_start b s) (least (at_set u.at s))) ≡ true → reader_test b u s y ≡ not
      (nat_eq y u.value)
  reader_goes e = ap not (three (sure u.on s) (nat_lt (greatest_start b s) (least (at_set u.at s))) (nat_eq y u.value))
      ∙ ap (λ (c : Bool). not (c && nat_eq y u.value)) e

-- the second has other than one register
module _ (a b : Temp) (s : Sets) (many : nat_eq (length (set_at s b.reg.0)) 1 ≡ false) where
  second : (c d : Bool) → d ≡ false → (c && d) ≡ false
  second true d e = e
  second false d e = refl

  pub order_idle : order_pair a b s ≡ Some s
  order_idle =
      let none : share_one a b s ≡ false = second (nat_eq (length (set_at s a.reg.0)) 1)
      (is_only (set_at s b.reg.0) (least (set_at s a.reg.0)))
      (ap (λ (c : Bool). c && nat_eq (least (set_at s b.reg.0)) (least (set_at s a.reg.0))) many) in
      ap (λ (c : Bool). option_and_then (order_cut b a)
      (cond (c && (sure a.on s && (sure b.on s && nat_lt (greatest_start a s) (least_end b s)))) (order_steps a b s) (Some s))) none
      ∙ ap (λ (c : Bool). cond ((c && is_only (set_at s a.reg.0) (least (set_at s b.reg.0)))
      && (sure b.on s && (sure a.on s && nat_lt (greatest_start b s) (least_end a s)))) (order_steps b a s) (Some s)) many

-- they do not have the same one register left
module _ (a b : Temp) (s : Sets) (other : share_one a b s ≡ false) where
  turned : (p q : Bool) (m n : ℕ) → (p && (q && nat_eq n m)) ≡ false → (q && (p && nat_eq m n)) ≡ false
  turned false true m n e = refl
  turned false false m n e = refl
  turned true false m n e = refl
  turned true true m n e = same_test (nat_eq m n) (nat_eq n m) (λ h. let is : m ≡ n = grind (arith, nat_tests, h) in
      grind (arith, nat_tests, is)) (λ h. let is : n ≡ m = grind (arith, nat_tests, h) in grind (arith, nat_tests, is)) ∙ e

  pub pair_idle : order_pair a b s ≡ Some s
  pair_idle =
      let back : share_one b a s ≡ false = turned (nat_eq (length (set_at s a.reg.0)) 1) (nat_eq (length (set_at s b.reg.0)) 1)
      (least (set_at s a.reg.0)) (least (set_at s b.reg.0)) other in
      ap (λ (c : Bool). option_and_then (order_cut b a)
      (cond (c && (sure a.on s && (sure b.on s && nat_lt (greatest_start a s) (least_end b s)))) (order_steps a b s) (Some s))) other
      ∙ ap (λ (c : Bool). cond (c && (sure b.on s && (sure a.on s && nat_lt (greatest_start b s) (least_end a s)))) (order_steps b a s)
      (Some s)) back

-- the second is not sure
module _ (a b : Temp) (s : Sets) (unsure : sure b.on s ≡ false) where
  not_first : (c d : Bool) → (c && (d && false)) ≡ false
  not_first true true = refl
  not_first true false = refl
  not_first false d = refl

  not_second : (c : Bool) → (c && false) ≡ false
  not_second true = refl
  not_second false = refl

  pub order_unsure : order_pair a b s ≡ Some s
  order_unsure =
      let before : comes_first a b s ≡ false = ap (λ (c : Bool). share_one a b s
      && (sure a.on s && (c && nat_lt (greatest_start a s) (least_end b s)))) unsure ∙ not_first (share_one a b s) (sure a.on s) in
      let after : comes_first b a s ≡ false = ap (λ (c : Bool). share_one b a s
      && (c && (sure a.on s && nat_lt (greatest_start b s) (least_end a s)))) unsure ∙ not_second (share_one b a s) in
      ap (λ (c : Bool). option_and_then (order_cut b a) (cond c (order_steps a b s) (Some s))) before
      ∙ ap (λ (c : Bool). cond c (order_steps b a s) (Some s)) after

-- so there is nothing to do in such rows
pub row_idle : (vs : List VarId) (temps : List Temp) (b : Temp) (s : Sets) → AllByRecursion (TempVars vs) temps → TempVars vs b
    → HasVars vs s → NoneEmpty s
    → nat_eq (length (set_at s b.reg.0)) 1 ≡ false → (n : ℕ) → each_before order_pair temps b n s ≡ Some s
row_idle vs temps b s all hb k full e n = each_same (at_place (λ a. order_pair a b) temps) n s
    (at_same (TempVars vs) (λ a. order_pair a b) temps s all (λ a ha. order_idle a b s e))

pub row_unsure : (vs : List VarId) (temps : List Temp) (b : Temp) (s : Sets) → AllByRecursion (TempVars vs) temps
    → sure b.on s ≡ false → (n : ℕ) → each_before order_pair temps b n s ≡ Some s
row_unsure vs temps b s all e n = each_same (at_place (λ a. order_pair a b) temps) n s
    (at_same (TempVars vs) (λ a. order_pair a b) temps s all (λ a ha. order_unsure a b s e))
