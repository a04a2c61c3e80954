-- Laws of looks at times and activities.
use Rattle.std.proofs.Common.{ℕ, ◌≡◌, ◌<◌, ◌≤◌, Bool, true, false, not, ◌&&◌, ◌||◌, List, [], length, get_or, nat_eq, refl, ap, subst}
use Rattle.std.proofs.Common.{arith}
use Rattle.std.proofs.lemmas.Bool.Decides.{nat_tests}
use Rattle.std.proofs.lemmas.List.Elements.{All-contains}
use Rattle.un_base.specs.declared.ids.VarId.{VarId}
use Rattle.un_domains.specs.Sets.{Sets, set_at, has, least, greatest, IsIn, NoneEmpty}
use Rattle.un_domains.specs.SetLaws.{least-le, has-fold_max}
use Rattle.un_domains.specs.Order.{Below}
use Rattle.un_domains.specs.OrderLaws.{least_below, greatest_below, has_below, has_here}
use Rattle.un_prop.specs.Rounds.{HasVars}
use Rattle.un_prop.specs.Lawful.{Agree}
use Rattle.un_prop.specs.Among.{among, AllAmong}
use Rattle.un_prop.specs.AmongLaws.{in_list, has_among}
use Rattle.un_prop.specs.Acts.{act_vars, act_number, is_active, at_vars, at_value}
use Rattle.un_prop.specs.Looks.{at_set, act_set, sure}
use Rattle.un_prop.specs.declared.act.Act.{Act}
use Rattle.un_prop.specs.declared.act.Act.TheVariants.{Always, Var as ActVar}
use Rattle.un_prop.specs.declared.act.At.{At}
use Rattle.un_prop.specs.declared.act.At.TheVariants.{Const, Var}

-- Tests

pub not_or : (b c : Bool) → (b ≡ true → c ≡ true) → (not b || c) ≡ true
not_or true c h = h refl
not_or false c h = refl

pub or_not : (b c : Bool) → (not b || c) ≡ true → b ≡ true → c ≡ true
or_not true c h e = h
or_not false c h e = absurd (cc e)

pub both : (b c : Bool) → b ≡ true → c ≡ true → (b && c) ≡ true
both true c h k = k
both false c h k = absurd (cc h)

pub firsts : (b c : Bool) → (b && c) ≡ true → (b ≡ true) × (c ≡ true)
firsts true c h = (refl, h)
firsts false c h = absurd (cc h)

pub not_true : (b : Bool) → not b ≡ true → b ≡ true → ⊥
not_true true h e = cc h
not_true false h e = cc e

pub not_from : (b : Bool) → (b ≡ true → ⊥) → not b ≡ true
not_from true h = absurd (h refl)
not_from false h = refl

-- Looks

module _ (vs : List VarId) where
  pub set_alike : (s t : Sets) → Agree vs s t → (v : VarId) → among vs v ≡ true → set_at s v.0 ≡ set_at t v.0
  set_alike s t a v h = All-contains (λ u. set_at s u.0 ≡ set_at t u.0) vs v a (in_list vs v h)

  pub at_alike : (s t : Sets) → Agree vs s t → (at : At) → AllAmong vs (at_vars at) → at_set at s ≡ at_set at t
  at_alike s t a (Const n) all = refl
  at_alike s t a (Var v) all = set_alike s t a v (all 0 v (omega arith))

  pub sure_alike : (s t : Sets) → Agree vs s t → (on : Act) → AllAmong vs (act_vars on) → sure on s ≡ sure on t
  sure_alike s t a Always all = refl
  sure_alike s t a (ActVar v) all = ap (λ (xs : List ℕ). not (has xs 0)) (set_alike s t a v (all 0 v (omega arith)))

  pub at_some : (t : Sets) → NoneEmpty t → (at : At) → AllAmong vs (at_vars at) → HasVars vs t → 0 < length (at_set at t)
  at_some t full (Const n) all k = omega arith
  at_some t full (Var v) all k = full v.0 (has_among vs v t (all 0 v (omega arith)) k)

  pub known_below : (t s : Sets) → Below t s → HasVars vs s → HasVars vs t
  known_below t s le k i d lt = rw le.long (k i d lt)

  pub least_at_below : (t s : Sets) → NoneEmpty t → Below t s → (at : At) → AllAmong vs (at_vars at) → HasVars vs s
      → least (at_set at s) ≤ least (at_set at t)
  least_at_below t s full le (Const n) all k = omega arith
  least_at_below t s full le (Var v) all k = least_below t s v.0 le
      (full v.0 (has_among vs v t (all 0 v (omega arith)) (known_below t s le k)))

  pub greatest_at_below : (t s : Sets) → Below t s → (at : At) → greatest (at_set at t) ≤ greatest (at_set at s)
  greatest_at_below t s le (Const n) = omega arith
  greatest_at_below t s le (Var v) = greatest_below t s v.0 le

  pub sure_below : (t s : Sets) → Below t s → (on : Act) → sure on s ≡ true → sure on t ≡ true
  sure_below t s le Always h = refl
  sure_below t s le (ActVar v) h = not_from (has (set_at t v.0) 0) (λ e. not_true (has (set_at s v.0) 0) h (has_below t s v.0 0 le e))

  pub sure_active : (s : Sets) (x : List ℕ) → IsIn x s → HasVars vs s → (on : Act) → AllAmong vs (act_vars on) → sure on s ≡ true
      → is_active on x ≡ true
  sure_active s x there k Always all h = refl
  sure_active s x there k (ActVar v) all h = not_from (nat_eq (get_or x v.0 0) 0) (λ e.
      let zero : get_or x v.0 0 ≡ 0 = grind (arith, nat_tests) in
      not_true (has (set_at s v.0) 0) h (subst (λ (n : ℕ). has (set_at s v.0) n ≡ true) zero
      (there.each v.0 (has_among vs v s (all 0 v (omega arith)) k))))

  pub value_in : (s : Sets) (x : List ℕ) → IsIn x s → HasVars vs s → (at : At) → AllAmong vs (at_vars at)
      → (least (at_set at s) ≤ at_value at x) × (at_value at x ≤ greatest (at_set at s))
  value_in s x there k (Const n) all = (omega arith, omega arith)
  value_in s x there k (Var v) all =
      let h = there.each v.0 (has_among vs v s (all 0 v (omega arith)) k) in
      (least-le (set_at s v.0) (get_or x v.0 0) h, has-fold_max 0 (set_at s v.0) (get_or x v.0 0) h)

  -- the numbers of an activity
  pub act_alike : (s t : Sets) → Agree vs s t → (on : Act) → AllAmong vs (act_vars on) → act_set on s ≡ act_set on t
  act_alike s t a Always all = refl
  act_alike s t a (ActVar v) all = set_alike s t a v (all 0 v (omega arith))

  pub act_below : (t s : Sets) (n : ℕ) → Below t s → (on : Act) → has (act_set on t) n ≡ true → has (act_set on s) n ≡ true
  act_below t s n le Always h = h
  act_below t s n le (ActVar v) h = has_below t s v.0 n le h

  pub number_in : (s : Sets) (x : List ℕ) → IsIn x s → HasVars vs s → (on : Act) → AllAmong vs (act_vars on)
      → has (act_set on s) (act_number on x) ≡ true
  number_in s x there k Always all = has_here 1 []
  number_in s x there k (ActVar v) all = there.each v.0 (has_among vs v s (all 0 v (omega arith)) k)

pub known_of : (vs us : List VarId) (s : Sets) → AllAmong vs us → HasVars vs s → HasVars us s
known_of vs us s all k i d lt = has_among vs (get_or us i d) s (all i d lt) k
