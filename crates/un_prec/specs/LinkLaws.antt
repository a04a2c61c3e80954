-- Laws of links.
use Rattle.std.proofs.Common.{ℕ, ◌≡◌, ◌≢◌, ◌<◌, ◌≤◌, ◌+◌, ◌-◌, ◌^◌, Bool, true, false, not, ◌&&◌, ◌||◌, List, min}
use Rattle.std.proofs.Common.{nat_le, nat_lt, Some, refl, sym, ap, ◌∙◌, arith}
use Rattle.std.proofs.lemmas.Bool.Decides.{nat_tests}
use Rattle.un_base.specs.declared.ids.VarId.{VarId}
use Rattle.un_domains.specs.Sets.{Sets, has, cut_by, least, greatest, IsIn, NoneEmpty, Kept}
use Rattle.un_domains.specs.CutLaws.{cut_by_kept}
use Rattle.un_domains.specs.Order.{Below}
use Rattle.un_domains.specs.OrderLaws.{same_test}
use Rattle.un_prop.specs.Rounds.{HasVars}
use Rattle.un_prop.specs.Parts.{SameAt}
use Rattle.un_prop.specs.Lawful.{Agree, Lawful, LawfulTest}
use Rattle.un_prop.specs.Steps.{lawful_cut_by, lawful_some}
use Rattle.un_prop.specs.Among.{AllAmong}
use Rattle.un_prop.specs.AmongLaws.{in_list, has_among, same_active, same_time}
use Rattle.un_prop.specs.Acts.{is_active, at_vars, at_value}
use Rattle.un_prop.specs.Looks.{at_set, sure}
use Rattle.un_prop.specs.LookLaws.{not_or, or_not, both, firsts, not_true, not_from, at_alike, sure_alike, least_at_below}
use Rattle.un_prop.specs.LookLaws.{greatest_at_below, sure_below, sure_active, value_in}
use Rattle.un_prop.specs.declared.act.At.{At}
use Rattle.un_prop.specs.declared.act.At.TheVariants.{Const, Var}
use Rattle.un_prop.specs.LastLaws.{cut_all, cut_same}
use Rattle.un_prec.specs.declared.link.Link.{Link}
use Rattle.un_prec.specs.Links.{link_holds, LinkVars, both_sure, at_cut, later_test, earlier_test, apart_test, close_test}

-- A cut of a time

pub at_same : (vs : List VarId) (q : Sets → ℕ → Bool) (at : At) (s : Sets) → AllAmong vs (at_vars at) → HasVars vs s → NoneEmpty s
    → ((y : ℕ) → q s y ≡ true)
    → at_cut q at s ≡ Some s
at_same vs q (Const n) s all k full h = refl
at_same vs q (Var v) s all k full h = cut_all (q s) v.0 s (has_among vs v s (all 0 v (omega arith)) k) full (λ y there. h y)

pub at_is : (q : Sets → ℕ → Bool) (p : ℕ → Bool) (at : At) (v : VarId) (s : Sets) → at ≡ Var v → ((y : ℕ) → q s y ≡ p y)
    → at_cut q at s ≡ cut_by p v.0 s
at_is q p at v s e h = ap (λ (a : At). at_cut q a s) e ∙ cut_same (q s) p v.0 s (λ y there. h y)

pub not_sure : (b c : Bool) → b ≡ false → (not b || c) ≡ true
not_sure true c e = absurd (cc e)
not_sure false c e = refl

pub is_sure_or : (b c : Bool) → b ≡ true → (not b || c) ≡ c
is_sure_or true c e = refl
is_sure_or false c e = absurd (cc e)

-- the later test as the code has it
pub later_is : (l : Link) (s : Sets) (low below y : ℕ) → both_sure l s ≡ true → low ≡ least (at_set l.from s) + l.gap → low ≢ 0
    → below ≡ min (low - 1) (2 ^ 32 - 1)
    → later_test l s y ≡ nat_lt below y
later_is l s low below y b low_is some below_is =
    is_sure_or (both_sure l s) (nat_le (min (least (at_set l.from s) + l.gap) (2 ^ 32)) y) b
    ∙ same_test (nat_le (min (least (at_set l.from s) + l.gap) (2 ^ 32)) y) (nat_lt below y)
    (λ h. grind (arith, nat_tests)) (λ h. grind (arith, nat_tests))

pub later_zero : (l : Link) (s : Sets) (low y : ℕ) → both_sure l s ≡ true → low ≡ least (at_set l.from s) + l.gap → low ≡ 0
    → later_test l s y ≡ true
later_zero l s low y b low_is none = is_sure_or (both_sure l s) (nat_le (min (least (at_set l.from s) + l.gap) (2 ^ 32)) y) b
    ∙ grind (arith, nat_tests)

pub at_lawful : (vs : List VarId) (q : Sets → ℕ → Bool) (at : At) → AllAmong vs (at_vars at) → LawfulTest vs q → Lawful vs (at_cut q at)
at_lawful vs q (Const n) all h = lawful_some vs
at_lawful vs q (Var v) all h = lawful_cut_by vs v q (in_list vs v (all 0 v (omega arith))) h

pub at_keeps : (vs : List VarId) (q : Sets → ℕ → Bool) (at : At) → AllAmong vs (at_vars at) → (s : Sets) (x : List ℕ) → HasVars vs s
    → IsIn x s
    → q s (at_value at x) ≡ true → Kept x (at_cut q at s)
at_keeps vs q (Const n) all s x k there h = there
at_keeps vs q (Var v) all s x k there h = cut_by_kept (q s) v.0 s x (has_among vs v s (all 0 v (omega arith)) k) there h

-- the test of a close link as the code has it
pub close_is : (l : Link) (s : Sets) (low below y : ℕ) → both_sure l s ≡ true → low ≡ least (at_set l.to s) → l.gap < low
    → below ≡ low - l.gap - 1 → close_test l s y ≡ nat_lt below y
close_is l s low below y b low_is more below_is =
    is_sure_or (both_sure l s) (nat_le (least (at_set l.to s)) (y + l.gap)) b
    ∙ same_test (nat_le (least (at_set l.to s)) (y + l.gap)) (nat_lt below y) (λ h. grind (arith, nat_tests))
    (λ h. grind (arith, nat_tests))

pub close_all : (l : Link) (s : Sets) (low y : ℕ) → both_sure l s ≡ true → low ≡ least (at_set l.to s) → low ≤ l.gap
    → close_test l s y ≡ true
close_all l s low y b low_is few = is_sure_or (both_sure l s) (nat_le (least (at_set l.to s)) (y + l.gap)) b ∙ grind (arith, nat_tests)

pub apart_unsure : (l : Link) (s : Sets) (y : ℕ) → both_sure l s ≡ false → apart_test l s y ≡ true
apart_unsure l s y e = not_from (both_sure l s && nat_lt (greatest (at_set l.to s)) (least (at_set l.from s) + l.gap)) (λ bad.
    cc (sym e ∙ (firsts (both_sure l s) (nat_lt (greatest (at_set l.to s)) (least (at_set l.from s) + l.gap)) bad).0))

pub apart_near : (l : Link) (s : Sets) (y : ℕ) → least (at_set l.from s) + l.gap ≤ greatest (at_set l.to s) → apart_test l s y ≡ true
apart_near l s y near = not_from (both_sure l s && nat_lt (greatest (at_set l.to s)) (least (at_set l.from s) + l.gap)) (λ bad.
    let far = (firsts (both_sure l s) (nat_lt (greatest (at_set l.to s)) (least (at_set l.from s) + l.gap)) bad).1 in
    let no : nat_lt (greatest (at_set l.to s)) (least (at_set l.from s) + l.gap) ≡ false = grind (arith, nat_tests, near) in
    cc (sym far ∙ no))

pub apart_far : (l : Link) (s : Sets) (y : ℕ) → both_sure l s ≡ true → greatest (at_set l.to s) < least (at_set l.from s) + l.gap
    → apart_test l s y ≡ false
apart_far l s y e far = ap not (both (both_sure l s) (nat_lt (greatest (at_set l.to s)) (least (at_set l.from s) + l.gap)) e
    (grind (arith, nat_tests, far)))

module _ (vs : List VarId) (l : Link) (h : LinkVars vs l) where
  both_below : (t s : Sets) → Below t s → both_sure l s ≡ true → both_sure l t ≡ true
  both_below t s le e =
      let two = firsts (sure l.from_on s) (sure l.to_on s) e in
      both (sure l.from_on t) (sure l.to_on t) (sure_below vs t s le l.from_on two.0) (sure_below vs t s le l.to_on two.1)

  both_alike : (s t : Sets) → Agree vs s t → both_sure l s ≡ both_sure l t
  both_alike s t a = ap (λ (b : Bool). b && sure l.to_on s) (sure_alike vs s t a l.from_on h.of_from_on)
      ∙ ap (λ (b : Bool). sure l.from_on t && b) (sure_alike vs s t a l.to_on h.of_to_on)

  -- what holds of a link whose ends are sure
  pub sure_holds : (s : Sets) (x : List ℕ) → HasVars vs s → IsIn x s → link_holds l x ≡ true → both_sure l s ≡ true
      → at_value l.from x + l.gap ≤ at_value l.to x
  sure_holds s x k there e b =
      let two = firsts (sure l.from_on s) (sure l.to_on s) b in
      let active = both (is_active l.from_on x) (is_active l.to_on x) (sure_active vs s x there k l.from_on h.of_from_on two.0)
      (sure_active vs s x there k l.to_on h.of_to_on two.1) in
      let le = or_not (is_active l.from_on x && is_active l.to_on x) (nat_le (at_value l.from x + l.gap) (at_value l.to x)) e active in
      grind (arith, nat_tests, le)

  pub link_looks : (x y : List ℕ) → SameAt vs x y → link_holds l x ≡ link_holds l y
  link_looks x y same =
      let a = same_active vs x y same l.from_on h.of_from_on in
      let b = same_active vs x y same l.to_on h.of_to_on in
      let c = same_time vs x y same l.from h.of_from in
      let d = same_time vs x y same l.to h.of_to in
      ap (λ (p : Bool). not (p && is_active l.to_on x) || nat_le (at_value l.from x + l.gap) (at_value l.to x)) a
      ∙ (ap (λ (p : Bool). not (is_active l.from_on y && p) || nat_le (at_value l.from x + l.gap) (at_value l.to x)) b
      ∙ (ap (λ (n : ℕ). not (is_active l.from_on y && is_active l.to_on y) || nat_le (n + l.gap) (at_value l.to x)) c
      ∙ ap (λ (n : ℕ). not (is_active l.from_on y && is_active l.to_on y) || nat_le (at_value l.from y + l.gap) n) d))

  pub later_lawful : LawfulTest vs (later_test l)
  later_lawful = record {
    monotone = λ t s y k full le e. not_or (both_sure l s) (nat_le (min (least (at_set l.from s) + l.gap) (2 ^ 32)) y) (λ b.
        let at = or_not (both_sure l t) (nat_le (min (least (at_set l.from t) + l.gap) (2 ^ 32)) y) e (both_below t s le b) in
        let low = least_at_below vs t s full le l.from h.of_from k in
        grind (arith, nat_tests, at, low));
    local = λ s t y a. ap (λ (b : Bool). not b || nat_le (min (least (at_set l.from s) + l.gap) (2 ^ 32)) y) (both_alike s t a)
        ∙ ap (λ (xs : List ℕ). not (both_sure l t) || nat_le (min (least xs + l.gap) (2 ^ 32)) y) (at_alike vs s t a l.from h.of_from);
  }

  pub later_keeps : (s : Sets) (x : List ℕ) → HasVars vs s → IsIn x s → link_holds l x ≡ true → later_test l s (at_value l.to x) ≡ true
  later_keeps s x k there e = not_or (both_sure l s) (nat_le (min (least (at_set l.from s) + l.gap) (2 ^ 32)) (at_value l.to x)) (λ b.
      let gap = sure_holds s x k there e b in
      let low = (value_in vs s x there k l.from h.of_from).0 in
      grind (arith, nat_tests, gap, low))

  pub earlier_lawful : LawfulTest vs (earlier_test l)
  earlier_lawful = record {
    monotone = λ t s y k full le e. not_or (both_sure l s) (nat_le y (greatest (at_set l.to s) - l.gap)) (λ b.
        let at = or_not (both_sure l t) (nat_le y (greatest (at_set l.to t) - l.gap)) e (both_below t s le b) in
        let high = greatest_at_below vs t s le l.to in
        grind (arith, nat_tests, at, high));
    local = λ s t y a. ap (λ (b : Bool). not b || nat_le y (greatest (at_set l.to s) - l.gap)) (both_alike s t a)
        ∙ ap (λ (xs : List ℕ). not (both_sure l t) || nat_le y (greatest xs - l.gap)) (at_alike vs s t a l.to h.of_to);
  }

  pub earlier_keeps : (s : Sets) (x : List ℕ) → HasVars vs s → IsIn x s → link_holds l x ≡ true
      → earlier_test l s (at_value l.from x) ≡ true
  earlier_keeps s x k there e = not_or (both_sure l s) (nat_le (at_value l.from x) (greatest (at_set l.to s) - l.gap)) (λ b.
      let gap = sure_holds s x k there e b in
      let high = (value_in vs s x there k l.to h.of_to).1 in
      grind (arith, nat_tests, gap, high))

  pub apart_lawful : LawfulTest vs (apart_test l)
  apart_lawful = record {
    monotone = λ t s y k full le e. not_from (both_sure l s && nat_lt (greatest (at_set l.to s)) (least (at_set l.from s) + l.gap)) (λ bad.
        let two = firsts (both_sure l s) (nat_lt (greatest (at_set l.to s)) (least (at_set l.from s) + l.gap)) bad in
        let far = two.1 in
        let low = least_at_below vs t s full le l.from h.of_from k in
        let high = greatest_at_below vs t s le l.to in
        not_true (both_sure l t && nat_lt (greatest (at_set l.to t)) (least (at_set l.from t) + l.gap)) e
        (both (both_sure l t) (nat_lt (greatest (at_set l.to t)) (least (at_set l.from t) + l.gap)) (both_below t s le two.0)
        (grind (arith, nat_tests, far, low, high))));
    local = λ s t y a. ap (λ (b : Bool). not (b && nat_lt (greatest (at_set l.to s)) (least (at_set l.from s) + l.gap))) (both_alike s t a)
        ∙ (ap (λ (xs : List ℕ). not (both_sure l t && nat_lt (greatest xs) (least (at_set l.from s) + l.gap)))
        (at_alike vs s t a l.to h.of_to)
        ∙ ap (λ (xs : List ℕ). not (both_sure l t && nat_lt (greatest (at_set l.to t)) (least xs + l.gap)))
        (at_alike vs s t a l.from h.of_from));
  }

  pub apart_keeps : (s : Sets) (x : List ℕ) (y : ℕ) → HasVars vs s → IsIn x s → link_holds l x ≡ true → apart_test l s y ≡ true
  apart_keeps s x y k there e = not_from (both_sure l s && nat_lt (greatest (at_set l.to s)) (least (at_set l.from s) + l.gap)) (λ bad.
      let two = firsts (both_sure l s) (nat_lt (greatest (at_set l.to s)) (least (at_set l.from s) + l.gap)) bad in
      let far = two.1 in
      let gap = sure_holds s x k there e two.0 in
      let low = (value_in vs s x there k l.from h.of_from).0 in
      let high = (value_in vs s x there k l.to h.of_to).1 in
      let no : nat_lt (greatest (at_set l.to s)) (least (at_set l.from s) + l.gap) ≡ false = grind (arith, nat_tests, gap, low, high) in
      cc (sym far ∙ no))

  pub close_lawful : LawfulTest vs (close_test l)
  close_lawful = record {
    monotone = λ t s y k full le e. not_or (both_sure l s) (nat_le (least (at_set l.to s)) (y + l.gap)) (λ b.
        let at = or_not (both_sure l t) (nat_le (least (at_set l.to t)) (y + l.gap)) e (both_below t s le b) in
        let low = least_at_below vs t s full le l.to h.of_to k in
        grind (arith, nat_tests, at, low));
    local = λ s t y a. ap (λ (b : Bool). not b || nat_le (least (at_set l.to s)) (y + l.gap)) (both_alike s t a)
        ∙ ap (λ (xs : List ℕ). not (both_sure l t) || nat_le (least xs) (y + l.gap)) (at_alike vs s t a l.to h.of_to);
  }

  pub close_keeps : (s : Sets) (x : List ℕ) → HasVars vs s → IsIn x s → at_value l.to x ≤ at_value l.from x + l.gap
      → close_test l s (at_value l.from x) ≡ true
  close_keeps s x k there le = not_or (both_sure l s) (nat_le (least (at_set l.to s)) (at_value l.from x + l.gap)) (λ b.
      let low = (value_in vs s x there k l.to h.of_to).0 in
      grind (arith, nat_tests, low, le))
