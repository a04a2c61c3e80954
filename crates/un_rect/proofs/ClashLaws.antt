-- What the code sees of a clash.
use Rattle.std.proofs.Common.{ℕ, ◌≡◌, Bool, true, false, not, ◌&&◌, List, length, nat_eq, Some, option_and_then, refl, sym, ap, ◌∙◌, arith}
use Rattle.std.proofs.Common.{subst}
use Rattle.std.proofs.lemmas.Bool.Decides.{nat_tests}
use Rattle.std.specs.List.{AllByRecursion}
use Rattle.un_base.specs.declared.ids.VarId.{VarId}
use Rattle.un_domains.specs.Sets.{Sets, set_at, has, least, NoneEmpty}
use Rattle.un_prop.specs.Rounds.{HasVars}
use Rattle.un_prop.specs.AmongLaws.{has_among}
use Rattle.un_prop.specs.LastLaws.{cut_all}
use Rattle.un_prop.specs.Looks.{sure}
use Rattle.un_prop.specs.declared.act.Temp.{Temp}
use Rattle.un_rect.specs.Spans.{is_only, TempVars}
use Rattle.un_rect.specs.Apart.{overlap, clash_test, clash_cut, clash_pair}
use Rattle.un_rect.specs.Pairs.{at_place, each_before}
use Rattle.un_rect.specs.PairLaws.{each_same, at_same}

refused : (b c : Bool) → c ≡ false → not (b && c) ≡ true
refused true c e = ap not e
refused false c e = refl

refused_first : (b c : Bool) → b ≡ false → not (b && c) ≡ true
refused_first b c e = ap (λ (x : Bool). not (x && c)) e

module _ (a b : Temp) (s : Sets) where
  -- more registers are left
  pub clash_many : (y : ℕ) → nat_eq (length (set_at s a.reg.0)) 1 ≡ false → clash_test a b s y ≡ true
  clash_many y e = refused_first (is_only (set_at s a.reg.0) y) _ (ap (λ (x : Bool). x && nat_eq (least (set_at s a.reg.0)) y) e)

  -- the other has lost the register
  pub clash_lost : (r y : ℕ) → r ≡ least (set_at s a.reg.0) → has (set_at s b.reg.0) r ≡ false → has (set_at s b.reg.0) y ≡ true
      → clash_test a b s y ≡ true
  clash_lost r y is gone there = by (nat_eq (least (set_at s a.reg.0)) y) refl
    where
      second : (c d : Bool) → d ≡ false → (c && d) ≡ false
      second true d e = e
      second false d e = refl

      by : (c : Bool) → nat_eq (least (set_at s a.reg.0)) y ≡ c → clash_test a b s y ≡ true
      by true e = absurd (let same : least (set_at s a.reg.0) ≡ y = grind (arith, nat_tests, e) in
          let bad : true ≡ false = sym there ∙ subst (λ (n : ℕ). has (set_at s b.reg.0) n ≡ false) (is ∙ same) gone in cc bad)
      by false e = refused_first (is_only (set_at s a.reg.0) y) _ (second (nat_eq (length (set_at s a.reg.0)) 1)
          (nat_eq (least (set_at s a.reg.0)) y) e)

  -- they are not sure to overlap
  pub clash_free : (y : ℕ) → (sure a.on s && (sure b.on s && overlap a b s)) ≡ false → clash_test a b s y ≡ true
  clash_free y e = refused (is_only (set_at s a.reg.0) y) (sure a.on s && (sure b.on s && overlap a b s)) e

  -- the register goes
  pub clash_goes : (r y : ℕ) → nat_eq (length (set_at s a.reg.0)) 1 ≡ true → r ≡ least (set_at s a.reg.0)
      → (sure a.on s && (sure b.on s && overlap a b s)) ≡ true
      → clash_test a b s y ≡ not (nat_eq y r)
  clash_goes r y one is e = ap (λ (x : Bool). not ((x && nat_eq (least (set_at s a.reg.0)) y)
      && (sure a.on s && (sure b.on s && overlap a b s)))) one
      ∙ (ap (λ (x : Bool). not (nat_eq (least (set_at s a.reg.0)) y && x)) e ∙ ap not (alike (nat_eq (least (set_at s a.reg.0)) y) refl))
    where
      alike : (c : Bool) → nat_eq (least (set_at s a.reg.0)) y ≡ c → (nat_eq (least (set_at s a.reg.0)) y && true) ≡ nat_eq y r
      alike true e = (let back : nat_eq y r ≡ true = grind (arith, nat_tests, e, is) in rw (e, back) refl)
      alike false e = (let back : nat_eq y r ≡ false = grind (arith, nat_tests, e, is) in rw (e, back) refl)

  module _ (vs : List VarId) (ha : TempVars vs a) (hb : TempVars vs b) (k : HasVars vs s) (full : NoneEmpty s) where
    -- one is not sure
    pub clash_idle : sure b.on s ≡ false → clash_pair a b s ≡ Some s
    clash_idle e = ap (option_and_then (clash_cut b a)) (cut_all (clash_test a b s) b.reg.0 s (has_among vs b.reg s hb.of_reg k) full
        (λ y there. refused (is_only (set_at s a.reg.0) y) _ (second (sure a.on s) _ (ap (λ (x : Bool). x && overlap a b s) e))))
        ∙ cut_all (clash_test b a s) a.reg.0 s (has_among vs a.reg s ha.of_reg k) full
        (λ y there. refused (is_only (set_at s b.reg.0) y) _ (ap (λ (x : Bool). x && (sure a.on s && overlap b a s)) e))
      where
        second : (c d : Bool) → d ≡ false → (c && d) ≡ false
        second true d e = e
        second false d e = refl

-- so there is nothing to do in the row of one that is not sure
pub row_idle : (vs : List VarId) (temps : List Temp) (b : Temp) (s : Sets) → AllByRecursion (TempVars vs) temps → TempVars vs b
    → HasVars vs s → NoneEmpty s
    → sure b.on s ≡ false → (n : ℕ) → each_before clash_pair temps b n s ≡ Some s
row_idle vs temps b s all hb k full e n = each_same (at_place (λ a. clash_pair a b) temps) n s
    (at_same (TempVars vs) (λ a. clash_pair a b) temps s all (λ a ha. clash_idle a b s vs ha hb k full e))
