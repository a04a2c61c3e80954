-- The laws of Zeros.
use Rattle.std.proofs.Common.{ℕ, ◌≡◌, ◌∙◌, Bool, true, false, not, ◌&&◌, ◌||◌, List, [], ◌∷◌, get_or, nat_eq, nat_le, refl, ap}
use Rattle.std.proofs.Common.{Some, sym, arith}
use Rattle.std.specs.List.{AllByRecursion}
use Rattle.std.proofs.lemmas.Bool.Decides.{nat_tests}
use Rattle.std.proofs.lemmas.List.Elements.{recursion_from_All, All-from_recursion}
use Rattle.un_base.specs.declared.ids.VarId.{VarId}
use Rattle.un_domains.specs.Sets.{Sets, set_at, has, IsIn, NoneEmpty, Kept}
use Rattle.un_domains.specs.OrderLaws.{has_below}
use Rattle.un_prop.specs.Rounds.{HasVars, round}
use Rattle.un_prop.specs.Lawful.{Lawful}
use Rattle.un_prop.specs.Steps.{lawful_then, lawful_each}
use Rattle.un_prop.specs.EachLaws.{each_kept, each_stays}
use Rattle.un_prop.specs.ChainLaws.{then_kept, known_in, stable_then}
use Rattle.un_prop.specs.ChoiceLaws.{map_all}
use Rattle.un_prop.specs.LookLaws.{not_true, not_from, or_not, set_alike}
use Rattle.un_prop.specs.When.{is_only, when_cut, other_than, up_to, LawfulFact}
use Rattle.un_prop.specs.WhenLaws.{only_value, only_fact, any_fact, fixed_test, when_lawful, when_keeps, when_passes}
use Rattle.un_prop.specs.Parts.{SameAt}
use Rattle.un_prop.specs.Among.{among}
use Rattle.un_prop.specs.AmongLaws.{same_var, has_among}
use Rattle.un_alt.specs.Zeros.{all_zero, zeros_holds, ZerosVars, is_live, some_live, zero_cut, zeros_steps, ZerosStrong}

pub zeros_looks : (vs : List VarId) (instr : VarId) (others : List VarId) → ZerosVars vs instr others → (x y : List ℕ) → SameAt vs x y
    → zeros_holds instr others x ≡ zeros_holds instr others y
zeros_looks vs instr others h x y same =
    ap (λ (n : ℕ). not (nat_eq n 0) || all_zero others x) (same_var vs x y same instr h.of_instr)
    ∙ ap (λ (b : Bool). not (nat_eq (get_or y instr.0 0) 0) || b) (each others (recursion_from_All _ _ h.of_others))
  where
    each : (us : List VarId) → AllByRecursion (λ u. among vs u ≡ true) us → all_zero us x ≡ all_zero us y
    each [] all = refl
    each (u ∷ us) all = ap (λ (n : ℕ). nat_eq n 0 && all_zero us x) (same_var vs x y same u all.0)
        ∙ ap (λ (b : Bool). nat_eq (get_or y u.0 0) 0 && b) (each us all.1)

module _ (vs : List VarId) (instr : VarId) (others : List VarId) (h : ZerosVars vs instr others) where
  all_others : AllByRecursion (λ v. among vs v ≡ true) others
  all_others = recursion_from_All _ _ h.of_others

  live_fact : (v : VarId) → among vs v ≡ true → LawfulFact vs (is_live v)
  live_fact v at = record {
    grows = λ t s k full le e. not_from (has (set_at t v.0) 0) (λ there. not_true (has (set_at s v.0) 0) e (has_below t s v.0 0 le there));
    local = λ s t agree. ap (λ (xs : List ℕ). not (has xs 0)) (set_alike vs s t agree v at);
  }

  active_lawful : Lawful vs (when_cut (some_live others) (other_than 0) instr)
  active_lawful = when_lawful vs (some_live others) (other_than 0) instr h.of_instr
      (any_fact vs (λ v. among vs v ≡ true) is_live live_fact others all_others) (fixed_test vs (λ y. not (nat_eq y 0)))

  zero_lawful : (v : VarId) → among vs v ≡ true → Lawful vs (zero_cut instr v)
  zero_lawful v at = when_lawful vs (is_only instr 0) (up_to 0) v at (only_fact vs instr 0 h.of_instr) (fixed_test vs (λ y. nat_le y 0))

  each_zero : AllByRecursion (λ v. Lawful vs (zero_cut instr v)) others
  each_zero = map_all (λ v. among vs v ≡ true) (λ v. Lawful vs (zero_cut instr v)) zero_lawful others all_others

  idle_lawful : Lawful vs (round (zero_cut instr) others)
  idle_lawful = lawful_each vs (zero_cut instr) others each_zero

  pub zeros_lawful : Lawful vs (zeros_steps instr others)
  zeros_lawful = lawful_then vs (when_cut (some_live others) (other_than 0) instr) (round (zero_cut instr) others) active_lawful idle_lawful

  -- an assignment whose instruction is 0 has only zeros
  live_not_zero : (s : Sets) (x : List ℕ) → HasVars vs s → IsIn x s → (us : List VarId) → AllByRecursion (λ v. among vs v ≡ true) us
      → some_live us s ≡ true → all_zero us x ≡ true → ⊥
  live_not_zero s x k there [] all live zero = cc live
  live_not_zero s x k there (u ∷ us) all live zero = by (is_live u s) (nat_eq (get_or x u.0 0) 0) refl refl live zero
      (live_not_zero s x k there us all.1)
    where
      by : (b c : Bool) → is_live u s ≡ b → nat_eq (get_or x u.0 0) 0 ≡ c → (b || some_live us s) ≡ true → (c && all_zero us x) ≡ true
          → (some_live us s ≡ true → all_zero us x ≡ true → ⊥) → ⊥
      by b false is zero e f rest = cc f
      by false true is zero e f rest = rest e f
      by true true is zero e f rest =
          let none : get_or x u.0 0 ≡ 0 = grind (arith, nat_tests, zero) in
          not_true (has (set_at s u.0) 0) is
          (ap (has (set_at s u.0)) (sym none) ∙ there.each u.0 (has_among vs u s all.0 k))

  is_zero_of : (us : List VarId) (x : List ℕ) → all_zero us x ≡ true → AllByRecursion (λ u. get_or x u.0 0 ≡ 0) us
  is_zero_of [] x e = tt
  is_zero_of (u ∷ us) x e = by (nat_eq (get_or x u.0 0) 0) refl e (is_zero_of us x)
    where
      by : (b : Bool) → nat_eq (get_or x u.0 0) 0 ≡ b → (b && all_zero us x) ≡ true
          → (all_zero us x ≡ true → AllByRecursion (λ w. get_or x w.0 0 ≡ 0) us)
          → (get_or x u.0 0 ≡ 0) × AllByRecursion (λ w. get_or x w.0 0 ≡ 0) us
      by true is f rest = (grind (arith, nat_tests, is), rest f)
      by false is f rest = absurd (cc f)

  zero_of : (x : List ℕ) → zeros_holds instr others x ≡ true → get_or x instr.0 0 ≡ 0 → all_zero others x ≡ true
  zero_of x holds is = or_not (nat_eq (get_or x instr.0 0) 0) (all_zero others x) holds (grind (arith, nat_tests, is))

  zero_keeps : (x : List ℕ) → zeros_holds instr others x ≡ true → (v : VarId) → (among vs v ≡ true) × (get_or x instr.0 0 ≡ 0 → get_or
      x v.0 0 ≡ 0)
      → (m : Sets) → HasVars vs m → IsIn x m → Kept x (zero_cut instr v m)
  zero_keeps x holds v p m k in_m = when_keeps vs (is_only instr 0) (up_to 0) v p.0 m x k in_m
      (λ is. let none = p.1 (only_value instr 0 m (get_or x instr.0 0) is (in_m.each instr.0 (has_among vs instr m h.of_instr k))) in
      grind (arith, nat_tests, none))

  each_of : (x : List ℕ) → zeros_holds instr others x ≡ true → (us : List VarId) → AllByRecursion (λ v. among vs v ≡ true) us
      → (get_or x instr.0 0 ≡ 0 → AllByRecursion (λ u. get_or x u.0 0 ≡ 0) us)
      → AllByRecursion (λ v. (among vs v ≡ true) × (get_or x instr.0 0 ≡ 0 → get_or x v.0 0 ≡ 0)) us
  each_of x holds [] all zero = tt
  each_of x holds (u ∷ us) all zero = ((all.0, λ is. (zero is).0), each_of x holds us all.1 (λ is. (zero is).1))

  pub zeros_keeps : (s : Sets) (x : List ℕ) → HasVars vs s → IsIn x s → zeros_holds instr others x ≡ true → Kept x
      (zeros_steps instr others s)
  zeros_keeps s x k there holds = then_kept (round (zero_cut instr) others) x (when_cut (some_live others) (other_than 0) instr s)
      (when_keeps vs (some_live others) (other_than 0) instr h.of_instr s x k there
      (λ live. not_from (nat_eq (get_or x instr.0 0) 0) (λ is. live_not_zero s x k there others all_others live
      (zero_of x holds (grind (arith, nat_tests, is))))))
      (λ m in_m. each_kept vs (λ v. (among vs v ≡ true) × (get_or x instr.0 0 ≡ 0 → get_or x v.0 0 ≡ 0)) (zero_cut instr) x
      (λ v p m' km' in_m'. zero_keeps x holds v p m' km' in_m') others
      (each_of x holds others all_others (λ is. is_zero_of others x (zero_of x holds is))) m (known_in vs s m x there in_m k) in_m)

  pub zeros_strong : (s : Sets) → HasVars vs s → NoneEmpty s → zeros_steps instr others s ≡ Some s → ZerosStrong instr others s
  zeros_strong s k full e =
      let two = stable_then vs (when_cut (some_live others) (other_than 0) instr) (round (zero_cut instr) others) active_lawful idle_lawful
      s k full e in
      record {
        idle = λ is. All-from_recursion _ _ (map_all (λ v. (among vs v ≡ true) × (zero_cut instr v s ≡ Some s))
            (λ v. (y : ℕ) → has (set_at s v.0) y ≡ true → y ≡ 0)
            (λ v p y there. (let pass = when_passes (is_only instr 0) (up_to 0) v s (has_among vs v s p.0 k) p.1 is y there in
            grind (arith, nat_tests, pass)))
            others (pairs others all_others (each_stays vs (zero_cut instr) others each_zero s k full two.1)));
        active = λ live. not_from (has (set_at s instr.0) 0) (λ there.
            (let pass = when_passes (some_live others) (other_than 0) instr s (has_among vs instr s h.of_instr k) two.0 live 0 there in
            cc pass));
      }
    where
      pairs : (us : List VarId) → AllByRecursion (λ v. among vs v ≡ true) us → AllByRecursion (λ v. zero_cut instr v s ≡ Some s) us
          → AllByRecursion (λ v. (among vs v ≡ true) × (zero_cut instr v s ≡ Some s)) us
      pairs [] a b = tt
      pairs (u ∷ us) a b = ((a.0, b.0), pairs us a.1 b.1)
