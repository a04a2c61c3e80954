-- Laws of what the code looks at.
use Rattle.std.proofs.Common.{ℕ, ◌≡◌, ◌≢◌, ◌<◌, ◌⊎◌, Bool, true, false, not, ◌||◌, List, [], ◌++◌, length, get_or, set, nat_eq, None, Some}
use Rattle.std.proofs.Common.{MatchOption, refl, sym, ap, ◌∙◌, subst, arith, inl, inr}
use Rattle.std.specs.declared.option.Option.{Option}
use Rattle.std.specs.Bool.{⊤}
use Rattle.std.proofs.lemmas.Bool.Decides.{nat_tests}
use Rattle.std.proofs.lemmas.List.{get_or-set_same, get_or-set_other, get_or-map, length-map, length-set}
use Rattle.un_base.specs.declared.ids.VarId.{VarId}
use Rattle.un_domains.specs.Sets.{Sets, set_at, has, least, greatest, cut_by, IsIn, NoneEmpty}
use Rattle.un_domains.specs.SetLaws.{same_or_not, has-fold_max}
use Rattle.un_prop.specs.Rounds.{HasVars}
use Rattle.un_prop.specs.Pruning.{Ends}
use Rattle.un_prop.specs.Steps.{has_var, cut_outside}
use Rattle.un_prop.specs.ChainLaws.{least_in}
use Rattle.un_prop.specs.Among.{among, AllAmong}
use Rattle.un_prop.specs.AmongLaws.{has_among}
use Rattle.un_prop.specs.Acts.{act_vars, is_active}
use Rattle.un_prop.specs.Last.{last_of, last_cut, last_cut_at, point}
use Rattle.un_prop.specs.LastLaws.{last_single, cut_all}
use Rattle.un_prop.specs.LookLaws.{firsts}
use Rattle.un_prop.specs.declared.act.Act.{Act}
use Rattle.un_prop.specs.declared.act.Act.TheVariants.{Always, Var as ActVar}
use Rattle.un_prop.specs.declared.act.Temp.{Temp}
use Rattle.un_prop.specs.declared.propagator.Pruned.{Pruned}
use Rattle.un_prop.specs.declared.propagator.Pruned.TheVariants.{Failed}
use Rattle.un_rect.specs.Spans.{TempVars}
use Rattle.un_rect.specs.SpansLaws.{only_is}
use Rattle.un_rect.specs.Apart.{temp_vars, pair_vars, pair_holds, check_pair}
use Rattle.un_rect.specs.ApartLaws.{pair_is}
use Rattle.un_rect.specs.TempLaws.{part_all}
use Rattle.un_rect.specs.Checks.{is_off, differ, surely_apart}

-- a store keeps all where each assignment of it passes
point_in : (s : Sets) (v y : ℕ) → v < length s → NoneEmpty s → has (set_at s v) y ≡ true → IsIn (set (point s) v y) s
point_in s v y within full there = record {
  long = length-set (point s) v y ∙ length-map s least;
  each = λ w lt. elim (same_or_not w v) [
    | inl e ↦ subst (λ (u : ℕ). has (set_at s u) (get_or (set (point s) v y) u 0) ≡ true) (sym e)
        (subst (λ (n : ℕ). has (set_at s v) n ≡ true) (sym (get_or-set_same (point s) v y 0 (omega (arith, within, length-map s least))))
        there)
    | inr ne ↦ subst (λ (n : ℕ). has (set_at s w) n ≡ true) (sym (get_or-set_other (point s) v w y 0 ne ∙ get_or-map least s w [] 0 lt))
        (least_in (set_at s w) (full w lt))
  ];
}

pub last_all : (vs : List VarId) (t : List ℕ → Bool) (s : Sets) → HasVars vs s → NoneEmpty s → ((x : List ℕ) → IsIn x s → t x ≡ true)
    → last_cut vs t s ≡ Some s
last_all vs t s k full h = by (last_of vs s) refl
  where
    by : (o : Option VarId) → last_of vs s ≡ o → last_cut_at t s o ≡ Some s
    by None e = refl
    by (Some v) e =
        let within = has_var vs v s (last_single vs s v e).0 k in
        cut_all (λ y. t (set (point s) v.0 y)) v.0 s within full (λ y there. h (set (point s) v.0 y) (point_in s v.0 y within full there))

-- an activity that is off is active in no assignment
off_inactive : (vs : List VarId) (s : Sets) (x : List ℕ) → IsIn x s → HasVars vs s → (on : Act) → AllAmong vs (act_vars on)
    → is_off on s ≡ true → is_active on x ≡ true → ⊥
off_inactive vs s x there k Always all e on = cc e
off_inactive vs s x there k (ActVar v) all e on =
    let high = has-fold_max 0 (set_at s v.0) (get_or x v.0 0) (there.each v.0 (has_among vs v s (all 0 v (omega arith)) k)) in
    let none : greatest (set_at s v.0) ≡ 0 = grind (arith, nat_tests, e) in
    let zero : get_or x v.0 0 ≡ 0 = omega (arith, high, none) in
    let is : nat_eq (get_or x v.0 0) 0 ≡ true = grind (arith, nat_tests, zero) in
    let bad : true ≡ false = sym on ∙ ap not is in cc bad

or_cases : (b c : Bool) → (b || c) ≡ true → (b ≡ true) ⊎ (c ≡ true)
or_cases true c h = inl refl
or_cases false c h = inr h

differ_in : (s : Sets) (x : List ℕ) → IsIn x s → (u v : VarId) → u.0 < length s → v.0 < length s → differ u v s ≡ true
    → get_or x u.0 0 ≡ get_or x v.0 0 → ⊥
differ_in s x there u v wu wv e same =
    let one = firsts (nat_eq (length (set_at s u.0)) 1) _ e in
    let two = firsts (nat_eq (length (set_at s v.0)) 1) _ one.1 in
    let iu = only (set_at s u.0) (get_or x u.0 0) one.0 (there.each u.0 wu) in
    let iv = only (set_at s v.0) (get_or x v.0 0) two.0 (there.each v.0 wv) in
    let is : nat_eq (least (set_at s u.0)) (least (set_at s v.0)) ≡ true = (let alike : least (set_at s u.0) ≡ least (set_at s v.0) = sym iu
    ∙ (same ∙ iv) in grind (arith, nat_tests, alike)) in
    let bad : false ≡ true = sym (ap not is) ∙ two.1 in cc bad
  where
    only : (xs : List ℕ) (y : ℕ) → nat_eq (length xs) 1 ≡ true → has xs y ≡ true → y ≡ least xs
    only xs y e h = only_is xs (least xs) y (let here : nat_eq (least xs) (least xs) ≡ true = grind (arith, nat_tests) in
        rw (e, here) refl) h

pub apart_in : (vs : List VarId) (a b : Temp) → TempVars vs a → TempVars vs b → (s : Sets) (x : List ℕ) → IsIn x s → HasVars vs s
    → surely_apart a b s ≡ true → pair_holds a b x ≡ true
apart_in vs a b ha hb s x there k e = pair_is a b x
    (λ on_a on_b same. elim (or_cases (is_off a.on s) (is_off b.on s || differ a.reg b.reg s) e) [
      | inl off ↦ absurd (off_inactive vs s x there k a.on ha.of_on off on_a)
      | inr rest ↦ elim (or_cases (is_off b.on s) (differ a.reg b.reg s) rest) [
        | inl off ↦ absurd (off_inactive vs s x there k b.on hb.of_on off on_b)
        | inr other ↦ absurd (differ_in s x there a.reg b.reg (has_among vs a.reg s ha.of_reg k)
            (has_among vs b.reg s hb.of_reg k) other same)
      ]
    ])

-- there is nothing to check of what is surely apart
pub check_apart : (vs : List VarId) (a b : Temp) → TempVars vs a → TempVars vs b → (s : Sets) → HasVars vs s → NoneEmpty s
    → surely_apart a b s ≡ true → check_pair vs a b s ≡ Some s
check_apart vs a b ha hb s k full e = last_all (pair_vars vs a b) (pair_holds a b) s
    (part_all (λ v. v.0 < length s) (among (temp_vars a ++ temp_vars b)) vs k) full
    (λ x there. apart_in vs a b ha hb s x there k e)

-- a cut of one variable leaves the others
pub ends_outside : (p : ℕ → Bool) (v : ℕ) (old new : Sets) (did : Pruned) → Ends (cut_by p v old) old new did → did ≢ Failed → (w : ℕ)
    → w ≢ v → set_at new w ≡ set_at old w
ends_outside p v old new did h other w ne = by (cut_by p v old) h (cut_outside p v old w ne)
  where
    by : (c : Option Sets) → Ends c old new did → MatchOption c ⊤ (λ t. set_at t w ≡ set_at old w) → set_at new w ≡ set_at old w
    by None e m = absurd (other e.0)
    by (Some t) e m = ap (λ (s : Sets). set_at s w) e.sets ∙ m
