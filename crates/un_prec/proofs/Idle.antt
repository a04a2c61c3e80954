-- What an operation that is off leaves to check.
use Rattle.std.proofs.Common.{ℕ, ◌≡◌, ◌<◌, ◌||◌, ◌&&◌, ◌∙◌, Bool, true, false, not, List, [], length, get_or, set, nat_eq, None, Some}
use Rattle.std.proofs.Common.{refl, sym, ap, subst, arith, inl, inr}
use Rattle.std.specs.declared.option.Option.{Option}
use Rattle.std.proofs.lemmas.Bool.Decides.{nat_tests}
use Rattle.std.proofs.lemmas.List.{get_or-set_same, get_or-set_other, get_or-map, length-map, length-set}
use Rattle.un_base.specs.declared.ids.VarId.{VarId}
use Rattle.un_domains.specs.Sets.{Sets, set_at, has, least, greatest, IsIn, NoneEmpty}
use Rattle.un_domains.specs.SetLaws.{same_or_not, has-fold_max}
use Rattle.un_domains.specs.OrderLaws.{has_least}
use Rattle.un_prop.specs.Acts.{act_vars, is_active}
use Rattle.un_prop.specs.Last.{point, last_of, last_cut, last_cut_at}
use Rattle.un_prop.specs.LastLaws.{cut_all, last_single}
use Rattle.un_prop.specs.Rounds.{HasVars}
use Rattle.un_prop.specs.Steps.{has_var}
use Rattle.un_prop.specs.declared.act.Act.{Act}
use Rattle.un_prop.specs.declared.act.Act.TheVariants.{Var}
use Rattle.un_prec.specs.Links.{link_holds}
use Rattle.un_prec.specs.declared.link.Link.{Link}

-- a store keeps all where each assignment of it passes
point_in : (s : Sets) (v y : ℕ) → v < length s → NoneEmpty s → has (set_at s v) y ≡ true → IsIn (set (point s) v y) s
point_in s v y within full there = record {
  long = length-set (point s) v y ∙ length-map s least;
  each = λ w lt. elim (same_or_not w v) [
    | inl e ↦ subst (λ (u : ℕ). has (set_at s u) (get_or (set (point s) v y) u 0) ≡ true) (sym e)
        (subst (λ (n : ℕ). has (set_at s v) n ≡ true) (sym (get_or-set_same (point s) v y 0 (omega (arith, within, length-map s least))))
        there)
    | inr ne ↦ subst (λ (n : ℕ). has (set_at s w) n ≡ true) (sym (get_or-set_other (point s) v w y 0 ne ∙ get_or-map least s w [] 0 lt))
        (has_least (set_at s w) (full w lt))
  ];
}

last_all : (vs : List VarId) (t : List ℕ → Bool) (s : Sets) → HasVars vs s → NoneEmpty s → ((x : List ℕ) → IsIn x s → t x ≡ true)
    → last_cut vs t s ≡ Some s
last_all vs t s k full h = by (last_of vs s) refl
  where
    by : (o : Option VarId) → last_of vs s ≡ o → last_cut_at t s o ≡ Some s
    by None e = refl
    by (Some v) e =
        let within = has_var vs v s (last_single vs s v e).0 k in
        cut_all (λ y. t (set (point s) v.0 y)) v.0 s within full (λ y there. h (set (point s) v.0 y) (point_in s v.0 y within full there))

-- an activity that is only 0 is active in no assignment
pub off_idle : (s : Sets) (x : List ℕ) (on : Act) (v : VarId) → on ≡ Var v → HasVars (act_vars on) s → IsIn x s
    → greatest (set_at s v.0) ≡ 0 → is_active on x ≡ false
off_idle s x on v is k there none =
    let within : v.0 < length s = subst (λ (a : Act). HasVars (act_vars a) s) is k 0 v (omega arith) in
    let high = has-fold_max 0 (set_at s v.0) (get_or x v.0 0) (there.each v.0 within) in
    let zero : get_or x v.0 0 ≡ 0 = omega (arith, high, none) in
    let same : nat_eq (get_or x v.0 0) 0 ≡ true = grind (arith, nat_tests, zero) in
    subst (λ (a : Act). is_active a x ≡ false) (sym is) (ap not same)

first_off : (b c d : Bool) → b ≡ false → (not (b && c) || d) ≡ true
first_off false c d e = refl
first_off true c d e = absurd (cc e)

second_off : (b c d : Bool) → c ≡ false → (not (b && c) || d) ≡ true
second_off false c d e = refl
second_off true false d e = refl
second_off true true d e = absurd (cc e)

module _ (vs : List VarId) (l : Link) (s : Sets) (k : HasVars vs s) (full : NoneEmpty s) where
  -- where the first is active in no assignment, and where the second is
  pub idle_first : ((x : List ℕ) → IsIn x s → is_active l.from_on x ≡ false) → last_cut vs (link_holds l) s ≡ Some s
  idle_first off = last_all vs (link_holds l) s k full (λ x there. first_off (is_active l.from_on x) (is_active l.to_on x) _ (off x there))

  pub idle_second : ((x : List ℕ) → IsIn x s → is_active l.to_on x ≡ false) → last_cut vs (link_holds l) s ≡ Some s
  idle_second off = last_all vs (link_holds l) s k full (λ x there. second_off (is_active l.from_on x) (is_active l.to_on x) _
      (off x there))
