-- Tests that refuse a value where a condition is met, as the code finds them.
use Rattle.std.proofs.Common.{ℕ, ◌≡◌, ◌<◌, Bool, true, false, not, ◌&&◌, List, length, nat_eq, nat_le, None, Some, refl, sym, ap, ◌∙◌}
use Rattle.std.proofs.Common.{arith}
use Rattle.std.specs.declared.option.Option.{Option}
use Rattle.std.proofs.lemmas.Bool.Decides.{nat_tests}
use Rattle.un_base.specs.declared.ids.VarId.{VarId}
use Rattle.un_domains.specs.Sets.{Sets, cut_by, NoneEmpty}
use Rattle.un_prop.specs.Rounds.{HasVars}
use Rattle.un_prop.specs.Among.{AllAmong}
use Rattle.un_prop.specs.AmongLaws.{has_among}
use Rattle.un_prop.specs.LastLaws.{cut_all}
use Rattle.un_rect.specs.Spans.{choice_vars}
use Rattle.un_rect.specs.Clobber.{choice_cut}

pub no_left : (b c : Bool) → b ≡ false → (b && c) ≡ false
no_left false c e = refl
no_left true c e = absurd (cc e)

pub no_right : (b c : Bool) → c ≡ false → (b && c) ≡ false
no_right false c e = refl
no_right true c e = e

-- the condition is not met
pub passes_unmet : (b : Bool) → b ≡ false → not b ≡ true
passes_unmet b e = ap not e

-- the condition is met but for the value
pub refuses_met : (b c : Bool) → c ≡ true → not (b && c) ≡ not b
refuses_met true c e = ap not e
refuses_met false c e = refl

pub only_zero : (y : ℕ) (c : Bool) → c ≡ true → not (not (nat_eq y 0) && c) ≡ nat_le y 0
only_zero y c e = refuses_met (not (nat_eq y 0)) c e ∙ by (nat_eq y 0) refl
  where
    by : (b : Bool) → nat_eq y 0 ≡ b → not (not b) ≡ nat_le y 0
    by true h = let z : nat_le y 0 ≡ true = grind (arith, nat_tests, h) in sym z
    by false h = let z : nat_le y 0 ≡ false = grind (arith, nat_tests, h) in sym z

-- a cut of a choice
pub choice_same : (vs : List VarId) (q : Sets → ℕ → Bool) (o : Option VarId) (s : Sets) → AllAmong vs (choice_vars o) → HasVars vs s
    → NoneEmpty s → ((y : ℕ) → q s y ≡ true)
    → choice_cut q o s ≡ Some s
choice_same vs q None s all k full h = refl
choice_same vs q (Some v) s all k full h = cut_all (q s) v.0 s (has_among vs v s (all 0 v (omega arith)) k) full (λ y there. h y)

pub choice_is : (q : Sets → ℕ → Bool) (o : Option VarId) (v : VarId) (s : Sets) → o ≡ Some v → choice_cut q o s ≡ cut_by (q s) v.0 s
choice_is q o v s e = ap (λ (p : Option VarId). choice_cut q p s) e

pub in_choice : (vs : List VarId) (o : Option VarId) (v : VarId) (s : Sets) → o ≡ Some v → AllAmong vs (choice_vars o) → HasVars vs s
    → v.0 < length s
in_choice vs None v s e all k = absurd (cc e)
in_choice vs (Some u) v s e all k = let same : u.0 ≡ v.0 = ap (λ (w : VarId). w.0) (let e' : u ≡ v = cc e in e') in let lt = has_among vs
    u s (all 0 u (omega arith)) k in omega (arith, same, lt)
