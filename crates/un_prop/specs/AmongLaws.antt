-- A variable that stands in a list has a place there.
use Rattle.std.proofs.Common.{ℕ, suc, ◌≡◌, ◌<◌, Bool, true, false, not, List, [], ◌∷◌, length, get_or, nat_eq, refl, ap}
use Rattle.std.proofs.Common.{arith}
use Rattle.std.specs.List.{Contains}
use Rattle.std.proofs.lemmas.Bool.Decides.{nat_tests}
use Rattle.un_base.specs.declared.ids.VarId.{VarId}
use Rattle.un_domains.specs.Sets.{Sets}
use Rattle.un_prop.specs.Parts.{SameAt}
use Rattle.un_prop.specs.Rounds.{HasVars}
use Rattle.std.proofs.lemmas.List.Elements.{All-contains}
use Rattle.un_prop.specs.Among.{among, AllAmong}
use Rattle.un_prop.specs.Acts.{act_vars, act_number, is_active, at_vars, at_value}
use Rattle.un_prop.specs.declared.act.Act.{Act}
use Rattle.un_prop.specs.declared.act.Act.TheVariants.{Always, Var as ActVar}
use Rattle.un_prop.specs.declared.act.At.{At}
use Rattle.un_prop.specs.declared.act.At.TheVariants.{Const, Var}

same_id : (u v : VarId) → u.0 ≡ v.0 → u ≡ v
same_id u v e = ap (λ (n : ℕ). record { 0 = n }) e

pub in_list : (vs : List VarId) (v : VarId) → among vs v ≡ true → Contains vs v
in_list [] v h = absurd (cc h)
in_list (u ∷ us) v h = by (nat_eq u.0 v.0) refl (in_list us v)
  where
    by : (b : Bool) → nat_eq u.0 v.0 ≡ b → (among us v ≡ true → Contains us v) → Contains (u ∷ us) v
    by true e rest = (0, omega arith, same_id u v (grind (arith, nat_tests)))
    by false e rest =
        let later : among us v ≡ true = rw e at h in
        let c = rest later in
        (suc (c.0), (let lt = c.1 in omega arith), c.2)

pub has_among : (vs : List VarId) (v : VarId) (s : Sets) → among vs v ≡ true → HasVars vs s → v.0 < length s
has_among vs v s h k = All-contains (λ u. u.0 < length s) vs v k (in_list vs v h)

-- what two assignments have alike
module _ (vs : List VarId) (x y : List ℕ) (same : SameAt vs x y) where
  pub same_var : (v : VarId) → among vs v ≡ true → get_or x v.0 0 ≡ get_or y v.0 0
  same_var v h = All-contains (λ u. get_or x u.0 0 ≡ get_or y u.0 0) vs v same (in_list vs v h)

  pub same_number : (on : Act) → AllAmong vs (act_vars on) → act_number on x ≡ act_number on y
  same_number Always all = refl
  same_number (ActVar v) all = same_var v (all 0 v (omega arith))

  pub same_active : (on : Act) → AllAmong vs (act_vars on) → is_active on x ≡ is_active on y
  same_active on all = ap (λ (n : ℕ). not (nat_eq n 0)) (same_number on all)

  pub same_time : (at : At) → AllAmong vs (at_vars at) → at_value at x ≡ at_value at y
  same_time (Const n) all = refl
  same_time (Var v) all = same_var v (all 0 v (omega arith))
