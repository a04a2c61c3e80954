-- What posting gives: exactly the solutions that cost less than the limit, and a failure of rounds where there is no relaxed one.
use Rattle.std.specs.Prelude.{ℕ, ◌≡◌, ◌≤◌, ◌↔◌, true, false, List, Option, None, All, Contains, length, map, fold, max}
use Rattle.un_base.specs.declared.ids.VarId.{VarId}
use Rattle.un_domains.specs.Order.{Below}
use Rattle.un_domains.specs.Sets.{Sets, IsIn, NoneEmpty, set_at}
use Rattle.un_ir.specs.declared.extended.ExtBlock.{ExtBlock}
use Rattle.un_model.specs.Boxes.{IsCheaper}
use Rattle.un_model.specs.declared.model.Model.{Model}
use Rattle.un_model.specs.Variables.{own_horizon}
use Rattle.un_prop.specs.Last.{point}
use Rattle.un_prop.specs.Rounds.{HasVars, fix_of}
use Rattle.un_bound.specs.Relaxations.{Times, IsMemberUnder}
use Rattle.un_kinds.specs.AnyProps.{scope_of, holds_of, cut_of, span_of}
use Rattle.un_kinds.specs.Constraints.{Constraint, Live, Across, meets}
use Rattle.un_kinds.specs.Fixing.{fix_by}
use Rattle.un_kinds.specs.Scopes.{vars_of}
use Rattle.un_kinds.specs.declared.any.AnyProp.{AnyProp}
use Rattle.un_sites.specs.Pressures.{pressures_of}
use Rattle.un_post.specs.Listed.{all_postings_of}

-- each propagator holds
abbrev pub AllHold : List AnyProp → List ℕ → Type 0
AllHold ps x = All (λ (p : AnyProp). holds_of p x ≡ true) ps

-- the solutions that cost less than the limit are exactly the assignments of the store for which each propagator holds
unfoldable pub IsExact : Model → Option ℕ → Sets → List AnyProp → Type 0
IsExact m limit s ps = (x : List ℕ) → IsCheaper m limit (record { values = x }) ↔ (IsIn x s × AllHold ps x)

-- the largest horizon of the blocks
abbrev pub largest_horizon : List ExtBlock → ℕ
largest_horizon blocks = fold max 0 (map own_horizon blocks)

-- a propagator reads variables of the store alone
abbrev pub ReadsFrom : Sets → AnyProp → Type 0
ReadsFrom s p = HasVars (scope_of p) s

-- one that reads no variable holds
abbrev pub IsGrounded : AnyProp → Type 0
IsGrounded p = length (scope_of p) ≡ 0 → (x : List ℕ) → holds_of p x ≡ true

-- it counts over no more cycles than these
abbrev pub SpansAtMost : ℕ → AnyProp → Type 0
SpansAtMost horizon p = span_of p ≤ horizon

-- on each store within the first one, rounds fail where its relaxation under the limit has no member
unfoldable pub FailsWhereEmpty : Model → Option ℕ → Sets → List AnyProp → Type 0
FailsWhereEmpty m limit first ps = (s : Sets) → Below s first → NoneEmpty s → ((times : List Times) → IsMemberUnder limit m s times → ⊥)
    → fix_of cut_of ps s ≡ None

-- each variable has one value
abbrev pub AreSingle : Sets → List VarId → Type 0
AreSingle s vs = All (λ (v : VarId). length (set_at s v.0) ≡ 1) vs

-- more values cross a call than there is room for; or the cycles of all values of a block have one value each, and in one cycle more
-- values are there than there is room for
abbrev pub IsOverfull : Sets → Constraint → Type 0
IsOverfull s (Across call sure room) = meets (Across call sure room) (point s) ≡ false
IsOverfull s (Live values room horizon) =
    AreSingle s (vars_of (Live values room horizon)) × (meets (Live values room horizon) (point s) ≡ false)
IsOverfull s _ = ⊥

-- on each store within the first one, rounds fail where what is posted of the pressure of some block or call is overfull
unfoldable pub FailsWhereOverfull : Model → Sets → List AnyProp → Type 0
FailsWhereOverfull m first ps = (s : Sets) (c : Constraint) → Below s first → NoneEmpty s → Contains (pressures_of m) c → IsOverfull s c
    → fix_of cut_of ps s ≡ None

-- what the rounds of all that is posted leave of a box: it follows from the model and the limit alone
abbrev pub fix_at : Model → Option ℕ → Sets → Option Sets
fix_at m limit box = fix_by (all_postings_of m limit) box
