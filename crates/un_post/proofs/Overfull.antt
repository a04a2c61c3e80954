-- Where what is posted of pressure is overfull, no store below is left by its propagator as it is.
use Rattle.std.proofs.Common.{ℕ, ◌≡◌, ◌≢◌, ◌<◌, Bool, true, false, ◌||◌, List, [], ◌∷◌, length, get_or, nat_eq, Some, All, refl, sym, ap}
use Rattle.std.proofs.Common.{◌∙◌, arith}
use Rattle.std.specs.List.{AllByRecursion, Contains}
use Rattle.std.proofs.lemmas.Bool.Decides.{nat_tests}
use Rattle.std.proofs.lemmas.List.{get_or_default}
use Rattle.std.proofs.lemmas.List.Elements.{All-contains, All-from_recursion, recursion_from_All}
use Rattle.un_base.specs.declared.ids.VarId.{VarId}
use Rattle.un_domains.specs.Order.{Below}
use Rattle.un_domains.specs.OrderLaws.{single_below}
use Rattle.un_domains.specs.Sets.{Sets, IsIn, NoneEmpty, set_at, least}
use Rattle.un_prop.specs.Among.{among}
use Rattle.un_prop.specs.AmongLaws.{in_list}
use Rattle.un_prop.specs.Last.{point}
use Rattle.un_prop.specs.LookLaws.{both, firsts}
use Rattle.un_prop.specs.Parts.{Part, all_meet}
use Rattle.un_prop.specs.Rounds.{HasVars}
use Rattle.un_kinds.specs.AnyProps.{constraint_of, scope_of, holds_of, cut_of, parts_of, any_forward, any_looks, any_whole, any_within}
use Rattle.un_kinds.specs.Constraints.{Constraint, Live, Across, meets}
use Rattle.un_kinds.specs.Scopes.{IsScope, vars_of}
use Rattle.un_kinds.specs.declared.any.AnyProp.{AnyProp}
use Rattle.un_kinds.proofs.Rising.{among_own}
use Rattle.un_post.specs.Posts.{IsGrounded, IsOverfull}
use Rattle.un_post.proofs.LeastValues.{leasts, least_at, leasts_in}

-- ---- parts

all_parts : (x : List ℕ) (ps : List Part) → AllByRecursion (λ (q : Part). q.meets x ≡ true) ps → all_meet ps x ≡ true
all_parts x [] all = refl
all_parts x (p ∷ ps) all = both (p.meets x) (all_meet ps x) all.0 (all_parts x ps all.1)

each_part : (x : List ℕ) (ps : List Part) → all_meet ps x ≡ true → AllByRecursion (λ (q : Part). q.meets x ≡ true) ps
each_part x [] h = tt
each_part x (p ∷ ps) h = (let two = firsts (p.meets x) (all_meet ps x) h in (two.0, each_part x ps two.1))

-- ---- a propagator that leaves a store as it is, where all its variables but v have one value, holds of what is there
module _ (p : AnyProp) (u : Sets) (known : HasVars (scope_of p) u) (some : NoneEmpty u) (grounded : IsGrounded p)
    (stable : cut_of p u ≡ Some u) where
  grounded_part : (q : Part) → Contains (parts_of p) q → length (scope_of p) ≡ 0 → (y : List ℕ) → q.meets y ≡ true
  grounded_part q there none y = All-contains (λ (q : Part). q.meets y ≡ true) (parts_of p) q
      (All-from_recursion (λ (q : Part). q.meets y ≡ true) (parts_of p) (each_part y (parts_of p) (sym (any_whole p y) ∙ grounded none y)))
      there

  stable_holds : (v : ℕ) (x : List ℕ) → All (λ (w : VarId). w.0 ≢ v → length (set_at u w.0) ≡ 1) (scope_of p) → IsIn x u
      → holds_of p x ≡ true
  stable_holds v x one there =
      let met : All (λ (q : Part). q.meets x ≡ true) (parts_of p) = λ i d lt.
      let q = get_or (parts_of p) i d in
      let part : Contains (parts_of p) q = (i, lt, get_or_default (parts_of p) i q d lt) in
      any_forward p q part u u v x known some (grounded_part q part) (λ j e lt'.
      let w = get_or q.vars j e in
      All-contains (λ (w : VarId). w.0 ≢ v → length (set_at u w.0) ≡ 1) (scope_of p) w one
      (in_list (scope_of p) w (any_within p q part j e lt'))) stable there in
      any_whole p x ∙ all_parts x (parts_of p) (recursion_from_All _ _ met)

  -- ---- pressure

  module _ (s : Sets) (below : Below u s) where
    same_set : (w : VarId) → w.0 < length u → length (set_at s w.0) ≡ 1 → set_at u w.0 ≡ set_at s w.0
    same_set w lt one = single_below u s w.0 below (some w.0 lt) one

    pub not_overfull : (c : Constraint) → constraint_of p ≡ c → IsScope (scope_of p) (vars_of c) → IsOverfull s c → ⊥
    not_overfull (Across call sure room) is scope full =
        let alone : All (λ (w : VarId). w.0 ≢ call.0 → length (set_at u w.0) ≡ 1) (scope_of p) = λ i d k ne.
        let w = get_or (scope_of p) i d in
        let there : among (call ∷ []) w ≡ true = sym (scope.same w) ∙ among_own (scope_of p) i d k in
        absurd (ne (the_one call w there)) in
        let holds : meets (Across call sure room) (leasts u) ≡ true = ap (λ (c : Constraint). meets c (leasts u)) (sym is)
        ∙ stable_holds call.0 (leasts u) alone (leasts_in u some) in
        absurd (cc (sym full ∙ holds))
      where
        the_one : (v w : VarId) → among (v ∷ []) w ≡ true → w.0 ≡ v.0
        the_one v w h = by (nat_eq v.0 w.0) refl h
          where
            by : (b : Bool) → nat_eq v.0 w.0 ≡ b → (b || false) ≡ true → w.0 ≡ v.0
            by true e t = grind (arith, nat_tests, e)
            by false e t = absurd (cc t)
    not_overfull (Live values room horizon) is scope full =
        let us = vars_of (Live values room horizon) in
        let single : All (λ (w : VarId). length (set_at s w.0) ≡ 1) (scope_of p) = λ i d k.
        let w = get_or (scope_of p) i d in
        All-contains (λ (v : VarId). length (set_at s v.0) ≡ 1) us w full.0
        (in_list us w (sym (scope.same w) ∙ among_own (scope_of p) i d k)) in
        let alike : All (λ (w : VarId). set_at u w.0 ≡ set_at s w.0) (scope_of p) = λ i d k.
        same_set (get_or (scope_of p) i d) (known i d k) (single i d k) in
        let holds = stable_holds 0 (leasts u) (λ i d k ne. ap length (alike i d k) ∙ single i d k) (leasts_in u some) in
        let same = any_looks p (leasts u) (point s) (λ i d k.
        let w = get_or (scope_of p) i d in least_at u w.0 ∙ ap least (alike i d k) ∙ sym (least_at s w.0)) in
        let at : meets (Live values room horizon) (point s) ≡ true =
        ap (λ (c : Constraint). meets c (point s)) (sym is) ∙ sym same ∙ holds in
        let no = full.1 in
        absurd (cc (sym no ∙ at))
    not_overfull _ is scope h = absurd h
