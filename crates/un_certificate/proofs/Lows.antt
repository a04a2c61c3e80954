-- What is below the least costs of the open leaves' boxes is below each solution in them.
use Rattle.std.proofs.Common.{ℕ, zero, suc, All, ◌≡◌, ◌≢◌, ◌<◌, ◌≤◌, ◌+◌, List, [], ◌∷◌, Some, inl, inr, refl, subst, arith}
use Rattle.std.specs.declared.option.Option.{Option}
use Rattle.std.proofs.lemmas.List.Elements.{recursion_from_All}
use Rattle.std.specs.List.{AllByRecursion}
use Rattle.std.proofs.lemmas.Bool.{cases_lt}
use Rattle.un_domains.specs.Sets.{Sets}
use Rattle.un_ir.specs.Extended.{IsExtended}
use Rattle.un_isa.specs.Fit.{IsFit}
use Rattle.un_model.specs.declared.model.Model.{Model}
use Rattle.un_model.specs.declared.model.Solution.{Solution}
use Rattle.un_model.specs.Cost.{cost_of}
use Rattle.un_model.specs.Options.{AreOptions}
use Rattle.un_model.specs.Solutions.{IsSolution}
use Rattle.un_model.specs.Variables.{IsModel}
use Rattle.un_bound.specs.Relaxations.{Times, times_cost, IsMember, IsLeast}
use Rattle.un_bound.proofs.Members.{solution_member}
use Rattle.un_bound.proofs.Plains.{plain_below}
use Rattle.un_post.proofs.Exact.{of_domains}
use Rattle.un_tree.proofs.CoverLaws.{covered}
use Rattle.un_tree.proofs.PlainLaws.{plain_right, plain_stands, plain_strict}
use Rattle.un_tree.specs.Covered.{InOpen, IsOpenAt, Stands}
use Rattle.un_tree.specs.Parts.{IsRight}
use Rattle.un_tree.specs.Searched.{HasAtLeast}
use Rattle.un_tree.specs.Waits.{Waiting, Whole, Begins, Inside, Visit, IsStrict, after, visits}
use Rattle.un_tree.specs.declared.node.Node.{Node}
use Rattle.un_tree.specs.declared.node.Node.TheVariants.{Branch, Closed, Open, Split, Part}
use Rattle.un_post.specs.PartPosts.{IsPartBelow}
use Rattle.un_certificate.proofs.Summing.{are_parts}
use Rattle.un_certificate.specs.Bounds.{IsBound}
use Rattle.un_certificate.specs.Certificates.{IsCertificate, IsStanding}
use Rattle.un_certificate.specs.Joints.{blocks_of, visits_in, IsOwn, AreJoined}
use Rattle.un_model.specs.Boxes.{IsBelow, root_of}

-- a number below the least cost of the members, where there is one, is below each member's cost
module _ (m : Model) (b : Sets) (low : ℕ) (below : (l : ℕ) → IsLeast m b l → low ≤ l) where
  by_cost : (n : ℕ) (times : List Times) → IsMember m b times → times_cost m.ext.blocks times < n → low ≤ times_cost m.ext.blocks times
  by_cost zero times is lt = absurd (omega (arith, lt))
  by_cost (suc n) times is lt = elim (cases_lt (times_cost m.ext.blocks times) low) [
    | inr ge ↦ ge
    | inl less ↦ below (times_cost m.ext.blocks times) (record {
      reached = (times, is, refl);
      least = λ other o. elim (cases_lt (times_cost m.ext.blocks other) (times_cost m.ext.blocks times)) [
        | inr ge ↦ ge
        | inl cheaper ↦ (let h = by_cost n other o (omega (arith, cheaper, lt)) in absurd (omega (arith, h, cheaper, less)))
      ];
    })
  ]

  pub member_above : (times : List Times) → IsMember m b times → low ≤ times_cost m.ext.blocks times
  member_above times is = by_cost (suc (times_cost m.ext.blocks times)) times is (omega arith)

module _ (m : Model) (x : Solution) (low : ℕ) (own : IsModel m) (extended : IsExtended m.ext) (fit : IsFit m.ext.table)
    (options : AreOptions m.options) (is : IsSolution m x) where
  open_above : (node : Node) (w : Waiting) → HasAtLeast (IsLeast m) low node w → IsOpenAt x.values node w → low ≤ cost_of m x
  open_above (Branch v y) w below h = absurd h
  open_above Closed w below h = absurd h
  open_above Open (Begins k b) below h = absurd h
  open_above Open (Inside k number b) below h = absurd h
  open_above Split w below h = absurd h
  open_above (Part number) w below h = absurd h
  open_above Open (Whole b) below h =
      let t = solution_member m x b own extended fit options is h in
      subst (λ (n : ℕ). low ≤ n) t.2 (member_above m b low below t.0 t.1)

  -- a solution in an open leaf's box costs no less than the lowest of the open leaves
  pub solution_above : (ps : List Visit) → AllByRecursion (λ (p : Visit). HasAtLeast (IsLeast m) low p.node p.waiting) ps
      → InOpen x.values ps → low ≤ cost_of m x
  solution_above [] all h = absurd h
  solution_above (p ∷ ps) all (inl here) = open_above p.node p.waiting all.0 here
  solution_above (p ∷ ps) all (inr later) = solution_above ps all.1 later

-- a certificate stands
pub standing : (m : Model) (limit : Option ℕ) (nodes : List Node) → IsCertificate m limit nodes → IsStanding m limit nodes
standing m limit nodes c = record {
  whole = c.tree.whole;
  strict = plain_strict (blocks_of m) (root_of m) nodes c.tree.plain (IsOwn m) c.tree.strict;
  right = plain_right (blocks_of m) (root_of m) nodes c.tree.plain (AreJoined m) limit;
  alive = c.alive;
  stands = plain_stands (blocks_of m) (root_of m) nodes c.tree.plain (IsBelow m limit) (IsPartBelow m) c.tree.stands;
}

-- values that are a solution below the limit are in the box of an open leaf
pub below_open : (m : Model) (limit : Option ℕ) (nodes : List Node) → IsModel m → IsExtended m.ext → IsFit m.ext.table → AreOptions m.options
    → IsStanding m limit nodes → (x : List ℕ) → IsBelow m limit x → InOpen x (visits_in m nodes)
below_open m limit nodes own extended fit options c x is =
    covered (blocks_of m) (IsOwn m) (IsBelow m limit) (IsPartBelow m) (AreJoined m) limit x (are_parts m limit x own extended fit options) is
    0 nodes (Whole (root_of m) ∷ []) c.whole
    (recursion_from_All (IsStrict (IsOwn m)) (visits_in m nodes) c.strict)
    (recursion_from_All (IsRight (AreJoined m) (blocks_of m) limit) (visits_in m nodes) c.right)
    (recursion_from_All (Stands (IsBelow m limit) (IsPartBelow m)) (visits_in m nodes) c.stands)
    (inl ((of_domains m.domains (root_of m) x refl).1 is.0.in_domains))

module _ (x : List ℕ) where
  at_closed : (n : Node) (w : Waiting) → (n ≡ Open → ⊥) → IsOpenAt x n w → ⊥
  at_closed (Branch v y) w never h = h
  at_closed Closed w never h = h
  at_closed Open w never h = never refl
  at_closed Split w never h = h
  at_closed (Part number) w never h = h

  -- no leaf is open where no node is
  pub closed_holds_none : (blocks i : ℕ) (ns : List Node) (ws : List Waiting) → AllByRecursion (λ (n : Node). n ≡ Open → ⊥) ns
      → InOpen x (visits blocks i ns ws) → ⊥
  closed_holds_none blocks i [] ws closed h = h
  closed_holds_none blocks i (n ∷ ns) [] closed h = h
  closed_holds_none blocks i (n ∷ ns) (w ∷ ws) closed (inl here) = at_closed n w closed.0 here
  closed_holds_none blocks i (n ∷ ns) (w ∷ ws) closed (inr later) =
      closed_holds_none blocks (i + 1) ns (after blocks n w ws) closed.1 later

-- where no leaf is open, there is no solution below the limit
pub refuted : (m : Model) (limit : Option ℕ) (nodes : List Node) → IsModel m → IsExtended m.ext → IsFit m.ext.table → AreOptions m.options
    → IsStanding m limit nodes → All (λ (n : Node). n ≢ Open) nodes → (x : List ℕ) → IsBelow m limit x → ⊥
refuted m limit nodes own extended fit options c closed x is =
    closed_holds_none x (blocks_of m) 0 nodes (Whole (root_of m) ∷ []) (recursion_from_All (λ (n : Node). n ≡ Open → ⊥) nodes closed)
    (below_open m limit nodes own extended fit options c x is)

-- no solution costs less than the bound
pub bound_below : (m : Model) (c : ℕ) (nodes : List Node) → IsModel m → IsExtended m.ext → IsFit m.ext.table → AreOptions m.options
    → IsStanding m (Some c) nodes → (n : ℕ) → IsBound m c (visits_in m nodes) n → (x : Solution) → IsSolution m x → n ≤ cost_of m x
bound_below m c nodes own extended fit options is n bound x solution =
    let plain = plain_below m x bound.plain own extended fit options solution bound.is_plain in
    let low : bound.low ≤ cost_of m x = elim (cases_lt (cost_of m x) c) [
      | inr ge ↦ (let w = bound.is_lowest.within in omega (arith, w, ge))
      | inl less ↦ solution_above m x bound.low own extended fit options solution (visits_in m nodes)
          (recursion_from_All _ (visits_in m nodes) bound.is_lowest.below)
          (below_open m (Some c) nodes own extended fit options is x.values (solution, less))
    ] in
    let e = bound.greatest in omega (arith, plain, low, e)
