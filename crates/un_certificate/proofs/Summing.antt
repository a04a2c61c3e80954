-- Where the numbers of parts come to a limit, a solution below it is below the number of some part.
use Rattle.std.proofs.Common.{ℕ, zero, suc, ◌≡◌, ◌<◌, ◌≤◌, ◌+◌, List, [], ◌∷◌, length, Option, Some, None, inl, inr, refl, ap, subst, arith}
use Rattle.std.specs.Prelude.{Contains, sum_by, slice_get, slice_index_or}
use Rattle.std.specs.List.{range_with_len}
use Rattle.std.proofs.lemmas.Bool.{cases_lt}
use Rattle.std.proofs.lemmas.List.Sums.{sum_by-cons}
use Rattle.un_ir.specs.Extended.{IsExtended}
use Rattle.un_isa.specs.Fit.{IsFit}
use Rattle.un_model.specs.Boxes.{IsBelow}
use Rattle.un_model.specs.Options.{AreOptions}
use Rattle.un_model.specs.Variables.{IsModel}
use Rattle.un_model.specs.declared.model.Model.{Model}
use Rattle.un_post.proofs.InParts.{in_parts}
use Rattle.un_post.specs.PartPosts.{IsInParts, IsPartBelow}
use Rattle.un_post.specs.Parts.{part_cost}
use Rattle.un_tree.specs.Covered.{AreParts}
use Rattle.un_tree.specs.Parts.{ComeTo, sum_of}
use Rattle.un_certificate.specs.Joints.{blocks_of}

-- the number of some part is above what is spent there
abbrev IsAbove : (ℕ → ℕ) → ℕ → List (Option ℕ) → Type 0
IsAbove f a ps = (k : ℕ) × (n : ℕ) × (slice_get ps k ≡ Some (Some n)) × (f (a + k) < n)

later : (f : ℕ → ℕ) (a : ℕ) (p : Option ℕ) (ps : List (Option ℕ)) → IsAbove f (a + 1) ps → IsAbove f a (p ∷ ps)
later f a p ps h = (suc h.0, h.1, h.2, subst (λ (k : ℕ). f k < h.1) (omega arith) h.3)

-- where less is spent than the numbers come to
some_above : (f : ℕ → ℕ) (a : ℕ) (ps : List (Option ℕ)) → sum_by f (range_with_len a (length ps)) < sum_of ps → IsAbove f a ps
some_above f a [] less = absurd (omega (arith, less))
some_above f a (None ∷ ps) less =
    let sum = sum_by-cons f a (range_with_len (a + 1) (length ps)) in
    later f a None ps (some_above f (a + 1) ps (omega (arith, less, sum)))
some_above f a (Some n ∷ ps) less = elim (cases_lt (f a) n) [
  | inl here ↦ (0, n, refl, subst (λ (k : ℕ). f k < n) (omega arith) here)
  | inr ge ↦ (let sum = sum_by-cons f a (range_with_len (a + 1) (length ps)) in
      later f a (Some n) ps (some_above f (a + 1) ps (omega (arith, less, sum, ge))))
]

got : (ps : List (Option ℕ)) (k : ℕ) (p : Option ℕ) → k < length ps → slice_index_or ps k p ≡ p → slice_get ps k ≡ Some p
got [] k p lt e = absurd (omega (arith, lt))
got (q ∷ ps) zero p lt e = ap (λ (r : Option ℕ). Some r) e
got (q ∷ ps) (suc k) p lt e = got ps k p (omega (arith, lt)) e

within : (ps : List (Option ℕ)) (k : ℕ) (p : Option ℕ) → slice_get ps k ≡ Some p → k < length ps
within [] k p e = absurd (let none : None ≡ Some p = e in cc none)
within (q ∷ ps) zero p e = omega arith
within (q ∷ ps) (suc k) p e = let lt = within ps k p e in omega (arith, lt)

module _ (m : Model) (limit : Option ℕ) (x : List ℕ) (model : IsModel m) (extended : IsExtended m.ext) (fit : IsFit m.ext.table)
    (options : AreOptions m.options) where
  abbrev Found : List (Option ℕ) → Type 0
  Found ps = (k : ℕ) × (number : Option ℕ) × (slice_get ps k ≡ Some number) × IsPartBelow m k number x

  -- a part under no number
  free : (ps : List (Option ℕ)) → length ps ≡ blocks_of m → Contains ps None → IsInParts m (record { values = x }) → Found ps
  free ps long h parts = (h.0, None, got ps h.0 None h.1 h.2, (parts.parts h.0 (let lt = h.1 in omega (arith, lt, long)), tt))

  -- a part whose number is above what the solution costs there
  counted : (ps : List (Option ℕ)) (c : ℕ) → length ps ≡ blocks_of m → c ≤ sum_of ps → IsBelow m (Some c) x
      → IsInParts m (record { values = x }) → Found ps
  counted ps c long come below parts =
      let less : sum_by (λ (k : ℕ). part_cost m k x) (range_with_len 0 (length ps)) < sum_of ps =
      (let spent = ap (λ (n : ℕ). sum_by (λ (k : ℕ). part_cost m k x) (range_with_len 0 n)) long in
      let cost = parts.cost in
      let lt = below.1 in omega (arith, spent, cost, lt, come)) in
      let above = some_above (λ (k : ℕ). part_cost m k x) 0 ps less in
      let there = within ps above.0 (Some above.1) above.2 in (
        above.0,
        Some above.1,
        above.2,
        (parts.parts above.0 (omega (arith, there, long)), subst (λ (k : ℕ). part_cost m k x < above.1) (omega arith) above.3),
      )

  by_limit : (l : Option ℕ) (ps : List (Option ℕ)) → length ps ≡ blocks_of m → ComeTo l ps → IsBelow m l x
      → IsInParts m (record { values = x }) → Found ps
  by_limit None ps long come below parts = free ps long come parts
  by_limit (Some c) ps long (inl some) below parts = free ps long some parts
  by_limit (Some c) ps long (inr come) below parts = counted ps c long come below parts

  -- a solution below the limit is in some part below its number, whatever numbers come to the limit
  pub are_parts : AreParts (blocks_of m) (IsBelow m limit) (IsPartBelow m) limit x
  are_parts ps long come below =
      by_limit limit ps long come below (in_parts m (record { values = x }) model extended fit options below.0)
