-- Values that decisions leave: those that were there and pass each decision on their variable.
use Rattle.std.proofs.Common.{ℕ, ◌≡◌, ◌<◌, Bool, true, List, [], ◌∷◌, length, filter, refl, sym, subst, ◌∙◌, arith, inl, inr}
use Rattle.std.specs.List.{AllByRecursion}
use Rattle.std.proofs.lemmas.Bool.{cases_lt}
use Rattle.std.proofs.lemmas.List.{get_or_past, get_or-set_same, get_or-set_other, length-set}
use Rattle.un_domains.specs.Sets.{Sets, set_at, has, kept}
use Rattle.un_domains.specs.SetLaws.{has-filter, same_or_not}
use Rattle.un_domains.specs.OrderLaws.{and_true, both_true}
use Rattle.un_domains.specs.Sides.{side_test}
use Rattle.un_tree.specs.Boxes.{decided, reached}
use Rattle.un_tree.specs.declared.node.Decision.{Decision}

-- a variable that has a value is there
pub has_there : (s : Sets) (v y : ℕ) → has (set_at s v) y ≡ true → v < length s
has_there s v y h = elim (cases_lt v (length s)) [
  | inl lt ↦ lt
  | inr le ↦ absurd (let none : has [] y ≡ true = subst (λ (xs : List ℕ). has xs y ≡ true) (get_or_past s v [] le) h in cc none)
]

module _ (p : ℕ → Bool) (s : Sets) (v w y : ℕ) where
  -- what is left was there, and passed
  pub kept_to : has (set_at (kept p s v) w) y ≡ true → (has (set_at s w) y ≡ true) × (v ≡ w → p y ≡ true)
  kept_to h = elim (same_or_not w v) [
    | inl e ↦ (let below = has_there (kept p s v) w y h in
        let lt : v < length s = omega (arith, e, below, length-set s v (filter p (set_at s v))) in
        let here : has (set_at (kept p s v) v) y ≡ true = subst (λ (u : ℕ). has (set_at (kept p s v) u) y ≡ true) e h in
        let both = and_true (p y) (has (set_at s v) y) (sym (has-filter p y (set_at s v))
        ∙ subst (λ (xs : List ℕ). has xs y ≡ true) (get_or-set_same s v (filter p (set_at s v)) [] lt) here) in
        (subst (λ (u : ℕ). has (set_at s u) y ≡ true) (sym e) both.1, λ is. both.0))
    | inr ne ↦ (
      subst (λ (xs : List ℕ). has xs y ≡ true) (get_or-set_other s v w (filter p (set_at s v)) [] ne) h,
      λ is. absurd (ne (sym is)),
    )
  ]

  -- what was there and passes is left
  pub kept_from : has (set_at s w) y ≡ true → (v ≡ w → p y ≡ true) → has (set_at (kept p s v) w) y ≡ true
  kept_from h passes = elim (same_or_not w v) [
    | inl e ↦ (let below = has_there s w y h in
        let lt : v < length s = omega (arith, e, below) in
        let here : has (set_at s v) y ≡ true = subst (λ (u : ℕ). has (set_at s u) y ≡ true) e h in
        subst (λ (u : ℕ). has (set_at (kept p s v) u) y ≡ true) (sym e)
        (subst (λ (xs : List ℕ). has xs y ≡ true) (sym (get_or-set_same s v (filter p (set_at s v)) [] lt))
        (has-filter p y (set_at s v) ∙ both_true (p y) (has (set_at s v) y) (passes (sym e)) here)))
    | inr ne ↦ subst (λ (xs : List ℕ). has xs y ≡ true) (sym (get_or-set_other s v w (filter p (set_at s v)) [] ne)) h
  ]

-- where a decision is on variable v, y passes it
abbrev pub PassesAt : ℕ → ℕ → Decision → Type 0
PassesAt v y d = d.var.0 ≡ v → side_test d.side d.val y ≡ true

pub reached_to : (b : Sets) (ds : List Decision) (v y : ℕ) → has (set_at (reached b ds) v) y ≡ true
    → (has (set_at b v) y ≡ true) × AllByRecursion (PassesAt v y) ds
reached_to b [] v y h = (h, tt)
reached_to b (d ∷ ds) v y h =
    let rest = reached_to (decided d b) ds v y h in
    let here = kept_to (side_test d.side d.val) b d.var.0 v y rest.0 in (here.0, (here.1, rest.1))

pub reached_from : (b : Sets) (ds : List Decision) (v y : ℕ) → has (set_at b v) y ≡ true → AllByRecursion (PassesAt v y) ds
    → has (set_at (reached b ds) v) y ≡ true
reached_from b [] v y h all = h
reached_from b (d ∷ ds) v y h all =
    reached_from (decided d b) ds v y (kept_from (side_test d.side d.val) b d.var.0 v y h all.0) all.1

-- boxes have the same variables
pub reached_long : (b : Sets) (ds : List Decision) → length (reached b ds) ≡ length b
reached_long b [] = refl
reached_long b (d ∷ ds) = reached_long (decided d b) ds ∙ length-set b d.var.0 (filter (side_test d.side d.val) (set_at b d.var.0))
