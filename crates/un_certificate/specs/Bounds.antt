-- The bound that a tree shows: no solution of the model costs less.
use Rattle.std.specs.Prelude.{ℕ, ◌≡◌, ◌≢◌, ◌≤◌, ◌⊎◌, List, All, Contains, None, Some, max}
use Rattle.std.specs.declared.option.Option.{Option}
use Rattle.un_model.specs.declared.model.Model.{Model}
use Rattle.un_bound.specs.Plain.{IsPlainBound}
use Rattle.un_bound.specs.Relaxations.{IsLeast}
use Rattle.un_tree.specs.Searched.{HasAtLeast, HasLeast, IsLowest}
use Rattle.un_tree.specs.Waits.{Visit}
use Rattle.un_tree.specs.declared.node.Node.TheVariants.{Open}

-- the least of the least costs in open leaves' boxes, or that no leaf is open
abbrev pub IsLeastOpen : Model → List Visit → Option ℕ → Type 0
IsLeastOpen m ps None = All (λ (p : Visit). p.node ≢ Open) ps
IsLeastOpen m ps (Some low) = IsLowest (IsLeast m) ps low

-- the least of a limit and of the least costs in the open leaves' boxes
pub record IsLowestUnder (m : Model) (c : ℕ) (ps : List Visit) (low : ℕ) : Type 0 where
  pub within : low ≤ c
  pub below : All (λ (p : Visit). HasAtLeast (IsLeast m) low p.node p.waiting) ps
  pub reached : (low ≡ c) ⊎ ((p : Visit) × Contains ps p × HasLeast (IsLeast m) low p.node p.waiting)

-- the bound of a tree under a limit: the plain bound where that is greater
pub record IsBound (m : Model) (c : ℕ) (ps : List Visit) (n : ℕ) : Type 0 where
  pub plain : ℕ
  pub low : ℕ
  pub is_plain : IsPlainBound m plain
  pub is_lowest : IsLowestUnder m c ps low
  pub greatest : n ≡ max plain low
