-- The cycles of a block that are in use, and where they come when neighbours stand as close as two cycles.
use Rattle.std.specs.Prelude.{ℕ, zero, suc, ◌≡◌, ◌+◌, ◌-◌, ◌<◌, min, Bool, true, false, ◌==◌, ◌||◌, List, ◌∷◌, map}
use Rattle.std.specs.List.{list_any}
use Rattle.un_model.specs.declared.model.OpVars.{OpVars}
use Rattle.un_model.specs.declared.model.BlockVars.{BlockVars}
use Rattle.un_model.specs.Cost.{value_of}
use Rattle.un_model.specs.Schedules.{value_by}
use Rattle.un_model.specs.Variables.{count_if}

-- 0, the end of a block, and the cycles of its operations, where that of an inactive one is 0
abbrev pub times_of : List ℕ → BlockVars → List ℕ
times_of values vars = 0 ∷ value_of values vars.end ∷ map (λ (o : OpVars). value_by values o.cycle) vars.ops

abbrev pub is_in : List ℕ → ℕ → Bool
is_in times c = list_any (λ (t : ℕ). t == c) times

-- whether cycle c of a block is in use
abbrev pub is_used : List ℕ → BlockVars → ℕ → Bool
is_used values vars c = is_in (times_of values vars) c

-- cycles in use with none in use between them
pub record AreNeighbours (used : ℕ → Bool) (p u : ℕ) : Type 0 where
  pub first : used p ≡ true
  pub second : used u ≡ true
  pub order : p < u
  pub none : (c : ℕ) → p < c → c < u → used c ≡ false

-- the distance of each two neighbours becomes the lesser of itself and 2
pub record IsSqueeze (used : ℕ → Bool) (moved : ℕ → ℕ) : Type 0 where
  pub start : moved 0 ≡ 0
  pub each : (p u : ℕ) → AreNeighbours used p u → moved u ≡ moved p + min (u - p) 2

-- where cycle c comes: after as many cycles as stay before it, which are those in use and those right before one in use
abbrev pub squeezed : (ℕ → Bool) → ℕ → ℕ
squeezed used zero = 0
squeezed used (suc c) = squeezed used c + count_if (used c || used (suc c))
