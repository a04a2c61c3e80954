-- What the code says of values of which some are moved.
use Rattle.std.specs.Prelude.{ℕ, ◌≡◌, ◌<◌, Bool, List, length, slice_index, if◌then◌else◌, fold}
use Rattle.un_model.specs.declared.model.BlockVars.{BlockVars}
use Rattle.un_model.specs.declared.model.Model.{Model}
use Rattle.un_model.specs.declared.model.Solution.{Solution}
use Rattle.un_model.specs.Pairs.{places_from}
use Rattle.un_violations.specs.Loose.{is_time_in}
use Rattle.un_compact.specs.Squeezes.{is_used, squeezed}

-- the values at the places that pass come where f moves the old ones
pub record AreMoved (passes : ℕ → Bool) (f : ℕ → ℕ) (old before new : List ℕ) : Type 0 where
  pub long : length new ≡ length before
  pub each : (k : ℕ) → k < length before → slice_index new k ≡ (if passes k then f (slice_index old k) else slice_index before k)

-- the value x of variable k, of which y has become so far, after a further block
abbrev pub moved_in : List ℕ → ℕ → ℕ → ℕ → BlockVars → ℕ
moved_in old k x y vars = if is_time_in vars k then squeezed (is_used old vars) x else y

-- after these blocks
abbrev pub moved_by : List ℕ → List BlockVars → ℕ → ℕ → ℕ
moved_by old blocks k x = fold (moved_in old k x) x blocks

unfoldable pub compacted : Model → Solution → Solution
compacted m s = record { values = places_from (moved_by s.values m.blocks) 0 s.values }
