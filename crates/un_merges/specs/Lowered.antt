-- What the code says of values of which some are lowered.
use Rattle.std.specs.Prelude.{ℕ, ◌≡◌, ◌<◌, Bool, List, length, slice_index}
use Rattle.std.specs.List.{list_any}
use Rattle.un_model.specs.declared.model.OpVars.{OpVars}
use Rattle.un_merges.specs.Merges.{is_number, lowered}

-- the values at the places that pass are one less than the old ones, where those are greater than t
pub record IsLowered (passes : ℕ → Bool) (t : ℕ) (old new : List ℕ) : Type 0 where
  pub long : length new ≡ length old
  pub each : (k : ℕ) → k < length old → slice_index new k ≡ lowered passes t k (slice_index old k)

-- the cycles of these operations are lowered
unfoldable pub AreLowered : List OpVars → ℕ → List ℕ → List ℕ → Type 0
AreLowered ops t old new = IsLowered (λ (k : ℕ). list_any (λ (o : OpVars). is_number k o.cycle) ops) t old new
