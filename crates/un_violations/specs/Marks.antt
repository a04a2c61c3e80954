-- What the code says of marked variables.
use Rattle.std.specs.Prelude.{ℕ, ◌≡◌, ◌<◌, Bool, false, List, length, slice_index_or}

-- of the first variables, those that pass are marked
pub record AreMarked (passes : ℕ → Bool) (marks : List Bool) (n : ℕ) : Type 0 where
  pub long : length marks ≡ n
  pub each : (k : ℕ) → k < n → slice_index_or marks k false ≡ passes k
