-- Where values lie.
use Rattle.std.specs.Prelude.{ℕ, ◌<◌, ◌≤◌}
use Rattle.un_logs.specs.declared.reach.Reach.{Reach}

-- a value is from the first one on, and before the one behind the last
pub record LiesIn (a : Reach) (y : ℕ) : Type 0 where
  pub lo : a.from ≤ y
  pub hi : y < a.to
