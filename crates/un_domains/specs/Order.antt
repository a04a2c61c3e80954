-- The order of stores.
use Rattle.std.specs.Prelude.{ℕ, ◌≡◌, length, filter}
use Rattle.un_domains.specs.Sets.{Sets, set_at, has}

-- each set of t is what t has of the set of s: t lies within s, and has its values in the same order
pub record Below (t s : Sets) : Type 0 where
  pub long : length t ≡ length s
  pub each : (v : ℕ) → set_at t v ≡ filter (has (set_at t v)) (set_at s v)
