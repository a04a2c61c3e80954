-- The sides of a decision.
use Rattle.std.specs.Prelude.{ℕ, Bool, nat_le, nat_lt}
use Rattle.un_domains.specs.declared.side.Side.{Side}
use Rattle.un_domains.specs.declared.side.Side.TheVariants.{AtMost, Above}

-- whether a value is on a side of x
abbrev pub side_test : Side → ℕ → ℕ → Bool
side_test AtMost x y = nat_le y x
side_test Above x y = nat_lt x y
