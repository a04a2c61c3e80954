-- Whether some value passes a test, as far as a loop over the values has come.
use Rattle.std.specs.Prelude.{ℕ, Bool, false, ◌&&◌, List, nat_le, nat_lt}
use Rattle.std.specs.Prelude.{None, Some}
use Rattle.std.specs.declared.option.Option.{Option}
use Rattle.std.specs.List.{list_any}

-- some value below n passes
abbrev pub any_before : (ℕ → Bool) → List ℕ → ℕ → Bool
any_before p xs n = list_any (λ z. nat_lt z n && p z) xs

-- a least time, where there is one, is at most t
abbrev pub is_by : Option ℕ → ℕ → Bool
is_by None t = false
is_by (Some e) t = nat_le e t
