-- Two registers exchanged in the values of a solution.
use Rattle.std.specs.Prelude.{ℕ, ◌==◌, Bool, if◌then◌else◌, List}
use Rattle.std.specs.List.{list_any}
use Rattle.un_model.specs.declared.model.TempVars.{TempVars}
use Rattle.un_model.specs.declared.model.Model.{Model}
use Rattle.un_model.specs.declared.model.Solution.{Solution}
use Rattle.un_model.specs.Pairs.{places_from}

-- b for a, a for b, and each other register for itself
abbrev pub exchanged : ℕ → ℕ → ℕ → ℕ
exchanged a b r = if r == a then b else if r == b then a else r

-- whether variable v is the register of one of these temporaries
abbrev pub is_register_of : List TempVars → ℕ → Bool
is_register_of temps v = list_any (λ (t : TempVars). t.reg.0 == v) temps

-- what becomes of the value x of variable v
abbrev pub exchanged_at : List TempVars → ℕ → ℕ → ℕ → ℕ → ℕ
exchanged_at temps a b v x = if is_register_of temps v then exchanged a b x else x

abbrev pub exchanged_values : List TempVars → ℕ → ℕ → List ℕ → List ℕ
exchanged_values temps a b values = places_from (exchanged_at temps a b) 0 values

-- a for b and b for a in each register variable, and all else stays
unfoldable pub exchange_of : Model → ℕ → ℕ → Solution → Solution
exchange_of m a b s = record { values = exchanged_values m.temps a b s.values }
