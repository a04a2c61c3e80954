-- The register at a chosen place.
use Rattle.std.specs.Prelude.{ℕ, zero, suc, Bool, false, List, [], ◌∷◌, slice_index, Option, None, Some}
use Rattle.un_base.specs.declared.ids.VarId.{VarId}

-- the place of a choice: 0 where there is none
abbrev pub place_of : Option VarId → List ℕ → ℕ
place_of None x = 0
place_of (Some v) x = slice_index x v.0

-- the value of the variable at a place, if the list has one there
abbrev pub value_at : List VarId → ℕ → List ℕ → Option ℕ
value_at [] i x = None
value_at (v ∷ vs) zero x = Some (slice_index x v.0)
value_at (v ∷ vs) (suc i) x = value_at vs i x

-- the value of the chosen register, if there is one
abbrev pub chosen_value : Option VarId → List VarId → List ℕ → Option ℕ
chosen_value choice regs x = value_at regs (place_of choice x) x

-- whether there is a value, and it passes
abbrev pub some_passes : (ℕ → Bool) → Option ℕ → Bool
some_passes p None = false
some_passes p (Some n) = p n

-- the variable of a choice, where there is one
abbrev pub choice_vars : Option VarId → List VarId
choice_vars None = []
choice_vars (Some v) = v ∷ []
