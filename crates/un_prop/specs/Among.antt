-- Whether a variable stands in a list.
use Rattle.std.specs.Prelude.{◌≡◌, Bool, true, List, nat_eq, All}
use Rattle.std.specs.List.{list_any}
use Rattle.un_base.specs.declared.ids.VarId.{VarId}

-- whether the variable is one of these
abbrev pub among : List VarId → VarId → Bool
among vs v = list_any (λ (u : VarId). nat_eq u.0 v.0) vs

-- all of the second list stand in the first
abbrev pub AllAmong : List VarId → List VarId → Type 0
AllAmong vs us = All (λ u. among vs u ≡ true) us
