-- The check of the last variable of a predicate that has more than one value.
use Rattle.std.specs.Prelude.{ℕ, Bool, not, List, [], ◌∷◌, length, filter, map, nat_eq, slice_set, Some, None}
use Rattle.std.specs.declared.option.Option.{Option}
use Rattle.un_base.specs.declared.ids.VarId.{VarId}
use Rattle.un_domains.specs.Sets.{Sets, set_at, least, cut_by}

-- whether a variable has other than one value
abbrev pub is_open : Sets → VarId → Bool
is_open s v = not (nat_eq (length (set_at s v.0)) 1)

-- the variables that have other than one value
abbrev pub open_of : List VarId → Sets → List VarId
open_of vs s = filter (is_open s) vs

-- of these that are open, the one alone; the first of all variables where none is; none where there are more
abbrev pub last_among : List VarId → List VarId → Option VarId
last_among [] [] = None
last_among [] (v ∷ vs) = Some v
last_among (v ∷ []) vs = Some v
last_among (v ∷ w ∷ us) vs = None

-- the one variable that is left to check
abbrev pub last_of : List VarId → Sets → Option VarId
last_of vs s = last_among (open_of vs s) vs

-- the assignment of the least values
abbrev pub point : Sets → List ℕ
point s = map least s

-- the values of v for which the test passes, the least ones of the others given
abbrev pub last_cut_at : (List ℕ → Bool) → Sets → Option VarId → Option Sets
last_cut_at t s None = Some s
last_cut_at t s (Some v) = cut_by (λ y. t (slice_set (point s) v.0 y)) v.0 s

-- the last variable keeps the values for which the test passes
abbrev pub last_cut : List VarId → (List ℕ → Bool) → Sets → Option Sets
last_cut vs t s = last_cut_at t s (last_of vs s)
