-- Rows of least ends: the ends of blocks are no less than one of several rows has them, and cost less than a limit.
use Rattle.std.specs.Prelude.{ℕ, ◌≡◌, ◌+◌, ◌-◌, ◌*◌, Bool, true, ◌&&◌, List, [], ◌∷◌, max, nat_le, nat_lt, slice_index, All}
use Rattle.std.specs.List.{list_all, list_any}
use Rattle.std.specs.declared.option.Option.{Option}
use Rattle.un_base.specs.declared.ids.VarId.{VarId}
use Rattle.un_domains.specs.Sets.{Sets, set_at, least, greatest}
use Rattle.un_prop.specs.Among.{among}
use Rattle.un_prop.specs.Failing.{first_cut}
use Rattle.un_counted.specs.declared.counted.LeastEnd.{LeastEnd}

-- the value of a variable in an assignment, and its least and its greatest in a store
abbrev pub value_at : List ℕ → VarId → ℕ
value_at x v = slice_index x v.0

abbrev pub lowest : Sets → VarId → ℕ
lowest s v = least (set_at s v.0)

abbrev pub highest : Sets → VarId → ℕ
highest s v = greatest (set_at s v.0)

-- an end comes up to what a row has
abbrev pub reaches : (VarId → ℕ) → LeastEnd → Bool
reaches high e = nat_le e.least (high e.end)

-- what the ends of a row cost, each of them as the row has it or later
abbrev pub cost_of : List LeastEnd → (VarId → ℕ) → ℕ
cost_of [] low = 0
cost_of (e ∷ es) low = e.freq * (max (low e.end) e.least - 1) + cost_of es low

-- a row is met where the ends are between these
abbrev pub row_holds : ℕ → (VarId → ℕ) → (VarId → ℕ) → List LeastEnd → Bool
row_holds limit low high row = list_all (reaches high) row && nat_lt (cost_of row low) limit

-- some row is
abbrev pub counted_holds : List (List LeastEnd) → ℕ → List ℕ → Bool
counted_holds rows limit x = list_any (row_holds limit (value_at x) (value_at x)) rows

abbrev pub counted_test : List (List LeastEnd) → ℕ → Sets → Bool
counted_test rows limit s = list_any (row_holds limit (lowest s) (highest s)) rows

-- it fails where none may be
abbrev pub counted_cut : List VarId → List (List LeastEnd) → ℕ → Sets → Option Sets
counted_cut vs rows limit s = first_cut (λ s y. counted_test rows limit s) vs s

-- the ends' variables stand in the list
abbrev pub RowVars : List VarId → List LeastEnd → Type 0
RowVars vs row = All (λ (e : LeastEnd). among vs e.end ≡ true) row

abbrev pub RowsVars : List VarId → List (List LeastEnd) → Type 0
RowsVars vs rows = All (RowVars vs) rows
