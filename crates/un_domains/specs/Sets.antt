-- What a store holds: a set of numbers for each variable.
use Rattle.std.specs.Prelude.{ℕ, ◌≡◌, ◌<◌, Bool, true, List, [], ◌∷◌, length, slice_index, slice_index_or, slice_set, filter, nat_eq}
use Rattle.std.specs.Prelude.{fold, min, max, sum_by, cond, None, Some, MatchOption}
use Rattle.std.specs.declared.option.Option.{Option}
use Rattle.std.specs.List.{list_any}

-- a set of numbers for each variable, each a list of them
abbrev pub Sets : Type 0
Sets = List (List ℕ)

-- the values of variable v
abbrev pub set_at : Sets → ℕ → List ℕ
set_at s v = slice_index_or s v []

-- whether x is a value
abbrev pub has : List ℕ → ℕ → Bool
has xs x = list_any (nat_eq x) xs

-- the sets after variable v keeps the values that pass
abbrev pub kept : (ℕ → Bool) → Sets → ℕ → Sets
kept p s v = slice_set s v (filter p (set_at s v))

-- an assignment takes each variable's value from its set
pub record IsIn (x : List ℕ) (s : Sets) : Type 0 where
  pub long : length x ≡ length s
  pub each : (v : ℕ) → v < length s → has (set_at s v) (slice_index x v) ≡ true

-- the least value, or 0
abbrev pub least : List ℕ → ℕ
least [] = 0
least (x ∷ xs) = fold min x xs

-- the greatest value, or 0
abbrev pub greatest : List ℕ → ℕ
greatest xs = fold max 0 xs

-- no set is empty
abbrev pub NoneEmpty : Sets → Type 0
NoneEmpty s = (v : ℕ) → v < length s → 0 < length (set_at s v)

-- how many values there are in all
abbrev pub total : Sets → ℕ
total s = sum_by length s

-- each variable has the one value of x
pub record IsSingle (x : List ℕ) (s : Sets) : Type 0 where
  pub long : length x ≡ length s
  pub each : (v : ℕ) → v < length s → set_at s v ≡ slice_index x v ∷ []

-- the sets after variable v keeps the values that pass, where one is left
abbrev pub cut_by : (ℕ → Bool) → ℕ → Sets → Option (Sets)
cut_by p v s = cond (nat_eq (length (filter p (set_at s v))) 0) None (Some (kept p s v))

-- an assignment is left
abbrev pub Kept : List ℕ → Option (Sets) → Type 0
Kept x c = MatchOption c ⊥ (IsIn x)
