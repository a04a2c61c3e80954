-- Marks of numbers from 0 on.
use Rattle.std.specs.Prelude.{ℕ, ◌≡◌, Bool, false, List, slice_index_or}

-- whether number n is marked: those past the last mark are not
abbrev pub is_marked : List Bool → ℕ → Bool
is_marked marks n = slice_index_or marks n false

-- exactly the numbers that pass a test are marked
abbrev pub MarksWhere : (ℕ → Bool) → List Bool → Type 0
MarksWhere test marks = (n : ℕ) → is_marked marks n ≡ test n
