-- Bounds and bits as a set of places.
use Rattle.std.specs.Prelude.{ℕ, ◌≡◌, ◌<◌, ◌≤◌, ◌/◌, ◌%◌, ◌*◌, ◌^◌, ◌-◌, Bool, true, ◌&&◌, List, length, filter, slice_index, nat_eq}
use Rattle.std.specs.Prelude.{nat_le, nat_lt}
use Rattle.std.specs.Int.{bit_at}
use Rattle.std.specs.List.{range_with_len}

-- whether bit i of the words is set
abbrev pub bit : List ℕ → ℕ → Bool
bit ws i = nat_eq (bit_at (slice_index ws (i / 64)) (i % 64)) 1

-- whether i is from lo to end and its bit is set
abbrev pub inside : List ℕ → ℕ → ℕ → ℕ → Bool
inside ws lo end i = nat_le lo i && (nat_lt i end && bit ws i)

-- these places, rising: a filter of one list that never changes
abbrev pub members : List ℕ → ℕ → ℕ → List ℕ
members ws lo end = filter (inside ws lo end) (range_with_len 0 (64 * length ws))

-- the bounds are within the words, and at places of the set where there is one
pub record IsTight (ws : List ℕ) (lo end : ℕ) : Type 0 where
  pub small : 64 * length ws ≤ 2 ^ 32
  pub within : end ≤ 64 * length ws
  pub order : lo ≤ end
  pub first : lo < end → bit ws lo ≡ true
  pub last : lo < end → bit ws (end - 1) ≡ true
