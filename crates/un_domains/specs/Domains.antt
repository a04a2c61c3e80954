-- The values of a domain, by their places.
use Rattle.std.specs.Prelude.{ℕ, ◌+◌, ◌-◌, ◌^◌, ◌<◌, List, length, slice_index}
use Rattle.std.specs.List.{range_with_len}
use Rattle.un_domains.specs.declared.domain.Domain.{Domain}
use Rattle.un_domains.specs.declared.domain.Domain.TheVariants.{Range, Set}

-- the values of a domain, in order
abbrev pub values_of : Domain → List ℕ
values_of (Range lo hi) = range_with_len lo (hi + 1 - lo)
values_of (Set values) = values

-- the value at a place
abbrev pub value_at : Domain → ℕ → ℕ
value_at (Range lo hi) i = lo + i
value_at (Set values) i = slice_index values i

-- each number is less than those after it
abbrev pub Rises : List ℕ → Type 0
Rises xs = (i j : ℕ) → i < j → j < length xs → slice_index xs i < slice_index xs j

-- a domain that a variable may have: rising values, one at least, and fewer than 2^32
pub record IsDomain (d : Domain) : Type 0 where
  pub rises : Rises (values_of d)
  pub some : 0 < length (values_of d)
  pub few : length (values_of d) < 2 ^ 32
