-- Lists of the items of each cycle that pass a test: the last one of a cycle stands at the cycle, and the one before it at each item.
-- Each place is given as one more than it is, and 0 is the end.
use Rattle.std.specs.Prelude.{ℕ, zero, suc, ◌≡◌, ◌<◌, ◌-◌, ◌^◌, Bool, true, not, ◌&&◌, if◌then◌else◌, List, length, min, nat_eq, nat_lt}
use Rattle.std.specs.Prelude.{slice_index}
use Rattle.un_prop.specs.Choices.{passes_at}
use Rattle.un_slots.specs.declared.item.Item.{Item}

-- the last of the first n items that passes
abbrev pub last_passing : List Item → (Item → Bool) → ℕ → ℕ
last_passing items p zero = 0
last_passing items p (suc n) = if passes_at p items n then suc n else last_passing items p n

-- before each of the first n items that passes stands the one before it
abbrev pub Chained : List Item → ℕ → (Item → Bool) → List ℕ → Type 0
Chained items n p before = (j : ℕ) → j < n → passes_at p items j ≡ true → slice_index before j ≡ last_passing items p j

-- the first n items are listed, at each cycle before the horizon those that pass its test
pub record Listed (items : List Item) (horizon n : ℕ) (p : ℕ → Item → Bool) (cycles before : List ℕ) : Type 0 where
  pub heads : (c : ℕ) → c < horizon → slice_index cycles c ≡ last_passing items (p c) n
  pub nexts : (c : ℕ) → c < horizon → Chained items n (p c) before

-- how many items can be listed in so many numbers
abbrev pub listable : List Item → List ℕ → ℕ
listable items before = min (min (length items) (length before)) (2 ^ 32 - 2)

-- a cycle has no mark
abbrev pub is_unmarked : List ℕ → ℕ → Bool
is_unmarked marks c = not (nat_eq (slice_index marks c) (2 ^ 32 - 1))

-- a cycle is before the horizon and has no mark
abbrev pub is_left : List ℕ → ℕ → ℕ → Bool
is_left marks horizon c = nat_lt c horizon && is_unmarked marks c
