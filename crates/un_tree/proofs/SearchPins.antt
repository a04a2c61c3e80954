-- What a search says of a small tree, worked out by hand: rounds that know that a first value of 1 is in no solution, nor one of 2, and
-- that leave the second variable alone; and a cost that rises with the least first value.
use Rattle.std.proofs.Common.{ℕ, zero, suc, ◌≡◌, ◌<◌, ◌+◌, List, [], ◌∷◌, length, filter, nat_le, nat_lt, Some, None, All, refl, arith}
use Rattle.std.specs.declared.option.Option.{Option}
use Rattle.std.specs.Prelude.{if◌then◌else◌}
use Rattle.std.proofs.lemmas.List.Elements.{All-contains, All-from_recursion}
use Rattle.un_domains.specs.Sets.{Sets, set_at, least, greatest}
use Rattle.un_tree.proofs.TreePins.{v, b, low, high}
use Rattle.un_tree.specs.Searched.{HasTwo, IsSearchedAt, IsSearched, IsBefore, IsBeforeIn, IsBestFirst, HasAtLeast, HasLeast, IsLowest}
use Rattle.un_tree.specs.Waits.{Whole, Visit, visits_of}
use Rattle.un_tree.specs.declared.node.Node.{Node}
use Rattle.un_tree.specs.declared.node.Node.TheVariants.{Branch, Closed, Open}

-- the rounds fail where the first value is at most 2, and leave only the values above 1
abbrev rounds : Sets → Option Sets
rounds [] = None
rounds (xs ∷ c) = if nat_le (greatest xs) 2 then None else Some (filter (nat_lt 1) xs ∷ c)

-- a box costs 4 more than its least first value
abbrev cost : Sets → ℕ → Type 0
cost c n = n ≡ 4 + least (set_at c 0)

-- one value for each variable
abbrev single : Sets
single = (3 ∷ []) ∷ (5 ∷ []) ∷ []

-- the left leaf is closed, since the rounds fail there, and the right one is open
abbrev tree : List Node
tree = Branch (v 0) 2 ∷ Closed ∷ Open ∷ []

-- ---- a choice is left

two_left : HasTwo high
two_left = record { var = 1; there = omega arith; two = omega arith }

none_left : HasTwo single → ⊥
none_left h = by h.var h.there h.two
  where
    by : (k : ℕ) → k < 2 → 1 < length (set_at single k) → ⊥
    by zero lt two = omega (arith, two)
    by (suc zero) lt two = omega (arith, two)
    by (suc (suc k)) lt two = omega (arith, lt)

-- ---- how the rounds ended

searched : All (IsSearched rounds) (visits_of 2 b tree)
searched = All-from_recursion (IsSearched rounds) (visits_of 2 b tree) ((omega arith, omega arith, omega arith), (refl, (two_left, tt)))

-- 1 splits the box, but not what the rounds left of it
split_below : IsSearchedAt rounds (Branch (v 0) 1) b → ⊥
split_below h = omega (arith, h.1)

-- nor is a box split in which the rounds fail
split_failed : IsSearchedAt rounds (Branch (v 0) 1) low → ⊥
split_failed h = h

closed_alive : IsSearchedAt rounds Closed b → ⊥
closed_alive h = cc h

open_failed : IsSearchedAt rounds Open low → ⊥
open_failed h = h

open_single : IsSearchedAt rounds Open single → ⊥
open_single h = none_left h

-- ---- best first

before : IsBefore cost (Branch (v 0) 2) b Open high
before n m x y = omega (arith, x, y)

not_before : IsBefore cost (Branch (v 1) 5) high Open b → ⊥
not_before h = omega (arith, h 7 5 refl refl)

abbrev nowhere : Visit
nowhere = record { node = Closed; waiting = Whole []; place = 0; rest = [] }

best_first : IsBestFirst cost (visits_of 2 b tree)
best_first =
    let ps : List Visit = visits_of 2 b tree in
    All-from_recursion (λ p. All (λ q. IsBeforeIn cost p.node p.waiting q.node q.waiting) ps) ps (
      All-from_recursion (λ q. IsBeforeIn cost (Branch (v 0) 2) (Whole b) q.node q.waiting) ps (tt, (tt, (before, tt))),
      (
        All-from_recursion (λ q. IsBeforeIn cost Closed (Whole low) q.node q.waiting) ps (tt, (tt, (tt, tt))),
        (All-from_recursion (λ q. IsBeforeIn cost Open (Whole high) q.node q.waiting) ps (tt, (tt, (tt, tt))), tt),
      ),
    )

-- a branch that costs more than an open leaf before it
dearer_behind : IsBestFirst cost (visits_of 2 b (Branch (v 0) 2 ∷ Open ∷ Branch (v 1) 5 ∷ Closed ∷ Closed ∷ [])) → ⊥
dearer_behind h = omega (arith, h 2 nowhere (omega arith) 1 nowhere (omega arith) 7 5 refl refl)

-- and one that costs more than an open leaf below it, where a cost falls with the least first value
abbrev falling : Sets → ℕ → Type 0
falling c n = n + least (set_at c 0) ≡ 10

dearer_above : IsBestFirst falling (visits_of 2 b tree) → ⊥
dearer_above h = omega (arith, h 0 nowhere (omega arith) 2 nowhere (omega arith) 9 7 refl refl)

-- ---- the least of the open leaves

lowest : IsLowest cost (visits_of 2 b tree) 7
lowest = record {
  below = All-from_recursion (λ (p : Visit). HasAtLeast cost 7 p.node p.waiting) (visits_of 2 b tree)
      (tt, (tt, ((λ n e. omega (arith, e)), tt)));
  leaf = record { node = Open; waiting = Whole high; place = 2; rest = [] };
  there = (2, omega arith, refl);
  has = refl;
}

no_leaf_has_it : IsLowest cost (visits_of 2 b tree) 6 → ⊥
no_leaf_has_it h =
    All-contains (λ (p : Visit). HasLeast cost 6 p.node p.waiting → ⊥) (visits_of 2 b tree) h.leaf
    (All-from_recursion (λ (p : Visit). HasLeast cost 6 p.node p.waiting → ⊥) (visits_of 2 b tree)
    ((λ e. e), ((λ e. e), ((λ e. omega (arith, e)), tt)))) h.there h.has

-- 7 is the right leaf's, and the left one has 5
another_is_lower : IsLowest cost (visits_of 2 b (Branch (v 0) 2 ∷ Open ∷ Open ∷ [])) 7 → ⊥
another_is_lower h = omega (arith, h.below 1 nowhere (omega arith) 5 refl)
