-- How far parts are read, and what is told of all their numbers from there on.
use Rattle.std.specs.Prelude.{ℕ, zero, suc, Bool, true, ◌||◌, ◌≡◌, ◌+◌, ◌-◌, List, ◌∷◌, Option, Some, None}
use Rattle.un_tree.specs.Parts.{Slot, TreeHere, at_most_64, has_none, numbers, parts_wanted, sum_of}
use Rattle.un_tree.specs.declared.node.Node.{Node}
use Rattle.un_tree.specs.declared.parts.Parts.{Parts}
use Rattle.un_tree.specs.declared.parts.Parts.TheVariants.{Torn, Numbers}
use Rattle.un_tree.specs.declared.parts.Reading.{Reading}

-- n trees before what waits
abbrev pub trees_wanted : ℕ → List Slot → List Slot
trees_wanted zero ss = ss
trees_wanted (suc n) ss = TreeHere ∷ trees_wanted n ss

-- what waits
abbrev pub slots_of : Reading → List Slot
slots_of r = trees_wanted r.trees (parts_wanted r.parts)

-- nothing waits
abbrev pub IsOver : Reading → Type 0
IsOver r = (r.trees ≡ 0) × (r.parts ≡ 0)

-- what is told of numbers with some before them
abbrev pub told_with : Bool → ℕ → Option (List (Option ℕ)) → Parts
told_with free sum None = Torn
told_with free sum (Some ps) = Numbers (free || has_none ps) (at_most_64 (sum + sum_of ps))

-- what is told of all numbers, where these nodes are left
abbrev pub told_behind : Reading → List Node → Parts
told_behind r nodes = told_with r.free r.sum (numbers nodes (slots_of r))

-- one part more, under a number or none
abbrev pub with_number : Reading → Option ℕ → Reading
with_number r None = record { trees = 1; parts = r.parts - 1; free = true; sum = r.sum }
with_number r (Some n) = record { trees = 1; parts = r.parts - 1; free = r.free; sum = at_most_64 (r.sum + n) }
