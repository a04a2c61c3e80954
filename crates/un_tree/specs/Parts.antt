-- The parts behind a Split: the numbers that they are under, what a Split asks of them, and what of them is told.
use Rattle.std.specs.Prelude.{ℕ, zero, suc, Bool, true, false, ◌+◌, ◌-◌, ◌^◌, ◌≤◌, ◌⊎◌, List, [], ◌∷◌, Contains, MatchOption, ⊤, min}
use Rattle.std.specs.Prelude.{Option, Some, None}
use Rattle.std.specs.Option.{option_map}
use Rattle.un_domains.specs.Sets.{Sets}
use Rattle.un_tree.specs.Waits.{Waiting, Whole, Visit, MayStand}
use Rattle.un_tree.specs.declared.node.Node.{Node}
use Rattle.un_tree.specs.declared.node.Node.TheVariants.{Branch, Closed, Open, Split, Part}
use Rattle.un_tree.specs.declared.parts.Parts.{Parts}
use Rattle.un_tree.specs.declared.parts.Parts.TheVariants.{Torn, Numbers}

-- what waits, the boxes left out
pub data Slot : Type 0 where
  PartHere : Slot
  TreeHere : Slot

-- the numbers of the parts that wait, at the front of a list; none where the list ends before them, or a node may not stand where it does
abbrev pub numbers : List Node → List Slot → Option (List (Option ℕ))
numbers ns [] = Some []
numbers [] (s ∷ ss) = None
numbers (Branch v x ∷ ns) (TreeHere ∷ ss) = numbers ns (TreeHere ∷ TreeHere ∷ ss)
numbers (Closed ∷ ns) (TreeHere ∷ ss) = numbers ns ss
numbers (Open ∷ ns) (TreeHere ∷ ss) = None
numbers (Split ∷ ns) (TreeHere ∷ ss) = None
numbers (Part p ∷ ns) (TreeHere ∷ ss) = None
numbers (Part p ∷ ns) (PartHere ∷ ss) = option_map (λ ps. p ∷ ps) (numbers ns (TreeHere ∷ ss))
numbers (Branch v x ∷ ns) (PartHere ∷ ss) = None
numbers (Closed ∷ ns) (PartHere ∷ ss) = None
numbers (Open ∷ ns) (PartHere ∷ ss) = None
numbers (Split ∷ ns) (PartHere ∷ ss) = None

-- n parts
abbrev pub parts_wanted : ℕ → List Slot
parts_wanted zero = []
parts_wanted (suc n) = PartHere ∷ parts_wanted n

-- the numbers of the parts of n blocks at the front of a list
abbrev pub part_numbers : ℕ → List Node → Option (List (Option ℕ))
part_numbers n ns = numbers ns (parts_wanted n)

-- the sum of the numbers
abbrev pub sum_of : List (Option ℕ) → ℕ
sum_of [] = 0
sum_of (None ∷ ps) = sum_of ps
sum_of (Some n ∷ ps) = n + sum_of ps

-- some part is under no number, or there is a limit and the numbers come to it
abbrev pub ComeTo : Option ℕ → List (Option ℕ) → Type 0
ComeTo None ps = Contains ps None
ComeTo (Some c) ps = Contains ps None ⊎ (c ≤ sum_of ps)

-- a node may stand where it does. At a Split what has to be single is, and its parts come to the limit where they can be read to their end
abbrev pub IsRightIn : (Sets → Type 0) → ℕ → Option ℕ → Node → Waiting → List Node → Type 0
IsRightIn single n limit Split (Whole b) rest = single b × MatchOption (part_numbers n rest) ⊤ (ComeTo limit)
IsRightIn single n limit m w rest = MayStand m w

abbrev pub IsRight : (Sets → Type 0) → ℕ → Option ℕ → Visit → Type 0
IsRight single n limit p = IsRightIn single n limit p.node p.waiting p.rest

-- ---- what is told of numbers

-- some part is under no number
abbrev pub has_none : List (Option ℕ) → Bool
has_none [] = false
has_none (None ∷ ps) = true
has_none (Some n ∷ ps) = has_none ps

-- a number, or the greatest one of 64 bits where that is less
abbrev pub at_most_64 : ℕ → ℕ
at_most_64 n = min n (2 ^ 64 - 1)

-- what is told of the numbers of parts
abbrev pub told : Option (List (Option ℕ)) → Parts
told None = Torn
told (Some ps) = Numbers (has_none ps) (at_most_64 (sum_of ps))
