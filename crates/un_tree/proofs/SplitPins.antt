-- Small trees with parts, worked out by hand: a function of two blocks, of which each has one of the variables.
use Rattle.std.proofs.Common.{◌≡◌, List, [], ◌∷◌, inl, inr, refl, arith}
use Rattle.std.specs.Prelude.{Some, None, true, false}
use Rattle.un_tree.proofs.PartLaws.{there_none}
use Rattle.un_tree.proofs.TreePins.{v, b, low, high}
use Rattle.un_tree.specs.Parts.{ComeTo, IsRightIn, part_numbers, told}
use Rattle.un_tree.specs.Waits.{Own, Whole, Begins, Inside, IsStrictIn, IsTreeOf, MayStand, leaves, outer_count, visits_of}
use Rattle.un_tree.specs.declared.node.Node.{Node}
use Rattle.un_tree.specs.declared.node.Node.TheVariants.{Branch, Closed, Open, Split, Part}
use Rattle.un_tree.specs.declared.parts.Parts.TheVariants.{Torn, Numbers}

-- the left side is refuted block by block: the first block costs at least 3, and the second has no member at all
abbrev parts : List Node
parts = Part (Some 3) ∷ Closed ∷ Part None ∷ Branch (v 1) 5 ∷ Closed ∷ Closed ∷ []

abbrev tree : List Node
tree = Branch (v 0) 2 ∷ Split ∷ Part (Some 3) ∷ Closed ∷ Part None ∷ Branch (v 1) 5 ∷ Closed ∷ Closed ∷ Open ∷ []

-- each part stands at the box of its Split, and behind the last one comes the right side
stands : visits_of 2 b tree
    ≡ record { node = Branch (v 0) 2; waiting = Whole b; place = 0; rest = Split ∷ Part (Some 3) ∷ Closed ∷ Part None ∷ Branch (v 1) 5 ∷ Closed ∷ Closed ∷ Open ∷ [] }
    ∷ record { node = Split; waiting = Whole low; place = 1; rest = Part (Some 3) ∷ Closed ∷ Part None ∷ Branch (v 1) 5 ∷ Closed ∷ Closed ∷ Open ∷ [] }
    ∷ record { node = Part (Some 3); waiting = Begins 0 low; place = 2; rest = Closed ∷ Part None ∷ Branch (v 1) 5 ∷ Closed ∷ Closed ∷ Open ∷ [] }
    ∷ record { node = Closed; waiting = Inside 0 (Some 3) low; place = 3; rest = Part None ∷ Branch (v 1) 5 ∷ Closed ∷ Closed ∷ Open ∷ [] }
    ∷ record { node = Part None; waiting = Begins 1 low; place = 4; rest = Branch (v 1) 5 ∷ Closed ∷ Closed ∷ Open ∷ [] }
    ∷ record { node = Branch (v 1) 5; waiting = Inside 1 None low; place = 5; rest = Closed ∷ Closed ∷ Open ∷ [] }
    ∷ record { node = Closed; waiting = Inside 1 None ((1 ∷ 2 ∷ []) ∷ (5 ∷ []) ∷ []); place = 6; rest = Closed ∷ Open ∷ [] }
    ∷ record { node = Closed; waiting = Inside 1 None ((1 ∷ 2 ∷ []) ∷ (7 ∷ []) ∷ []); place = 7; rest = Open ∷ [] }
    ∷ record { node = Open; waiting = Whole high; place = 8; rest = [] } ∷ []
stands = refl

whole_tree : IsTreeOf 2 b tree
whole_tree = refl

-- a function of three blocks wants one part more
part_left_out : IsTreeOf 3 b tree → ⊥
part_left_out e = cc e

-- the Branch, the Split and the Open leaf are outer nodes, and the latter two leaves
counts : (outer_count (visits_of 2 b tree) ≡ 3) × (leaves (visits_of 2 b tree) ≡ 2)
counts = (refl, refl)

-- ---- the numbers of parts

read : part_numbers 2 (Part (Some 3) ∷ Closed ∷ Part None ∷ Branch (v 1) 5 ∷ Closed ∷ Closed ∷ Open ∷ []) ≡ Some (Some 3 ∷ None ∷ [])
read = refl

-- the list ends in the second part; a third part is not there; and an Open leaf and a Part stand in no part
torn : (part_numbers 2 (Part (Some 3) ∷ Closed ∷ Part None ∷ Branch (v 1) 5 ∷ Closed ∷ []) ≡ None)
    × (part_numbers 3 parts ≡ None) × (part_numbers 1 (Part None ∷ Open ∷ []) ≡ None) × (part_numbers 1 (Part None ∷ Part None ∷ Closed ∷ []) ≡ None)
torn = (refl, refl, refl, refl)

told_numbers : (told (part_numbers 2 parts) ≡ Numbers true 3) × (told (part_numbers 3 parts) ≡ Torn)
    × (told (Some (Some 3 ∷ Some 4 ∷ [])) ≡ Numbers false 7)
    × (told (Some (Some 18446744073709551615 ∷ Some 1 ∷ [])) ≡ Numbers false 18446744073709551615)
told_numbers = (refl, refl, refl, refl)

-- one dash is enough, under any limit and under none
dash : ComeTo (Some 9) (Some 3 ∷ None ∷ []) × ComeTo None (Some 3 ∷ None ∷ [])
dash = (inl (1, omega arith, refl), (1, omega arith, refl))

sums : ComeTo (Some 7) (Some 3 ∷ Some 4 ∷ [])
sums = inr (omega arith)

-- a dash adds nothing, and without a limit there are no numbers that come to it
too_little : ComeTo (Some 8) (Some 3 ∷ Some 4 ∷ []) → ⊥
too_little (inl h) = absurd (cc (there_none (Some 3 ∷ Some 4 ∷ []) h))
too_little (inr h) = omega (arith, h)

no_limit : ComeTo None (Some 3 ∷ Some 4 ∷ []) → ⊥
no_limit h = absurd (cc (there_none (Some 3 ∷ Some 4 ∷ []) h))

-- ---- where nodes may stand

abbrev own : Own
own k v = v.0 ≡ k

own_variable : IsStrictIn own (Branch (v 1) 5) (Inside 1 None low)
own_variable = ((omega arith, omega arith, omega arith), refl)

other_block : IsStrictIn own (Branch (v 1) 5) (Inside 0 None low) → ⊥
other_block h = omega (arith, h.1)

no_part : MayStand (Part None) (Whole b) → ⊥
no_part h = h

only_part : MayStand Closed (Begins 0 b) → ⊥
only_part h = h

no_open : MayStand Open (Inside 0 None b) → ⊥
no_open h = h

-- a Split whose parts are torn asks only for what has to be single
torn_split : IsRightIn (λ c. c ≡ b) 2 (Some 9) Split (Whole b) []
torn_split = (refl, tt)
