-- Small trees and boxes, worked out by hand.
use Rattle.std.proofs.Common.{ℕ, ◌≡◌, [], ◌∷◌, refl, arith}
use Rattle.un_base.specs.declared.ids.VarId.{VarId}
use Rattle.un_domains.specs.Sets.{Sets}
use Rattle.un_domains.specs.declared.side.Side.TheVariants.{AtMost, Above}
use Rattle.un_tree.specs.Boxes.{half, reached, volume}
use Rattle.un_tree.specs.Waits.{Whole, visits_of, IsTreeOf, HasSidesIn, leaves, open_count, IsOdd}
use Rattle.un_tree.specs.declared.node.Node.TheVariants.{Branch, Closed, Open}

-- the variable with this number
abbrev pub v : ℕ → VarId
v n = record { 0 = n }

-- a variable of 1, 2 and 3, and one of 5 and 7
abbrev pub b : Sets
b = (1 ∷ 2 ∷ 3 ∷ []) ∷ (5 ∷ 7 ∷ []) ∷ []

abbrev pub low : Sets
low = (1 ∷ 2 ∷ []) ∷ (5 ∷ 7 ∷ []) ∷ []

abbrev pub high : Sets
high = (3 ∷ []) ∷ (5 ∷ 7 ∷ []) ∷ []

-- the left side has the values up to the decision's, the right one those above
sides : (half b (v 0) 2 AtMost ≡ low) × (half b (v 0) 2 Above ≡ high)
sides = (refl, refl)

two_decisions : reached b (record { var = v 0; val = 2; side = Above } ∷ record { var = v 1; val = 5; side = AtMost } ∷ [])
    ≡ (3 ∷ []) ∷ (5 ∷ []) ∷ []
two_decisions = refl

assignments : (volume b ≡ 6) × (volume low ≡ 4) × (volume high ≡ 2)
assignments = (refl, refl, refl)

-- the left subtree comes first, and a node past the end of the tree stands nowhere
stands : visits_of 2 b (Branch (v 0) 2 ∷ Closed ∷ Open ∷ Open ∷ [])
    ≡ record { node = Branch (v 0) 2; waiting = Whole b; place = 0; rest = Closed ∷ Open ∷ Open ∷ [] }
    ∷ record { node = Closed; waiting = Whole low; place = 1; rest = Open ∷ Open ∷ [] }
    ∷ record { node = Open; waiting = Whole high; place = 2; rest = Open ∷ [] } ∷ []
stands = refl

whole_tree : IsTreeOf 2 b (Branch (v 0) 2 ∷ Closed ∷ Open ∷ [])
whole_tree = refl

ends_inside : IsTreeOf 2 b (Branch (v 0) 2 ∷ Closed ∷ []) → ⊥
ends_inside e = cc e

goes_on : IsTreeOf 2 b (Open ∷ Closed ∷ []) → ⊥
goes_on h = h

-- between 1 and 3 both sides have values, from 3 on one side has none, and so has each side of a variable that is not there
both : HasSidesIn (Branch (v 0) 2) (Whole b) × HasSidesIn (Branch (v 0) 1) (Whole b)
both = ((omega arith, omega arith, omega arith), (omega arith, omega arith, omega arith))

one_side : HasSidesIn (Branch (v 0) 3) (Whole b) → ⊥
one_side h = omega (arith, h.2)

below_all : HasSidesIn (Branch (v 0) 0) (Whole b) → ⊥
below_all h = omega (arith, h.1)

no_variable : HasSidesIn (Branch (v 2) 0) (Whole b) → ⊥
no_variable h = omega (arith, h.0)

counts : (leaves (visits_of 2 b (Branch (v 0) 2 ∷ Closed ∷ Open ∷ [])) ≡ 2) × (open_count (Branch (v 0) 2 ∷ Closed ∷ Open ∷ []) ≡ 1)
counts = (refl, refl)

-- of 8 nodes 7 are used, of 7 all
odd_counts : IsOdd 7 8 × IsOdd 7 7
odd_counts = (
  record { odd = refl; within = omega arith; greatest = omega arith },
  record { odd = refl; within = omega arith; greatest = omega arith },
)
