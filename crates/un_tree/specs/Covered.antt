-- Which leaves' boxes hold a solution. What a solution is, and which assignments a part has, are parameters.
use Rattle.std.specs.Prelude.{ℕ, ◌≡◌, List, [], ◌∷◌, ◌⊎◌, ⊤, Some, length, slice_get}
use Rattle.std.specs.declared.option.Option.{Option}
use Rattle.un_domains.specs.Sets.{IsIn}
use Rattle.un_tree.specs.Parts.{ComeTo}
use Rattle.un_tree.specs.Waits.{Waiting, Whole, Begins, Inside, Visit}
use Rattle.un_tree.specs.declared.node.Node.{Node}
use Rattle.un_tree.specs.declared.node.Node.TheVariants.{Branch, Closed, Open, Split, Part}

-- which assignments are members of the part of a block, under a number or under none
abbrev pub InPart : Type 1
InPart = ℕ → Option ℕ → List ℕ → Type 0

-- no solution is in the box of a closed leaf outside of parts
abbrev pub OuterStandsIn : (List ℕ → Type 0) → Node → Waiting → Type 0
OuterStandsIn good Closed (Whole b) = (x : List ℕ) → IsIn x b → good x → ⊥
OuterStandsIn good _ _ = ⊤

abbrev pub OuterStands : (List ℕ → Type 0) → Visit → Type 0
OuterStands good p = OuterStandsIn good p.node p.waiting

-- no solution is in the box of a closed leaf outside of parts, and no member of a part in that of a closed leaf of the part
abbrev pub StandsIn : (List ℕ → Type 0) → InPart → Node → Waiting → Type 0
StandsIn good part Closed (Whole b) = (x : List ℕ) → IsIn x b → good x → ⊥
StandsIn good part Closed (Inside k number b) = (x : List ℕ) → IsIn x b → part k number x → ⊥
StandsIn good part _ _ = ⊤

abbrev pub Stands : (List ℕ → Type 0) → InPart → Visit → Type 0
Stands good part p = StandsIn good part p.node p.waiting

-- a solution is a member of some part under its number, whatever numbers come to the limit
abbrev pub AreParts : ℕ → (List ℕ → Type 0) → InPart → Option ℕ → List ℕ → Type 0
AreParts n good part limit x = (ps : List (Option ℕ)) → length ps ≡ n → ComeTo limit ps → good x
    → (k : ℕ) × (number : Option ℕ) × (slice_get ps k ≡ Some number) × part k number x

abbrev pub IsInWaiting : List ℕ → Waiting → Type 0
IsInWaiting x (Whole b) = IsIn x b
IsInWaiting x (Begins k b) = ⊥
IsInWaiting x (Inside k number b) = ⊥

-- the node is an open leaf, and x is in its box
abbrev pub IsOpenAt : List ℕ → Node → Waiting → Type 0
IsOpenAt x (Branch v y) w = ⊥
IsOpenAt x Closed w = ⊥
IsOpenAt x Open w = IsInWaiting x w
IsOpenAt x Split w = ⊥
IsOpenAt x (Part number) w = ⊥

-- x is in the box of some open leaf
abbrev pub InOpen : List ℕ → List Visit → Type 0
InOpen x [] = ⊥
InOpen x (p ∷ ps) = IsOpenAt x p.node p.waiting ⊎ InOpen x ps

-- x is in some box that waits outside of parts
abbrev pub InSome : List ℕ → List Waiting → Type 0
InSome x [] = ⊥
InSome x (Whole b ∷ ws) = IsIn x b ⊎ InSome x ws
InSome x (Begins k b ∷ ws) = InSome x ws
InSome x (Inside k number b ∷ ws) = InSome x ws
