-- Trees as lists of nodes in preorder, by what waits: so a kind of node is a case more. Behind a Split comes a part for each block.
use Rattle.std.specs.Prelude.{ℕ, zero, suc, Bool, true, false, cond, ◌≡◌, ◌+◌, ◌%◌, ◌<◌, ◌≤◌, List, [], ◌∷◌, ◌++◌, ⊤}
use Rattle.std.specs.declared.option.Option.{Option}
use Rattle.un_base.specs.declared.ids.VarId.{VarId}
use Rattle.un_domains.specs.Sets.{Sets}
use Rattle.un_domains.specs.declared.side.Side.TheVariants.{AtMost, Above}
use Rattle.un_tree.specs.Boxes.{half, Splits}
use Rattle.un_tree.specs.declared.node.Node.{Node}
use Rattle.un_tree.specs.declared.node.Node.TheVariants.{Branch, Closed, Open, Split, Part}

-- where a node stands: at the root of a tree of a box; where the part of a block begins, at the box of its Split; or at the root of a tree
-- in that part, which is under a number or under none
pub data Waiting : Type 0 where
  Whole : Sets → Waiting
  Begins : ℕ → Sets → Waiting
  Inside : ℕ → Option ℕ → Sets → Waiting

-- the parts of n blocks, from block k on
abbrev pub begins : ℕ → ℕ → Sets → List Waiting
begins k zero b = []
begins k (suc n) b = Begins k b ∷ begins (k + 1) n b

-- what waits after a node of a tree in a part, the next one first
abbrev pub after_inside : Node → ℕ → Option ℕ → Sets → List Waiting → List Waiting
after_inside (Branch v x) k number b ws = Inside k number (half b v x AtMost) ∷ Inside k number (half b v x Above) ∷ ws
after_inside Closed k number b ws = ws
after_inside Open k number b ws = ws
after_inside Split k number b ws = ws
after_inside (Part other) k number b ws = ws

-- what waits after a node where the part of a block begins, the next one first
abbrev pub after_begins : Node → ℕ → Sets → List Waiting → List Waiting
after_begins (Part number) k b ws = Inside k number b ∷ ws
after_begins (Branch v x) k b ws = ws
after_begins Closed k b ws = ws
after_begins Open k b ws = ws
after_begins Split k b ws = ws

-- what waits after a node outside of parts, the next one first
abbrev pub after_whole : ℕ → Node → Sets → List Waiting → List Waiting
after_whole n (Branch v x) b ws = Whole (half b v x AtMost) ∷ Whole (half b v x Above) ∷ ws
after_whole n Closed b ws = ws
after_whole n Open b ws = ws
after_whole n Split b ws = begins 0 n b ++ ws
after_whole n (Part number) b ws = ws

-- what waits after a node in a function of n blocks, the next one first; a node that may not stand where it does takes its place alone
abbrev pub after : ℕ → Node → Waiting → List Waiting → List Waiting
after n node (Whole b) ws = after_whole n node b ws
after n node (Begins k b) ws = after_begins node k b ws
after n node (Inside k number b) ws = after_inside node k number b ws

-- the nodes are one whole tree, or one whole part, for each that waits
abbrev pub IsWhole : ℕ → List Node → List Waiting → Type 0
IsWhole n [] ws = ws ≡ []
IsWhole n (m ∷ ms) [] = ⊥
IsWhole n (m ∷ ms) (w ∷ ws) = IsWhole n ms (after n m w ws)

-- a node, where it stands, its place in the list, and the nodes behind it
pub record Visit : Type 0 where
  pub node : Node
  pub waiting : Waiting
  pub place : ℕ
  pub rest : List Node

-- each node that has something to stand at; the others are past the end of the tree
abbrev pub visits : ℕ → ℕ → List Node → List Waiting → List Visit
visits n i [] ws = []
visits n i (m ∷ ms) [] = []
visits n i (m ∷ ms) (w ∷ ws) = record { node = m; waiting = w; place = i; rest = ms } ∷ visits n (i + 1) ms (after n m w ws)

-- the nodes of a tree of a box, in a function of n blocks
abbrev pub visits_of : ℕ → Sets → List Node → List Visit
visits_of n root nodes = visits n 0 nodes (Whole root ∷ [])

-- the nodes are one whole tree of a box
abbrev pub IsTreeOf : ℕ → Sets → List Node → Type 0
IsTreeOf n root nodes = IsWhole n nodes (Whole root ∷ [])

-- a node may stand where it does: a Part where a part begins, and nothing else there; no Open leaf and no Split in a part
abbrev pub MayStand : Node → Waiting → Type 0
MayStand (Branch v x) (Begins k b) = ⊥
MayStand Closed (Begins k b) = ⊥
MayStand Open (Begins k b) = ⊥
MayStand Split (Begins k b) = ⊥
MayStand (Part number) (Whole b) = ⊥
MayStand Open (Inside k number b) = ⊥
MayStand Split (Inside k number b) = ⊥
MayStand (Part other) (Inside k number b) = ⊥
MayStand _ _ = ⊤

-- which variables are of which block
abbrev pub Own : Type 1
Own = ℕ → VarId → Type 0

-- a branch has both sides in its box
abbrev pub HasSidesIn : Node → Waiting → Type 0
HasSidesIn (Branch v x) (Whole b) = Splits b v x
HasSidesIn (Branch v x) (Inside k number b) = Splits b v x
HasSidesIn _ _ = ⊤

abbrev pub HasSides : Visit → Type 0
HasSides p = HasSidesIn p.node p.waiting

-- a branch has both sides in its box, and in a part it is on a variable of the part's block
abbrev pub IsStrictIn : Own → Node → Waiting → Type 0
IsStrictIn own (Branch v x) (Whole b) = Splits b v x
IsStrictIn own (Branch v x) (Inside k number b) = Splits b v x × own k v
IsStrictIn own _ _ = ⊤

abbrev pub IsStrict : Own → Visit → Type 0
IsStrict own p = IsStrictIn own p.node p.waiting

-- a node of a tree without parts
abbrev pub IsPlain : Node → Type 0
IsPlain (Branch v x) = ⊤
IsPlain Closed = ⊤
IsPlain Open = ⊤
IsPlain Split = ⊥
IsPlain (Part number) = ⊥

-- a place is outside of parts
abbrev pub is_outside : Waiting → Bool
is_outside (Whole b) = true
is_outside (Begins k b) = false
is_outside (Inside k number b) = false

-- a node is an outer one: it is in no part
abbrev pub is_outer : Visit → Bool
is_outer p = is_outside p.waiting

-- how many nodes are outer ones; a Split counts as one
abbrev pub outer_count : List Visit → ℕ
outer_count [] = 0
outer_count (p ∷ ps) = cond (is_outer p) 1 0 + outer_count ps

-- a Closed or Open leaf or a Split outside of parts
abbrev pub is_leaf : Node → Waiting → ℕ
is_leaf Closed (Whole b) = 1
is_leaf Open (Whole b) = 1
is_leaf Split (Whole b) = 1
is_leaf _ _ = 0

-- how many leaves there are outside of parts, Splits among them
abbrev pub leaves : List Visit → ℕ
leaves [] = 0
leaves (p ∷ ps) = is_leaf p.node p.waiting + leaves ps

-- how many leaves are open
abbrev pub open_count : List Node → ℕ
open_count [] = 0
open_count (Branch v x ∷ ns) = open_count ns
open_count (Closed ∷ ns) = open_count ns
open_count (Open ∷ ns) = 1 + open_count ns
open_count (Split ∷ ns) = open_count ns
open_count (Part number ∷ ns) = open_count ns

-- the greatest odd number that is at most n
pub record IsOdd (k n : ℕ) : Type 0 where
  pub odd : k % 2 ≡ 1
  pub within : k ≤ n
  pub greatest : n < k + 2
