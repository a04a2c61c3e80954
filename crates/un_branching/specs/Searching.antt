-- A search under way.
use Rattle.std.specs.Prelude.{ℕ, ◌≡◌, ◌+◌, ◌%◌, ◌<◌, ◌≤◌, List, ◌∷◌, length, sum_by, All, Option, Some, None}
use Rattle.std.specs.List.Sorted.{IsPermutation}
use Rattle.un_domains.specs.Sets.{Sets}
use Rattle.un_tree.specs.declared.node.Node.{Node}
use Rattle.un_tree.specs.declared.node.Node.TheVariants.{Branch, Closed, Open, Split, Part}
use Rattle.un_branching.specs.declared.growth.Entry.{Entry}
use Rattle.un_branching.specs.declared.growth.Link.{Link}
use Rattle.un_branching.specs.declared.open_nodes.OpenNode.{OpenNode}
use Rattle.un_branching.specs.declared.problem.Look.{Look}
use Rattle.un_branching.specs.declared.problem.Look.TheVariants.{Failed, Found, Open as Alive}
use Rattle.un_branching.specs.declared.attempt.Entered.{Entered}
use Rattle.un_branching.specs.declared.attempt.Entered.TheVariants.{Leaf, Solution}
use Rattle.un_tree.specs.Boxes.{IsBox}
use Rattle.un_tree.specs.Searched.{IsSearchedAt, IsBefore}
use Rattle.un_branching.specs.Growths.{Grown, HaveParents, IsEarlier, IsSplit, box_under, node_of, one}

-- the root, with its least cost
abbrev pub root_node : ℕ → OpenNode
root_node low = record { least = low; place = 0; link = None }

abbrev pub is_open : Node → ℕ
is_open Open = 1
is_open Closed = 0
is_open (Branch v x) = 0
is_open Split = 0
is_open (Part number) = 0

-- how often a place waits
abbrev pub times : ℕ → List OpenNode → ℕ
times i waiting = sum_by (λ w. one i w.place) waiting

-- what entering a look at a leaf with this place and link does
abbrev pub Enters : Look → ℕ → Link → List OpenNode → List OpenNode → Entered → Type 0
Enters Failed i link old new (Leaf m) = (m ≡ Closed) × (new ≡ old)
Enters Failed i link old new (Solution y) = ⊥
Enters (Alive l) i link old new (Leaf m) = (m ≡ Open) × IsPermutation (record { least = l; place = i; link = Some link } ∷ old) new
Enters (Alive l) i link old new (Solution y) = ⊥
Enters (Found x) i link old new (Leaf m) = ⊥
Enters (Found x) i link old new (Solution y) = y.items ≡ x.items

module _ (root : Sets) (fix : Sets → Option Sets) (least : Sets → ℕ → Type 0) where
  -- the nodes are as they should be in their boxes
  pub record Nodes (es : List Entry) : Type 0 where
    pub grown : Grown root es
    pub inside : (i : ℕ) → i < length es → IsBox root (grown.box i)
    pub searched : (i : ℕ) → i < length es → IsSearchedAt fix (node_of es i) (grown.box i)
    pub best : (i j : ℕ) → i < length es → j < length es → IsBefore least (node_of es i) (grown.box i) (node_of es j) (grown.box j)
    pub odd : length es % 2 ≡ 1

  -- an open node has the least cost in its box, and a link that leads to its box
  pub record Noted (n : ℕ) (box : ℕ → Sets) (bs : List (Option Link)) (above : ℕ → Sets) (w : OpenNode) : Type 0 where
    pub there : w.place < n
    pub cost : least (box w.place) w.least
    pub earlier : IsEarlier (length bs) w.link
    pub split : IsSplit above w.link
    pub led : box w.place ≡ box_under root above w.link

  -- the open nodes wait
  pub record Searching (es : List Entry) (bs : List (Option Link)) (waiting : List OpenNode) : Type 0 where
    pub tree : Nodes es
    pub branches : HaveParents root bs
    pub counted : (i : ℕ) → times i waiting ≡ is_open (node_of es i)
    pub noted : All (Noted (length es) tree.grown.box bs branches.box) waiting

  -- the open nodes but k wait, and none of them has a lower least cost than k
  pub record Taken (es : List Entry) (bs : List (Option Link)) (waiting : List OpenNode) (k : OpenNode) : Type 0 where
    pub tree : Nodes es
    pub branches : HaveParents root bs
    pub counted : (i : ℕ) → times i waiting + one i k.place ≡ is_open (node_of es i)
    pub noted : All (Noted (length es) tree.grown.box bs branches.box) waiting
    pub own : Noted (length es) tree.grown.box bs branches.box k
    pub lowest : (j n : ℕ) → j < length es → is_open (node_of es j) ≡ 1 → least (tree.grown.box j) n → k.least ≤ n
