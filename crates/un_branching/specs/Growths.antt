-- A tree that grows: a list in which each node knows the next one, and the parents of its Branches.
use Rattle.std.specs.Prelude.{ℕ, zero, suc, ◌≡◌, ◌+◌, ◌<◌, cond, nat_eq, List, [], ◌∷◌, ◌++◌, length, map, slice_index_or, slice_set, ⊤}
use Rattle.std.specs.Prelude.{Option, Some, None, IfSome}
use Rattle.un_domains.specs.Sets.{Sets}
use Rattle.un_base.specs.declared.ids.VarId.{VarId}
use Rattle.un_domains.specs.declared.side.Side.{Side}
use Rattle.un_tree.specs.declared.node.Node.{Node}
use Rattle.un_tree.specs.declared.node.Node.TheVariants.{Branch, Closed, Open, Split, Part}
use Rattle.un_branching.specs.declared.growth.Entry.{Entry}
use Rattle.un_branching.specs.declared.growth.Link.{Link}
use Rattle.un_domains.specs.declared.side.Side.TheVariants.{AtMost, Above}
use Rattle.un_tree.specs.Boxes.{Splits, decided, half}

abbrev pub blank : Entry
blank = record { node = Closed; next = 0 }

-- the root
abbrev pub opened : Entry
opened = record { node = Open; next = 0 }

abbrev pub entry_at : List Entry → ℕ → Entry
entry_at es i = slice_index_or es i blank

abbrev pub node_of : List Entry → ℕ → Node
node_of es i = (entry_at es i).node

abbrev pub next_of : List Entry → ℕ → ℕ
next_of es i = (entry_at es i).next

-- n places, each the next of the one before
abbrev pub follow : (ℕ → ℕ) → ℕ → ℕ → List ℕ
follow next zero i = []
follow next (suc n) i = i ∷ follow next n (next i)

-- the nodes in the tree's order
abbrev pub listing : List Entry → List Node
listing es = map (node_of es) (follow (next_of es) (length es) 0)

-- n places are in the list
abbrev pub Stays : List Entry → ℕ → ℕ → Type 0
Stays es zero i = ⊤
Stays es (suc n) i = (i < length es) × Stays es n (next_of es i)

-- a leaf, before the place that comes next
abbrev pub leaf_at : Node → ℕ → Entry
leaf_at n next = record { node = n; next = next }

abbrev pub branch_at : List Entry → VarId → ℕ → Entry
branch_at es v x = record { node = Branch v x; next = length es + 1 }

-- a branch and its leaves in the place of a leaf
abbrev pub branched : List Entry → ℕ → VarId → ℕ → Node → Node → List Entry
branched es k v x l r = slice_set ((es ++ leaf_at r (next_of es k) ∷ []) ++ leaf_at l (length es) ∷ []) k (branch_at es v x)

-- the link of a child to the Branch with this number
abbrev pub link_to : ℕ → VarId → ℕ → Side → Link
link_to parent v x side = record { parent = parent; decision = record { var = v; val = x; side = side } }

-- the link of the Branch with this number
abbrev pub link_at : List (Option Link) → ℕ → Option Link
link_at bs i = slice_index_or bs i None

-- its parent, if it has one, is one of the first n Branches
abbrev pub IsEarlier : ℕ → Option Link → Type 0
IsEarlier n link = IfSome link (λ l. l.parent < n)

-- its decision, if it has one, splits the box of its parent, where the Branches have these boxes
abbrev pub IsSplit : (ℕ → Sets) → Option Link → Type 0
IsSplit box link = IfSome link (λ l. Splits (box l.parent) l.decision.var l.decision.val)

-- the box of a node with this link, where the Branches have these boxes
abbrev pub box_under : Sets → (ℕ → Sets) → Option Link → Sets
box_under root box None = root
box_under root box (Some l) = decided l.decision (box l.parent)

-- each Branch but the root has an earlier parent, and a decision that splits its parent's box and makes its own
pub record HaveParents (root : Sets) (bs : List (Option Link)) : Type 0 where
  pub box : ℕ → Sets
  pub earlier : (i : ℕ) → i < length bs → IsEarlier i (link_at bs i)
  pub split : (i : ℕ) → i < length bs → IsSplit box (link_at bs i)
  pub boxes : (i : ℕ) → i < length bs → box i ≡ box_under root box (link_at bs i)

abbrev pub one : ℕ → ℕ → ℕ
one i x = cond (nat_eq i x) 1 0

-- how often i is in a list
abbrev pub count : ℕ → List ℕ → ℕ
count i [] = 0
count i (x ∷ xs) = one i x + count i xs

-- the boxes that wait after a node at a box, the next one first: a search makes no Split, so each is that of a whole tree
abbrev pub boxes_after : Node → Sets → List Sets → List Sets
boxes_after (Branch v x) b bs = half b v x AtMost ∷ half b v x Above ∷ bs
boxes_after Closed b bs = bs
boxes_after Open b bs = bs
boxes_after Split b bs = bs
boxes_after (Part number) b bs = bs

-- from place i on, the places of the list follow one another, below n, and are one whole tree for each box that waits, where each has its
-- box
abbrev pub Listed : (ℕ → Node) → (ℕ → ℕ) → (ℕ → Sets) → ℕ → ℕ → List ℕ → List Sets → Type 0
Listed node next box n i [] bs = bs ≡ []
Listed node next box n i (x ∷ xs) [] = ⊥
Listed node next box n i (x ∷ xs) (b ∷ bs) = (i ≡ x) × (x < n) × (box x ≡ b)
    × Listed node next box n (next x) xs (boxes_after (node x) b bs)

-- a tree: the order of its places, and the box of each
pub record Grown (root : Sets) (es : List Entry) : Type 0 where
  pub box : ℕ → Sets
  pub order : List ℕ
  pub listed : Listed (node_of es) (next_of es) box (length es) 0 order (root ∷ [])
  pub long : length order ≡ length es
  pub once : (i : ℕ) → i < length es → count i order ≡ 1
