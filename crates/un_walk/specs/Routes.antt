-- Trees as lists of nodes in preorder, by the paths that wait: for nodes of any kind of which some branch.
use Rattle.std.specs.Prelude.{ℕ, ◌≡◌, ◌+◌, List, [], ◌∷◌, ◌++◌, None, Some}
use Rattle.std.specs.declared.option.Option.{Option}
use Rattle.un_base.specs.declared.ids.VarId.{VarId}
use Rattle.un_domains.specs.Sets.{Sets}
use Rattle.un_domains.specs.declared.side.Side.TheVariants.{AtMost, Above}
use Rattle.un_tree.specs.Boxes.{reached}
use Rattle.un_tree.specs.Waits.{Waiting, Whole, Visit}
use Rattle.un_tree.specs.declared.node.Decision.{Decision}
use Rattle.un_tree.specs.declared.node.Node.{Node}
use Rattle.un_tree.specs.declared.node.Node.TheVariants.{Branch, Closed, Open, Split, Part}

-- the paths that wait behind a node, the next one first: of a branch both sides
abbrev pub paths_after : Option (VarId × ℕ) → List Decision → List (List Decision) → List (List Decision)
paths_after None path rest = rest
paths_after (Some b) path rest =
    (path ++ record { var = b.0; val = b.1; side = AtMost } ∷ [])
    ∷ (path ++ record { var = b.0; val = b.1; side = Above } ∷ [])
    ∷ rest

-- a node, the decisions that lead to it, its place in the list, and the nodes behind it
pub record Route (N : Type 0) : Type 0 where
  pub node : N
  pub path : List Decision
  pub place : ℕ
  pub rest : List N

-- each node that a path waits for; the others are past the end of the tree
abbrev pub routes : {N : Type 0} → (N → Option (VarId × ℕ)) → ℕ → List N → List (List Decision) → List (Route N)
routes branch i [] paths = []
routes branch i (n ∷ ns) [] = []
routes branch i (n ∷ ns) (path ∷ paths) =
    record { node = n; path = path; place = i; rest = ns } ∷ routes branch (i + 1) ns (paths_after (branch n) path paths)

-- the nodes are one whole tree for each path that waits
abbrev pub IsWholeBy : {N : Type 0} → (N → Option (VarId × ℕ)) → List N → List (List Decision) → Type 0
IsWholeBy branch [] paths = paths ≡ []
IsWholeBy branch (n ∷ ns) [] = ⊥
IsWholeBy branch (n ∷ ns) (path ∷ paths) = IsWholeBy branch ns (paths_after (branch n) path paths)

-- where a node of a search's tree branches
abbrev pub branch_at : Node → Option (VarId × ℕ)
branch_at (Branch v x) = Some (v, x)
branch_at Closed = None
branch_at Open = None
branch_at Split = None
branch_at (Part number) = None

-- what waits at the end of a path
abbrev pub box_at : Sets → List Decision → Waiting
box_at root path = Whole (reached root path)

-- a node of a search's tree with the box that it stands at
abbrev pub visit_at : Sets → Route Node → Visit
visit_at root r = record { node = r.node; waiting = box_at root r.path; place = r.place; rest = r.rest }
