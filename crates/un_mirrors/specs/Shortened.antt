-- Trees shortened by mirrors: what is kept of a tree, what is put as a mirror, and that nothing more can be.
use Rattle.std.specs.Prelude.{ℕ, ◌≡◌, ◌+◌, List, [], ◌∷◌, ◌++◌, ⊤, All, Contains, length}
use Rattle.un_domains.specs.Sets.{Sets}
use Rattle.un_domains.specs.declared.side.Side.TheVariants.{AtMost, Above}
use Rattle.un_model.specs.declared.model.Model.{Model}
use Rattle.un_tree.specs.Boxes.{Splits, reached}
use Rattle.un_tree.specs.declared.node.Decision.{Decision}
use Rattle.un_tree.specs.declared.node.Node.{Node}
use Rattle.un_tree.specs.declared.node.Node.TheVariants.{Branch, Closed}
use Rattle.un_walk.specs.Routes.{IsWholeBy, Route, branch_at, routes}
use Rattle.un_symtree.specs.declared.node.SymNode.{SymNode}
use Rattle.un_symtree.specs.declared.node.SymNode.TheVariants.{Branch as SymBranch, Closed as SymClosed, Mirror}
use Rattle.un_mirrors.specs.Mirrors.{IsMirror, sym_branch_at}

-- ---- the nodes and their paths

-- the nodes of a search's tree
abbrev pub tree_routes : List Node → List (Route Node)
tree_routes nodes = routes branch_at 0 nodes ([] ∷ [])

-- the nodes of a tree with mirrors
abbrev pub sym_routes : List SymNode → List (Route SymNode)
sym_routes nodes = routes sym_branch_at 0 nodes ([] ∷ [])

-- the nodes are one whole tree
abbrev pub IsOneTree : List Node → Type 0
IsOneTree nodes = IsWholeBy branch_at nodes ([] ∷ [])

-- ---- what is kept

-- nodes are kept in order, but that a mirror stands for a whole subtree
abbrev pub IsShortOf : List Node → List SymNode → Type 0
IsShortOf nodes [] = nodes ≡ []
IsShortOf nodes (SymBranch v x ∷ short) = (rest : List Node) × (nodes ≡ Branch v x ∷ rest) × IsShortOf rest short
IsShortOf nodes (SymClosed ∷ short) = (rest : List Node) × (nodes ≡ Closed ∷ rest) × IsShortOf rest short
IsShortOf nodes (Mirror a b d ∷ short) = (tree rest : List Node) × (nodes ≡ tree ++ rest) × IsOneTree tree × IsShortOf rest short

-- a node stands in a tree at the end of a path
pub record StandsAt (nodes : List Node) (n : Node) (path : List Decision) : Type 0 where
  pub place : ℕ
  pub rest : List Node
  pub there : Contains (tree_routes nodes) (record { node = n; path = path; place = place; rest = rest })

-- a node that is no mirror stands in the tree at the same path
abbrev pub IsKept : List Node → SymNode → List Decision → Type 0
IsKept nodes (SymBranch v x) path = StandsAt nodes (Branch v x) path
IsKept nodes SymClosed path = StandsAt nodes Closed path
IsKept nodes (Mirror a b d) path = ⊤

-- a branch splits the box at the end of its path
abbrev pub SplitsAt : Sets → SymNode → List Decision → Type 0
SplitsAt root (SymBranch v x) path = Splits (reached root path) v x
SplitsAt root SymClosed path = ⊤
SplitsAt root (Mirror a b d) path = ⊤

-- a mirror mirrors at the end of its path
abbrev pub MirrorsAt : Model → SymNode → List Decision → Type 0
MirrorsAt m (SymBranch v x) path = ⊤
MirrorsAt m SymClosed path = ⊤
MirrorsAt m (Mirror a b d) path = IsMirror m a.0 b.0 d path

-- ---- that nothing more can be put as a mirror

abbrev pub IsNoMirror : SymNode → Type 0
IsNoMirror (SymBranch v x) = ⊤
IsNoMirror SymClosed = ⊤
IsNoMirror (Mirror a b d) = ⊥

-- the last decision of a path for the side above has so many decisions above it
pub record IsNearestRight (path : List Decision) (depth : ℕ) : Type 0 where
  pub above : List Decision
  pub at : Decision
  pub below : List Decision
  pub split : path ≡ above ++ at ∷ below
  pub deep : length above ≡ depth
  pub right : at.side ≡ Above
  pub nearest : All (λ (d : Decision). d.side ≡ AtMost) below

-- with a register and the next one exchanged, the end of a path mirrors the left side of the nearest branch on whose right side it is
abbrev pub IsMirrorOnNearest : Model → ℕ → List Decision → Type 0
IsMirrorOnNearest m a path = (depth : ℕ) × IsNearestRight path depth × IsMirror m a (a + 1) depth path

-- a node that is no mirror cannot be put as one
abbrev pub IsNoMore : Model → SymNode → List Decision → Type 0
IsNoMore m node path = (a : ℕ) → IsNoMirror node → IsMirrorOnNearest m a path → ⊥
