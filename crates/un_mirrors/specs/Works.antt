-- How far the shortening of a tree has come.
use Rattle.std.specs.Prelude.{ℕ, ◌≡◌, ◌≢◌, ◌≤◌, List, [], ◌∷◌, ◌++◌, All, Contains, length, drop, Option}
use Rattle.std.specs.List.{AllByRecursion}
use Rattle.un_base.specs.declared.ids.VarId.{VarId}
use Rattle.un_model.specs.Boxes.{root_of}
use Rattle.un_model.specs.declared.model.Model.{Model}
use Rattle.un_tree.specs.Waits.{HasSides, IsPlain, IsTreeOf, visits_of}
use Rattle.un_tree.specs.declared.node.Decision.{Decision}
use Rattle.un_tree.specs.declared.node.Node.{Node}
use Rattle.un_tree.specs.declared.node.Node.TheVariants.{Branch, Closed, Open, Split, Part}
use Rattle.un_walk.specs.Routes.{IsWholeBy, Route, branch_at, paths_after, routes}
use Rattle.un_walk.specs.Stands.{IsStandAt}
use Rattle.un_walk.specs.Turns.{paths_at}
use Rattle.un_symtree.specs.SymTexts.{SymFits}
use Rattle.un_symtree.specs.declared.node.SymNode.{SymNode}
use Rattle.un_symtree.specs.declared.node.SymNode.TheVariants.{Branch as SymBranch, Closed as SymClosed, Mirror}
use Rattle.un_mirrors.specs.Mirrors.{IsMirror, sym_branch_at}
use Rattle.un_mirrors.specs.Shortened.{IsKept, IsNoMore, IsOneTree, IsShortOf, MirrorsAt, SplitsAt, sym_routes, tree_routes}
use Rattle.un_mirrors.specs.declared.shorten.Work.{Work}

-- the paths that wait before some nodes become those that wait behind them
abbrev pub Leads : {N : Type 0} → (N → Option (VarId × ℕ)) → List N → List (List Decision) → List (List Decision) → Type 0
Leads branch [] before behind = before ≡ behind
Leads branch (n ∷ ns) [] behind = ⊥
Leads branch (n ∷ ns) (path ∷ paths) behind = Leads branch ns (paths_after (branch n) path paths) behind

-- a tree that can be shortened: whole, without an open leaf and without a Split, and each branch has both sides
pub record IsShortenable (m : Model) (nodes : List Node) : Type 0 where
  pub whole : IsTreeOf (length m.ext.blocks) (root_of m) nodes
  pub plain : All IsPlain nodes
  pub strict : All HasSides (visits_of (length m.ext.blocks) (root_of m) nodes)
  pub closed : All (λ n. n ≢ Open) nodes

-- a node of a search's tree as one of a tree with mirrors
abbrev pub IsSameNode : Node → SymNode → Type 0
IsSameNode (Branch v x) s = s ≡ SymBranch v x
IsSameNode Closed s = s ≡ SymClosed
IsSameNode Open s = ⊥
IsSameNode Split s = ⊥
IsSameNode (Part number) s = ⊥

-- the node is a mirror, and mirrors at the end of the path
abbrev pub IsMirrorHere : Model → List Decision → SymNode → Type 0
IsMirrorHere m path (SymBranch v x) = ⊥
IsMirrorHere m path SymClosed = ⊥
IsMirrorHere m path (Mirror a b d) = IsMirror m a.0 b.0 d path

-- the nodes begin with a whole tree
pub record BeginsWithTree (nodes : List Node) : Type 0 where
  pub path : List Decision
  pub behind : List (List Decision)
  pub whole : IsWholeBy branch_at nodes (path ∷ behind)

-- from one place to another the nodes are a whole tree
pub record IsTreeTo (nodes : List Node) (from to : ℕ) : Type 0 where
  pub tree : List Node
  pub split : drop from nodes ≡ tree ++ drop to nodes
  pub one : IsOneTree tree

-- a node of the shortened tree is as it has to be
pub record IsMade (m : Model) (nodes : List Node) (n : SymNode) (path : List Decision) : Type 0 where
  pub kept : IsKept nodes n path
  pub splits : SplitsAt (root_of m) n path
  pub mirrors : MirrorsAt m n path
  pub no_more : IsNoMore m n path

-- the walk stands at the next node of the tree, and the nodes so far are those before it, shortened
pub record IsWork (m : Model) (nodes : List Node) (w : Work) : Type 0 where
  pub at : IsStandAt (root_of m) w.stand
  pub within : w.place ≤ length nodes
  pub waits : IsWholeBy branch_at (drop w.place nodes) (paths_at w.stand.path.items w.more)
  pub number : ℕ
  pub seen : (r : Route Node) → Contains (routes branch_at number (drop w.place nodes) (paths_at w.stand.path.items w.more)) r
      → Contains (tree_routes nodes) r
  pub done : List Node
  pub all : nodes ≡ done ++ drop w.place nodes
  pub short : IsShortOf done w.nodes.items
  pub leads : Leads sym_branch_at w.nodes.items ([] ∷ []) (paths_at w.stand.path.items w.more)
  pub made : AllByRecursion (λ (r : Route SymNode). IsMade m nodes r.node r.path) (sym_routes w.nodes.items)
  pub fit : All SymFits w.nodes.items
