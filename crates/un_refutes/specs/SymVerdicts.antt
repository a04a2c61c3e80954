-- What the check of a tree with mirrors answers: the first node that breaks its point; else whether the list is one whole tree.
use Rattle.std.specs.Prelude.{ℕ, ◌≡◌, List, [], ◌∷◌, ◌++◌, ⊤, All, None, Some}
use Rattle.std.specs.declared.option.Option.{Option}
use Rattle.un_model.specs.Boxes.{root_of}
use Rattle.un_model.specs.declared.model.Model.{Model}
use Rattle.un_post.specs.Posts.{fix_at}
use Rattle.un_tree.specs.Boxes.{Splits, reached}
use Rattle.un_tree.specs.declared.node.Decision.{Decision}
use Rattle.un_symtree.specs.declared.node.SymNode.{SymNode}
use Rattle.un_symtree.specs.declared.node.SymNode.TheVariants.{Branch, Closed, Mirror}
use Rattle.un_walk.specs.Routes.{IsWholeBy, Route, routes}
use Rattle.un_mirrors.specs.Mirrors.{IsMirror, sym_branch_at}
use Rattle.un_refutes.specs.declared.verdict.SymVerdict.{SymVerdict}
use Rattle.un_refutes.specs.declared.verdict.SymVerdict.TheVariants.{Yes, NotStrict, NotClosed, NotMirror, Short}

-- a node keeps its point at the end of its path: a branch has both sides in its box, the rounds fail on the box of a closed leaf, and a
-- mirror mirrors the left side of a branch above it
abbrev pub KeepsAt : Model → Option ℕ → SymNode → List Decision → Type 0
KeepsAt m limit (Branch v x) path = Splits (reached (root_of m) path) v x
KeepsAt m limit Closed path = fix_at m limit (reached (root_of m) path) ≡ None
KeepsAt m limit (Mirror a b depth) path = IsMirror m a.0 b.0 depth path

abbrev pub Keeps : Model → Option ℕ → Route SymNode → Type 0
Keeps m limit r = KeepsAt m limit r.node r.path

-- the point that nodes of this kind have, with a place
abbrev pub point_of : SymNode → ℕ → SymVerdict
point_of (Branch v x) place = NotStrict place
point_of Closed place = NotClosed place
point_of (Mirror a b depth) place = NotMirror place

-- a node breaks its point, which is named, with its place
abbrev pub Breaks : Model → Option ℕ → Route SymNode → SymVerdict → Type 0
Breaks m limit r v = (v ≡ point_of r.node r.place) × (Keeps m limit r → ⊥)

-- the first node that breaks its point
pub record IsFirstBreak (m : Model) (limit : Option ℕ) (rs : List (Route SymNode)) (v : SymVerdict) : Type 0 where
  pub before : List (Route SymNode)
  pub at : Route SymNode
  pub behind : List (Route SymNode)
  pub split : rs ≡ before ++ at ∷ behind
  pub kept : All (Keeps m limit) before
  pub breaks : Breaks m limit at v

-- the nodes of a tree, each with the decisions that lead to it. Nodes past the end of the tree are none
abbrev pub routes_of : List SymNode → List (Route SymNode)
routes_of nodes = routes sym_branch_at 0 nodes ([] ∷ [])

-- the nodes are one whole tree
abbrev pub IsWholeTree : List SymNode → Type 0
IsWholeTree nodes = IsWholeBy sym_branch_at nodes ([] ∷ [])

-- one whole tree in which each node keeps its point
pub record IsYes (m : Model) (limit : Option ℕ) (nodes : List SymNode) : Type 0 where
  pub whole : IsWholeTree nodes
  pub kept : All (Keeps m limit) (routes_of nodes)

-- no node breaks its point, and the list ends inside the tree or goes on after it
pub record IsShort (m : Model) (limit : Option ℕ) (nodes : List SymNode) : Type 0 where
  pub torn : IsWholeTree nodes → ⊥
  pub kept : All (Keeps m limit) (routes_of nodes)

-- the answer under a limit on the cost, or under none
abbrev pub IsVerdict : Model → Option ℕ → List SymNode → SymVerdict → Type 0
IsVerdict m limit nodes Yes = IsYes m limit nodes
IsVerdict m limit nodes (NotStrict i) = IsFirstBreak m limit (routes_of nodes) (NotStrict i)
IsVerdict m limit nodes (NotClosed i) = IsFirstBreak m limit (routes_of nodes) (NotClosed i)
IsVerdict m limit nodes (NotMirror i) = IsFirstBreak m limit (routes_of nodes) (NotMirror i)
IsVerdict m limit nodes Short = IsShort m limit nodes

-- the answer of the check of a list of nodes under a limit on the cost
abbrev pub IsSymVerdict : Model → ℕ → List SymNode → SymVerdict → Type 0
IsSymVerdict m limit nodes v = IsVerdict m (Some limit) nodes v

-- what is so where all is well
abbrev pub OnYes : Type 0 → SymVerdict → Type 0
OnYes P Yes = P
OnYes P (NotStrict i) = ⊤
OnYes P (NotClosed i) = ⊤
OnYes P (NotMirror i) = ⊤
OnYes P Short = ⊤
