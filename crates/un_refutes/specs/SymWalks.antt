-- How far the check of a tree with mirrors has come, and what was found of a node.
use Rattle.std.specs.Prelude.{ℕ, ◌≡◌, List, ◌++◌, All, None, Some}
use Rattle.std.specs.declared.option.Option.{Option}
use Rattle.un_model.specs.declared.model.Model.{Model}
use Rattle.un_tree.specs.declared.node.Decision.{Decision}
use Rattle.un_symtree.specs.declared.node.SymNode.{SymNode}
use Rattle.un_walk.specs.Routes.{IsWholeBy, Route, routes}
use Rattle.un_walk.specs.Turns.{paths_at}
use Rattle.un_stand.specs.Rooms.{path_of}
use Rattle.un_mirrors.specs.Mirrors.{sym_branch_at}
use Rattle.un_refutes.specs.SymVerdicts.{IsWholeTree, Keeps, KeepsAt, point_of, routes_of}
use Rattle.un_refutes.specs.declared.verdict.SymVerdict.{SymVerdict}
use Rattle.un_refutes.specs.declared.walk.Walk.{Walk}

-- a node keeps its point at the end of its path, or breaks the one that is named, with its place
abbrev pub IsJudged : Model → Option ℕ → ℕ → SymNode → List Decision → Option SymVerdict → Type 0
IsJudged m limit place n path None = KeepsAt m limit n path
IsJudged m limit place n path (Some v) = (v ≡ point_of n place) × (KeepsAt m limit n path → ⊥)

-- all nodes before the rest were looked at, and keep their points
pub record IsWalk (m : Model) (limit : Option ℕ) (nodes rest : List SymNode) (w : Walk) : Type 0 where
  pub done : List (Route SymNode)
  pub split : routes_of nodes ≡ done ++ routes sym_branch_at w.place rest (paths_at (path_of w.room) w.more)
  pub kept : All (Keeps m limit) done
  pub forth : IsWholeTree nodes → IsWholeBy sym_branch_at rest (paths_at (path_of w.room) w.more)
  pub back : IsWholeBy sym_branch_at rest (paths_at (path_of w.room) w.more) → IsWholeTree nodes
