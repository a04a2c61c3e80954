-- What `solve` says of its answer.
use Rattle.std.specs.Prelude.{ℕ, ◌≡◌, ◌≢◌, ◌≤◌, ◌⊎◌, List, Option, Some, ⊤, All, Contains, length}
use Rattle.un_model.specs.declared.model.Model.{Model}
use Rattle.un_model.specs.declared.model.Solution.{Solution}
use Rattle.un_model.specs.Cost.{cost_of}
use Rattle.un_model.specs.Solutions.{IsSolution}
use Rattle.un_merges.specs.Merges.{HasNoMerge}
use Rattle.un_tree.specs.declared.node.Node.{Node}
use Rattle.un_tree.specs.declared.node.Node.TheVariants.{Open}
use Rattle.un_tree.specs.Waits.{IsOdd}
use Rattle.un_certificate.specs.Bounds.{IsBound}
use Rattle.un_certificate.specs.Certificates.{IsCertificate}
use Rattle.un_certificate.specs.Joints.{visits_in}
use Rattle.un_search.specs.Answers.{IsLeftOfRoot}
use Rattle.un_search.specs.declared.best.Best.{Best}
use Rattle.un_search.specs.declared.root.Incumbent.{Incumbent}
use Rattle.un_search.specs.declared.solve.Answer.{Answer}
use Rattle.un_search.specs.declared.solve.Answer.TheVariants.{Code, Infeasible, Spent}
use Rattle.un_search.specs.declared.solve.Last.{Last}
use Rattle.un_search.specs.declared.solve.Step.{Step}
use Rattle.un_search.specs.declared.solve.Step.TheVariants.{Better, Ended}

-- the tree of a search with at most n nodes that found no solution below the limit: where a leaf is open, it used all of them
pub record IsEnded (m : Model) (limit : Option ℕ) (n : ℕ) (t : List Node) : Type 0 where
  pub certificate : IsCertificate m limit t
  pub few : length t ≤ n
  pub used : Contains t Open → IsOdd (length t) n

-- the best solution so far of a search with n nodes: where there are nodes for a branch it has no merge
pub record IsBest (m : Model) (n : ℕ) (b : Best) : Type 0 where
  pub solution : IsSolution m b.solution
  pub cost : b.cost ≡ cost_of m b.solution
  pub tight : 3 ≤ n → HasNoMerge m b.solution

-- a solution with its cost, the tree of the attempt that found none that costs less, and the bound of that tree
pub record IsCode (m : Model) (n : ℕ) (s : Solution) (cost bound : ℕ) (t : List Node) : Type 0 where
  pub solution : IsSolution m s
  pub priced : cost ≡ cost_of m s
  pub tight : 3 ≤ n → HasNoMerge m s
  pub tree : IsEnded m (Some cost) n t
  pub shown : IsBound m cost (visits_in m t) bound
  pub least : (x : Solution) → IsSolution m x → bound ≤ cost_of m x
  pub equal : All (λ k. k ≢ Open) t → bound ≡ cost

abbrev pub IsLast : Model → ℕ → Last → Type 0
IsLast m n l = IsCode m n l.best.solution l.best.cost l.bound l.tree.nodes.items

-- with one node or two a solution is the start, or what the rounds under some limit leave of the first box
abbrev pub IsByRounds : Model → Option Solution → Solution → Type 0
IsByRounds m start s = (start ≡ Some s) ⊎ ((limit : Option ℕ) × IsLeftOfRoot m limit s)

-- what is so of a better solution, and where there is none
abbrev pub OnBetter : (Incumbent → Type 0) → Step → Type 0
OnBetter P (Better b) = P b
OnBetter P (Ended l) = ⊤

abbrev pub OnEnded : (Last → Type 0) → Step → Type 0
OnEnded P (Better b) = ⊤
OnEnded P (Ended l) = P l

-- what is so of a solution with its cost, its bound and its tree
abbrev pub OnCode : (Solution → ℕ → ℕ → List Node → Type 0) → Answer → Type 0
OnCode P (Code s cost bound t) = P s cost bound t.nodes.items
OnCode P (Infeasible t) = ⊤
OnCode P (Spent t) = ⊤

-- what is so of the tree that shows that there is no solution
abbrev pub OnInfeasible : (List Node → Type 0) → Answer → Type 0
OnInfeasible P (Code s cost bound t) = ⊤
OnInfeasible P (Infeasible t) = P t.nodes.items
OnInfeasible P (Spent t) = ⊤

-- what is so of the tree of a search that ended before it found a solution
abbrev pub OnSpent : (List Node → Type 0) → Answer → Type 0
OnSpent P (Code s cost bound t) = ⊤
OnSpent P (Infeasible t) = ⊤
OnSpent P (Spent t) = P t.nodes.items

-- what is so where there is no code
abbrev pub OnOther : Type 0 → Answer → Type 0
OnOther P (Code s cost bound t) = ⊤
OnOther P (Infeasible t) = P
OnOther P (Spent t) = P

-- there is no open leaf in the answer's tree
abbrev pub HasNoOpenLeaf : Answer → Type 0
HasNoOpenLeaf (Code s cost bound t) = All (λ k. k ≢ Open) t.nodes.items
HasNoOpenLeaf (Infeasible t) = All (λ k. k ≢ Open) t.nodes.items
HasNoOpenLeaf (Spent t) = ⊥
