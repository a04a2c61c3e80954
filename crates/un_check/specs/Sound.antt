-- What a sound report says of its function.
use Rattle.std.specs.Prelude.{ℕ, ◌≡◌, ◌≢◌, List, None, Some, All, Contains}
use Rattle.un_isa.specs.declared.table.Table.{Table}
use Rattle.un_ir.specs.declared.function.Function.{Function}
use Rattle.un_packet.specs.declared.code.Code.{Code as CodeValue}
use Rattle.un_model.specs.Cost.{cost_of}
use Rattle.un_model.specs.Solutions.{IsSolution}
use Rattle.un_model.specs.declared.model.Model.{Model}
use Rattle.un_model.specs.declared.model.Solution.{Solution}
use Rattle.un_problem.specs.Problems.{IsModelOf}
use Rattle.un_emit.specs.Emitted.{IsEmitted}
use Rattle.un_tree.specs.Waits.{IsOdd, outer_count}
use Rattle.un_tree.specs.declared.node.Node.{Node}
use Rattle.un_tree.specs.declared.node.Node.TheVariants.{Open}
use Rattle.un_certificate.specs.Bounds.{IsBound}
use Rattle.un_certificate.specs.Certificates.{IsStanding}
use Rattle.un_certificate.specs.Joints.{visits_in}
use Rattle.un_report.specs.declared.report.Answered.{Answered}
use Rattle.un_report.specs.declared.report.Answered.TheVariants.{Code, Infeasible, Spent}
use Rattle.un_report.specs.declared.report.Report.{Report}

-- the numbers are a solution, with its cost and its code, and the tree shows the bound
pub record IsSoundCode (m : Model) (t : List Node) (cost bound : ℕ) (code : CodeValue) (s : Solution) : Type 0 where
  pub solution : IsSolution m s
  pub costs : cost ≡ cost_of m s
  pub emitted : IsEmitted m s.values code
  pub standing : IsStanding m (Some cost) t
  pub bounded : IsBound m cost (visits_in m t) bound

-- the tree shows that there is no solution
pub record IsSoundInfeasible (m : Model) (t : List Node) : Type 0 where
  pub standing : IsStanding m None t
  pub closed : All (λ n. n ≢ Open) t

-- the tree stands, and a leaf of it is open
pub record IsSoundSpent (m : Model) (t : List Node) : Type 0 where
  pub standing : IsStanding m None t
  pub some : Contains t Open

abbrev pub IsSoundAnswer : Model → List Node → Answered → Type 0
IsSoundAnswer m t (Code cost bound code s) = IsSoundCode m t cost bound code s
IsSoundAnswer m t Infeasible = IsSoundInfeasible m t
IsSoundAnswer m t Spent = IsSoundSpent m t

-- a report on a function, whose model under the report's options this is: where a leaf is open, the tree has as many of the
-- report's nodes as a tree can have, where those in parts do not count
pub record IsSoundFor (m : Model) (f : Function) (r : Report) : Type 0 where
  pub named : r.name ≡ f.name
  pub used : Contains r.tree.nodes.items Open → IsOdd (outer_count (visits_in m r.tree.nodes.items)) r.nodes
  pub answer : IsSoundAnswer m r.tree.nodes.items r.answer

-- a sound report of a function for a table
pub record IsSound (t : Table) (f : Function) (r : Report) : Type 0 where
  pub model : Model
  pub is_model : IsModelOf t f r.options model
  pub sound : IsSoundFor model f r
