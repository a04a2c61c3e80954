-- What an answer says of its function, and of all solutions of a model.
use Rattle.std.specs.Prelude.{ℕ, ◌≡◌, ◌≤◌, ⊤}
use Rattle.un_ir.specs.declared.function.Function.{Function}
use Rattle.un_packet.specs.declared.code.Code.{Code as CodeValue}
use Rattle.un_simulation.specs.Count.{count_of}
use Rattle.un_simulation.specs.Simulation.{Simulates}
use Rattle.un_emit.specs.Emitted.{start_places}
use Rattle.un_model.specs.Cost.{cost_of}
use Rattle.un_model.specs.Solutions.{IsSolution}
use Rattle.un_model.specs.declared.model.Model.{Model}
use Rattle.un_model.specs.declared.model.Solution.{Solution}
use Rattle.un_report.specs.declared.report.Answered.{Answered}
use Rattle.un_report.specs.declared.report.Answered.TheVariants.{Code, Infeasible, Spent}
use Rattle.un_check.specs.declared.verdict.TreeVerdict.{TreeVerdict}
use Rattle.un_check.specs.declared.verdict.TreeVerdict.TheVariants.{Yes}

-- the code does what the function does, with the solution's places of the names that are live at each block's start, and its packets, as
-- often as they run, are the cost
pub record IsCodeFor (f : Function) (m : Model) (cost : ℕ) (code : CodeValue) (s : Solution) : Type 0 where
  pub simulates : Simulates m.ext.table f (start_places m s.values) code
  pub counted : cost ≡ count_of f code

-- the same of an answer that is code
abbrev pub HasCodeFor : Function → Model → Answered → Type 0
HasCodeFor f m (Code cost bound code s) = IsCodeFor f m cost code s
HasCodeFor f m Infeasible = ⊤
HasCodeFor f m Spent = ⊤

-- none costs less than the bound of code; none is there where the model is said to have none
abbrev pub BoundsAll : Model → Answered → Type 0
BoundsAll m (Code cost bound code s) = (x : Solution) → IsSolution m x → bound ≤ cost_of m x
BoundsAll m Infeasible = (x : Solution) → IsSolution m x → ⊥
BoundsAll m Spent = ⊤

-- the verdict is that all is well
abbrev pub IsAccepting : TreeVerdict → Type 0
IsAccepting (Yes least count) = ⊤
IsAccepting _ = ⊥
