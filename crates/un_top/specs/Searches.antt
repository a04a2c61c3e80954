-- From the start of a search to its report.
use Rattle.std.specs.Prelude.{ℕ, ◌≡◌, ⊤, List, None, Some}
use Rattle.std.specs.declared.option.Option.{Option}
use Rattle.un_isa.specs.declared.table.TheConstants.{LAST}
use Rattle.un_ir.specs.declared.function.Function.{Function}
use Rattle.un_simulation.specs.Count.{count_of}
use Rattle.un_simulation.specs.Simulation.{Simulates}
use Rattle.un_packet.specs.declared.code.Code.{Code as CodeValue}
use Rattle.un_model.specs.declared.model.Model.{Model}
use Rattle.un_model.specs.declared.model.Solution.{Solution}
use Rattle.un_model.specs.Cost.{cost_of}
use Rattle.un_model.specs.Solutions.{IsSolution}
use Rattle.un_baseline.specs.RoomyOptions.{AreRoomyFor, IsOfFunction}
use Rattle.un_baseline.specs.SpilledCost.{spill_cost}
use Rattle.un_emit.specs.Emitted.{IsEmitted, start_places}
use Rattle.un_tree.specs.declared.node.Node.{Node}
use Rattle.un_report.specs.declared.report.Answered.{Answered}
use Rattle.un_report.specs.declared.report.Answered.TheVariants.{Code, Infeasible, Spent}
use Rattle.un_report.specs.declared.report.Report.{Report}
use Rattle.un_report_reader.specs.Lines.{IsLong}
use Rattle.un_search.specs.declared.solve.Answer.{Answer}
use Rattle.un_search.specs.declared.solve.Answer.TheVariants.{Code as Solved, Infeasible as Refuted, Spent as Stopped}
use Rattle.un_top.specs.Reports.{IsCodeWithin}

-- a solution that costs what it costs to keep each name in a frame slot of its own, where the options have room for that
abbrev pub IsStartOf : Function → Model → Option Solution → Type 0
IsStartOf f m None = AreRoomyFor f m.options → ⊥
IsStartOf f m (Some s) =
    IsSolution m s × ((source : IsOfFunction m.ext) → cost_of m s ≡ spill_cost m.ext.table source.function source.lists)

-- an answer is no worse than that from which its search went on: where there was a solution, it is code that costs no more
abbrev pub IsNoWorse : Model → Option Solution → Answered → Type 0
IsNoWorse m None a = ⊤
IsNoWorse m (Some s) a = IsCodeWithin (cost_of m s) a

-- the code of a solution, which does what the function does and costs what the solution costs
pub record IsCodeOf (f : Function) (m : Model) (s : Solution) (code : CodeValue) : Type 0 where
  pub emitted : IsEmitted m s.values code
  pub simulates : Simulates m.ext.table f (start_places m s.values) code
  pub counted : count_of f code ≡ cost_of m s

-- a report's answer and tree are those of a search
abbrev pub IsAnswerOf : Function → Model → Answer → Answered → List Node → Type 0
IsAnswerOf f m (Solved s cost bound t) (Code c b code x) u =
    (c ≡ cost) × (b ≡ bound) × (x ≡ s) × (u ≡ t.nodes.items) × IsCodeOf f m s code
IsAnswerOf f m (Solved s cost bound t) Infeasible u = ⊥
IsAnswerOf f m (Solved s cost bound t) Spent u = ⊥
IsAnswerOf f m (Refuted t) (Code c b code x) u = ⊥
IsAnswerOf f m (Refuted t) Infeasible u = u ≡ t.nodes.items
IsAnswerOf f m (Refuted t) Spent u = ⊥
IsAnswerOf f m (Stopped t) (Code c b code x) u = ⊥
IsAnswerOf f m (Stopped t) Infeasible u = ⊥
IsAnswerOf f m (Stopped t) Spent u = u ≡ t.nodes.items

-- the cost of code and its bound are numbers of 64 bits
abbrev pub AreLong : Answered → Type 0
AreLong (Code cost bound code s) = IsLong cost × IsLong bound
AreLong Infeasible = ⊤
AreLong Spent = ⊤

-- the report has the last version, the function's name, the model's options and the nodes, and the search's answer
pub record IsReported (f : Function) (m : Model) (nodes : ℕ) (a : Answer) (r : Report) : Type 0 where
  pub versioned : r.version ≡ LAST
  pub named : r.name ≡ f.name
  pub chosen : r.options ≡ m.options
  pub budget : r.nodes ≡ nodes
  pub answer : IsAnswerOf f m a r.answer r.tree.nodes.items
  pub long : AreLong r.answer
