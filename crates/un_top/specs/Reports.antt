-- The report of a function's text: what a search for its code answered.
use Rattle.std.specs.Prelude.{ℕ, ◌≡◌, ◌≢◌, ◌≤◌, ⊤, List, All, length}
use Rattle.un_base.specs.declared.ids.NameId.{NameId}
use Rattle.un_outside.specs.declared.status.Status.{Status}
use Rattle.un_outside.specs.declared.status.Status.TheVariants.{Done, Infeasible as NoCode, Spent as NoNodes}
use Rattle.un_outside.specs.declared.status.NoCause.{NoCause}
use Rattle.un_isa.specs.declared.table.Table.{Table}
use Rattle.un_isa.specs.declared.table.TheConstants.{LAST}
use Rattle.un_ir.specs.declared.function.Function.{Function}
use Rattle.un_packet.specs.declared.code.Code.{Code as CodeValue}
use Rattle.un_simulation.specs.Count.{count_of}
use Rattle.un_simulation.specs.Simulation.{Simulates}
use Rattle.un_model.specs.declared.model.Model.{Model}
use Rattle.un_model.specs.declared.model.Options.{Options}
use Rattle.un_model.specs.declared.model.Solution.{Solution}
use Rattle.un_model.specs.Cost.{cost_of}
use Rattle.un_model.specs.Solutions.{IsSolution}
use Rattle.un_violations.specs.Loose.{IsLoose}
use Rattle.un_bound.specs.Plain.{IsPlainBound}
use Rattle.un_problem.specs.Problems.{IsModelOf}
use Rattle.un_baseline.specs.RoomyOptions.{AreRoomyFor}
use Rattle.un_baseline.specs.SpilledCost.{spill_cost}
use Rattle.un_emit.specs.Emitted.{start_places}
use Rattle.un_reader.specs.Read.{IsRead}
use Rattle.un_merges.specs.Merges.{HasNoMerge}
use Rattle.un_tree.specs.declared.node.Node.{Node}
use Rattle.un_tree.specs.declared.node.Node.TheVariants.{Open}
use Rattle.un_certificate.specs.Certificates.{IsCertificate}
use Rattle.un_check.specs.Causes.{HasCause, claim_of, limit_of}
use Rattle.un_check.specs.Sound.{IsSoundFor}
use Rattle.un_report.specs.Reports.{report_text}
use Rattle.un_report_reader.specs.Readings.{IsReport}
use Rattle.un_report.specs.declared.report.Answered.{Answered}
use Rattle.un_report.specs.declared.report.Answered.TheVariants.{Code, Infeasible, Spent}
use Rattle.un_report.specs.declared.report.Report.{Report}

-- the code does what the function does, with the solution's places of the names that are live at each block's start; its packets, as often
-- as they run, are the cost; no solution costs less than the bound, and no schedule of any length; the bound is the cost where no leaf is
-- open, and at least the plain bound; and with three nodes or more no merge of the solution is one
pub record IsGoodCode (f : Function) (m : Model) (nodes : ℕ) (t : List Node) (cost bound : ℕ) (code : CodeValue) (s : Solution) : Type 0 where
  pub simulates : Simulates m.ext.table f (start_places m s.values) code
  pub counted : cost ≡ count_of f code
  pub least : (x : Solution) → IsSolution m x → bound ≤ cost_of m x
  pub loose : (x : Solution) → IsLoose m x → bound ≤ cost_of m x
  pub plain : (n : ℕ) → IsPlainBound m n → n ≤ bound
  pub equal : All (λ n. n ≢ Open) t → bound ≡ cost
  pub tight : 3 ≤ nodes → HasNoMerge m s

-- what is so of an answer besides
abbrev pub IsGoodAnswer : Function → Model → ℕ → List Node → Answered → Type 0
IsGoodAnswer f m nodes t (Code cost bound code s) = IsGoodCode f m nodes t cost bound code s
IsGoodAnswer f m nodes t Infeasible = (x : Solution) → IsSolution m x → ⊥
IsGoodAnswer f m nodes t Spent = ⊤

-- an answer is code that costs no more than this
abbrev pub IsCodeWithin : ℕ → Answered → Type 0
IsCodeWithin most (Code cost bound code s) = cost ≤ most
IsCodeWithin most Infeasible = ⊥
IsCodeWithin most Spent = ⊥

-- where each name can be kept in a frame slot of its own, an answer is code that costs no more than that
abbrev pub UsesRoom : Function → Model → List (List NameId) → Answered → Type 0
UsesRoom f m live a = AreRoomyFor f m.options → IsCodeWithin (spill_cost m.ext.table f live) a

-- the check of a report of a function accepts it: no cause stands
abbrev pub HasNoCause : Table → Function → Report → Type 0
HasNoCause t f r = (c : NoCause) → HasCause t f r.options (claim_of r) c → ⊥

-- how a run ends that writes the answer whole
abbrev pub status_of : Answered → Status
status_of (Code cost bound code s) = Done
status_of Infeasible = NoCode
status_of Spent = NoNodes

-- the report of a search of the function's model with so many nodes, in the last version; its tree has no parts, and no more nodes
pub record IsSearchOf (f : Function) (m : Model) (nodes : ℕ) (r : Report) : Type 0 where
  pub versioned : r.version ≡ LAST
  pub chosen : r.options ≡ m.options
  pub budget : r.nodes ≡ nodes
  pub few : length r.tree.nodes.items ≤ nodes
  pub sound : IsSoundFor m f r
  pub searched : IsCertificate m (limit_of r.answer) r.tree.nodes.items
  pub accepted : HasNoCause m.ext.table f r
  pub answer : IsGoodAnswer f m nodes r.tree.nodes.items r.answer

-- the text of such a report, which is one that is read, with an answer of which this is so too; a run that writes it whole ends so
pub record IsSearchText (f : Function) (m : Model) (nodes : ℕ) (besides : Answered → Type 0) (status : Status) (out : List ℕ) : Type 0 where
  pub report : Report
  pub is_search : IsSearchOf f m nodes report
  pub is_so : besides report.answer
  pub is_report : IsReport report
  pub ends : status ≡ status_of report.answer
  pub printed : out ≡ report_text report

-- the report of the function that a text is, for a table and under options
pub record IsReportOf (t : Table) (o : Options) (nodes : ℕ) (text : List ℕ) (status : Status) (out : List ℕ) : Type 0 where
  pub function : Function
  pub read : IsRead text function
  pub model : Model
  pub is_model : IsModelOf t function o model
  pub found : IsSearchText function model nodes (UsesRoom function model is_model.ext.live) status out
