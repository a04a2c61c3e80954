-- The report of a generated function, behind a line that sums it up.
use Rattle.std.specs.Prelude.{ℕ, ◌≡◌, List, ◌++◌, length, codes, decimal}
use Rattle.std.specs.List.{flat_map}
use Rattle.un_base.specs.declared.ids.NameId.{NameId}
use Rattle.un_isa.specs.Versions.{table_of}
use Rattle.un_isa.specs.declared.table.TheConstants.{LAST}
use Rattle.un_ir.specs.declared.function.Block.{Block}
use Rattle.un_ir.specs.declared.function.Function.{Function}
use Rattle.un_gen.specs.Generated.{IsGenerated}
use Rattle.un_model.specs.declared.model.Model.{Model}
use Rattle.un_outside.specs.declared.status.Status.{Status}
use Rattle.un_outside.specs.declared.status.Status.TheVariants.{Done}
use Rattle.un_problem.specs.Problems.{IsModelOf, default_options}
use Rattle.un_certificate.specs.Joints.{visits_in}
use Rattle.un_tree.specs.Waits.{outer_count}
use Rattle.un_report.specs.Reports.{report_text}
use Rattle.un_report_reader.specs.Readings.{IsReport}
use Rattle.un_report.specs.declared.report.Answered.{Answered}
use Rattle.un_report.specs.declared.report.Answered.TheVariants.{Code, Infeasible, Spent}
use Rattle.un_report.specs.declared.report.Report.{Report}
use Rattle.un_top.specs.Reports.{IsSearchOf, UsesRoom, status_of}

-- 0 where there is no code
abbrev pub cost_in : Answered → ℕ
cost_in (Code cost bound code s) = cost
cost_in Infeasible = 0
cost_in Spent = 0

abbrev pub bound_in : Answered → ℕ
bound_in (Code cost bound code s) = bound
bound_in Infeasible = 0
bound_in Spent = 0

abbrev pub op_count : List Block → ℕ
op_count blocks = length (flat_map (λ (b : Block). b.ops) blocks)

-- what is said of the function: its seed and its size, and how many blocks and operations it has
abbrev pub function_words : ℕ → ℕ → Function → List ℕ
function_words seed size f =
    (codes "seed " ++ decimal seed) ++ (codes " size " ++ decimal size) ++ (codes " blocks " ++ decimal (length f.blocks))
    ++ (codes " operations " ++ decimal (op_count f.blocks))

-- how many nodes of its report's tree are outer ones, by the function's model
abbrev pub outer_nodes : Model → Report → ℕ
outer_nodes m r = outer_count (visits_in m r.tree.nodes.items)

-- what is said of its report: its cost, its bound and a number of nodes
abbrev pub report_words : Report → ℕ → List ℕ
report_words r nodes =
    (codes " cost " ++ decimal (cost_in r.answer)) ++ (codes " bound " ++ decimal (bound_in r.answer))
    ++ (codes " nodes " ++ decimal nodes) ++ codes "\n"

abbrev pub summary_line : ℕ → ℕ → Function → Report → ℕ → List ℕ
summary_line seed size f r nodes = function_words seed size f ++ report_words r nodes

-- the text of a search's report, which is one that is read, behind this line with its outer nodes; a run that writes it whole ends so
pub record IsSummedUp (seed size nodes : ℕ) (f : Function) (m : Model) (live : List (List NameId)) (status : Status) (out : List ℕ) : Type 0 where
  pub report : Report
  pub found : IsSearchOf f m nodes report
  pub room : UsesRoom f m live report.answer
  pub is_report : IsReport report
  pub ends : status ≡ status_of report.answer
  pub printed : out ≡ summary_line seed size f report (outer_nodes m report) ++ report_text report

-- the report of a search with so many nodes for the code of the function that a seed and a size generate: there is code
pub record IsGeneratedReport (seed size nodes : ℕ) (status : Status) (out : List ℕ) : Type 0 where
  pub function : Function
  pub is : IsGenerated seed size function
  pub model : Model
  pub is_model : IsModelOf (table_of LAST) function default_options model
  pub summed : IsSummedUp seed size nodes function model is_model.ext.live status out
  pub done : status ≡ Done
