-- Reports whose name and tree are slices of a text.
use Rattle.std.specs.Prelude.{ℕ, ◌≡◌, List, ◌++◌, codes, decimal, length}
use Rattle.un_report.specs.Reports.{model_text, answer_text}
use Rattle.un_report.specs.declared.report.Report.{Report}
use Rattle.un_report.specs.declared.view.ReportView.{ReportView}
use Rattle.un_tree.specs.Texts.{tree_text}

-- the view has what the report has, its tree as a text with the number of its lines
pub record IsViewOf (r : Report) (v : ReportView) : Type 0 where
  pub version : v.version ≡ r.version
  pub name : v.name.now ≡ r.name
  pub options : v.options ≡ r.options
  pub nodes : v.nodes ≡ r.nodes
  pub answer : v.answer ≡ r.answer
  pub tree : v.tree.now ≡ tree_text r.tree.nodes.items
  pub count : v.count ≡ length r.tree.nodes.items

-- the text of the report that a view is of
abbrev pub view_text : ReportView → List ℕ
view_text v =
    (codes "unison " ++ decimal v.version ++ codes "\nfunction " ++ v.name.now ++ codes "\n" ++ model_text v.options v.nodes)
    ++ answer_text v.answer ++ (codes "tree " ++ decimal v.count ++ codes "\n" ++ v.tree.now ++ codes "end\n")
