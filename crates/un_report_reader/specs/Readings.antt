-- Which reports have a text that is read, and what is read.
use Rattle.std.specs.Prelude.{ℕ, ◌≡◌, ⊤, List, Result, Ok, Err, All, length}
use Rattle.un_commands.specs.Settings.{IsCountOfNodes}
use Rattle.un_isa.specs.Versions.{IsVersion}
use Rattle.un_model.specs.declared.model.Solution.{Solution}
use Rattle.un_report.specs.Reports.{report_text, solution_text}
use Rattle.un_report.specs.Views.{IsViewOf, view_text}
use Rattle.un_report.specs.declared.report.Report.{Report}
use Rattle.un_report.specs.declared.view.ReportView.{ReportView}
use Rattle.un_report_reader.specs.Answers.{IsAnswer, AreValues}
use Rattle.un_report_reader.specs.FirstBad.{IsFirstBad, IsFirstBadAlone}
use Rattle.un_report_reader.specs.Limits.{limits_of, AreWithin, AreFewLines, IsAllowed}
use Rattle.un_report_reader.specs.Lines.{IsName}
use Rattle.un_report_reader.specs.Trees.{AreNodeLines}
use Rattle.un_report_reader.specs.declared.error.ReportError.{ReportError}
use Rattle.un_report_reader.specs.declared.error.ReportError.TheVariants.{NoMemory, BadReport}
use Rattle.un_tree.specs.Texts.{Fits}

-- there is such a version, and the slots, the frame and the tree with its nodes are within its limits; the nodes are those that a search may be asked
-- for, the numbers fit, and the tree has some nodes
pub record IsReport (r : Report) : Type 0 where
  pub version : IsVersion r.version
  pub name : IsName r.name
  pub options : AreWithin (limits_of r.version) r.options
  pub nodes : IsCountOfNodes r.nodes
  pub answer : IsAnswer (limits_of r.version) r.answer
  pub count : AreFewLines (limits_of r.version) (length r.tree.nodes.items)
  pub fit : All Fits r.tree.nodes.items
  pub allowed : All (IsAllowed (limits_of r.version)) r.tree.nodes.items

-- the same of a view, whose tree is the lines of so many nodes
pub record IsView (v : ReportView) : Type 0 where
  pub version : IsVersion v.version
  pub name : IsName v.name.now
  pub options : AreWithin (limits_of v.version) v.options
  pub nodes : IsCountOfNodes v.nodes
  pub answer : IsAnswer (limits_of v.version) v.answer
  pub count : AreFewLines (limits_of v.version) v.count
  pub tree : AreNodeLines (limits_of v.version) v.count v.tree.now

-- the text is that of a report, of which this is the view
pub record IsViewRead (text : List ℕ) (v : ReportView) : Type 0 where
  pub is_view : IsView v
  pub spelled : text ≡ view_text v

-- the text is that of a report
pub record IsReportRead (text : List ℕ) (r : Report) : Type 0 where
  pub is_report : IsReport r
  pub spelled : text ≡ report_text r

-- an error is an answer to a text: there was no memory, or the line is the first bad one
abbrev pub IsErrorOf : List ℕ → ReportError → Type 0
IsErrorOf text NoMemory = ⊤
IsErrorOf text (BadReport line) = IsFirstBad text line

-- an answer to the text of a report is its view, or there was no memory
abbrev pub IsViewBack : Report → Result ReportView ReportError → Type 0
IsViewBack r (Ok v) = IsViewOf r v
IsViewBack r (Err e) = e ≡ NoMemory

-- two reports have the same fields
pub record AreSame (r s : Report) : Type 0 where
  pub version : s.version ≡ r.version
  pub name : s.name ≡ r.name
  pub options : s.options ≡ r.options
  pub nodes : s.nodes ≡ r.nodes
  pub answer : s.answer ≡ r.answer
  pub tree : s.tree.nodes.items ≡ r.tree.nodes.items

-- an answer to the text of a report is that report, or there was no memory
abbrev pub IsReportBack : Report → Result Report ReportError → Type 0
IsReportBack r (Ok s) = AreSame r s
IsReportBack r (Err e) = e ≡ NoMemory

-- ---- the numbers of a solution alone

-- the text is these numbers as a report has them, behind the line of how many they are, and nothing else
pub record IsNumbers (text values : List ℕ) : Type 0 where
  pub are_values : AreValues values
  pub spelled : text ≡ solution_text values

-- an error is an answer to such a text: there was no memory, or the line is the first bad one
abbrev pub IsNumbersError : List ℕ → ReportError → Type 0
IsNumbersError text NoMemory = ⊤
IsNumbersError text (BadReport line) = IsFirstBadAlone text line

-- an answer to the text of numbers has them, or there was no memory
abbrev pub AreNumbersBack : List ℕ → Result Solution ReportError → Type 0
AreNumbersBack values (Ok s) = s.values ≡ values
AreNumbersBack values (Err e) = e ≡ NoMemory
