-- The check accepts what `alloc` prints.
use Rattle.std.proofs.Common.{ℕ, ◌≡◌, List, length, refl, sym, ap, subst, ◌∙◌}
use Rattle.std.specs.declared.result.Result.{Result}
use Rattle.std.specs.declared.result.Result.TheVariants.{Ok, Err}
use Rattle.un_isa.specs.Versions.{table_of}
use Rattle.un_isa.specs.declared.table.Table.{Table}
use Rattle.un_isa.specs.declared.table.TheConstants.{LAST}
use Rattle.un_ir.specs.declared.function.Function.{Function}
use Rattle.un_check.specs.Causes.{Claim, IsTold, claim_of}
use Rattle.un_model.specs.declared.model.Options.{Options}
use Rattle.un_outside.specs.declared.status.NoCause.{NoCause}
use Rattle.un_outside.specs.declared.status.Status.{Status}
use Rattle.un_outside.specs.declared.status.Status.TheVariants.{Done}
use Rattle.un_problem.proofs.ProblemLaws.{table_is}
use Rattle.un_reader.specs.Lines.{shapes_in}
use Rattle.un_reader.proofs.PartLaws.{one_function}
use Rattle.un_report.specs.Views.{IsViewOf}
use Rattle.un_report.specs.declared.report.Answered.{Answered}
use Rattle.un_report.specs.declared.report.Report.{Report}
use Rattle.un_report.specs.declared.view.ReportView.{ReportView}
use Rattle.un_report_reader.specs.Readings.{AreSame, IsReport, IsReportRead, IsView}
use Rattle.un_report_reader.proofs.ViewLaws.{same_reports, view_is}
use Rattle.un_report_reader.proofs.WholeTexts.{view_back}
use Rattle.un_runs.specs.Inputs.{first_part, second_part}
use Rattle.un_top.specs.Checks.{IsCheck, IsCheckInput, told_status}
use Rattle.un_top.specs.Reports.{HasNoCause, IsReportOf}
use Rattle.un_tree.specs.Texts.{tree_text}
use Rattle.un_tree.specs.declared.node.Node.{Node}

-- ---- one text is of one report

abbrev view_of : Report → ReportView
view_of r = record {
  version = r.version;
  name = record { ref_ptr = (0, 0); now = r.name };
  options = r.options;
  nodes = r.nodes;
  answer = r.answer;
  tree = record { ref_ptr = (0, 0); now = tree_text r.tree.nodes.items };
  count = length r.tree.nodes.items;
}

is_view_of : (r : Report) → IsViewOf r (view_of r)
is_view_of r = record { version = refl; name = refl; options = refl; nodes = refl; answer = refl; tree = refl; count = refl }

is_view : (r : Report) → IsReport r → IsView (view_of r)
is_view r h = record {
  version = h.version;
  name = h.name;
  options = h.options;
  nodes = h.nodes;
  answer = h.answer;
  count = h.count;
  tree = record { nodes = r.tree.nodes.items; are = (refl, h.fit, h.allowed); spelled = refl };
}

pub one_report : (text : List ℕ) (r s : Report) → IsReportRead text r → IsReportRead text s → AreSame r s
one_report text r s h k =
    same_reports (view_of s) r s h.is_report k.is_report
    (view_back text r (view_of s) h.is_report h.spelled (is_view s k.is_report) (k.spelled ∙ sym (view_is s (view_of s) (is_view_of s))))
    (is_view_of s)

-- and of one claim
abbrev claim : List ℕ → ℕ → Answered → List Node → Claim
claim name nodes answer tree = record { name = name; nodes = nodes; answer = answer; tree = tree }

pub same_claim : (r s : Report) → AreSame r s → claim_of s ≡ claim_of r
same_claim r s h =
    ap (λ (x : List ℕ). claim x s.nodes s.answer s.tree.nodes.items) h.name
    ∙ (ap (λ (x : ℕ). claim r.name x s.answer s.tree.nodes.items) h.nodes
    ∙ (ap (λ (x : Answered). claim r.name r.nodes x s.tree.nodes.items) h.answer
    ∙ ap (λ (x : List Node). claim r.name r.nodes r.answer x) h.tree))

-- ---- the answer

-- where no cause stands, the answer is that all is right
told_done : (t : Table) (f : Function) (r : Report) → HasNoCause t f r → (told : Result (Unit {0}) NoCause)
    → IsTold t f r.options (claim_of r) told → told_status told ≡ Done
told_done t f r none (Ok all) h = refl
told_done t f r none (Err cause) h =
    absurd (none cause (record { model = h.model; is_model = h.is_model; cause = h.by_model }))

module _ (input : List ℕ) (o : Options) (nodes : ℕ) (status : Status)
    (h : IsReportOf (table_of LAST) o nodes (first_part input) status (second_part input)) where
  pub check_input : IsCheckInput input
  check_input = record {
    function = h.function;
    read = h.read;
    report = h.found.report;
    reported = record { is_report = h.found.is_report; spelled = h.found.printed };
  }

  none : HasNoCause (table_of LAST) h.function h.found.report
  none = subst (λ (t : Table). HasNoCause t h.function h.found.report) (table_is (table_of LAST) h.function h.model.ext h.is_model.ext)
      h.found.is_search.accepted

  pub accepted : (told : Status) (line : List ℕ) → IsCheck input told line → told ≡ Done
  accepted told line k =
      let own = k.check.answered in
      let r = h.found.report in
      let same_function : k.function ≡ h.function =
      one_function (shapes_in (first_part input)) k.function h.function k.read.is h.read.is in
      let same = one_report (second_part input) r own.report (record { is_report = h.found.is_report; spelled = h.found.printed }) own.reported in
      let by_version : IsTold (table_of LAST) k.function own.report.options (claim_of own.report) k.check.told =
      subst (λ (v : ℕ). IsTold (table_of v) k.function own.report.options (claim_of own.report) k.check.told)
      (same.version ∙ h.found.is_search.versioned) own.told in
      let by_function : IsTold (table_of LAST) h.function own.report.options (claim_of own.report) k.check.told =
      subst (λ (f : Function). IsTold (table_of LAST) f own.report.options (claim_of own.report) k.check.told) same_function by_version in
      let by_options : IsTold (table_of LAST) h.function r.options (claim_of own.report) k.check.told =
      subst (λ (p : Options). IsTold (table_of LAST) h.function p (claim_of own.report) k.check.told) same.options by_function in
      let by_claim : IsTold (table_of LAST) h.function r.options (claim_of r) k.check.told =
      subst (λ (c : Claim). IsTold (table_of LAST) h.function r.options c k.check.told) (same_claim r own.report same) by_options in
      k.check.ends ∙ told_done (table_of LAST) h.function r none k.check.told by_claim
