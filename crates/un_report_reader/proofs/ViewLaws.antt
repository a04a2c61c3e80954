-- Views of reports: which report one is of, and what reading one answers.
use Rattle.std.proofs.Common.{◌≡◌, ℕ, List, [], ◌++◌, All, Result, Ok, Err, IfOk, IfErr, codes, length, refl, sym, ap, ◌∙◌, subst}
use Rattle.std.proofs.Common.{append_assoc}
use Rattle.un_report.specs.Reports.{answer_text, report_text}
use Rattle.un_report.specs.Views.{IsViewOf, view_text}
use Rattle.un_report.specs.declared.report.Report.{Report}
use Rattle.un_report.specs.declared.report.Answered.{Answered}
use Rattle.un_report.specs.declared.view.ReportView.{ReportView}
use Rattle.un_model.specs.declared.model.Options.{Options}
use Rattle.un_report_reader.proofs.Behind.{behind_head, behind_answer, behind_tree}
use Rattle.un_report_reader.proofs.Once.{tree_once}
use Rattle.un_report_reader.proofs.PartLaws.{error_at_start}
use Rattle.un_report_reader.proofs.Through.{through}
use Rattle.un_report_reader.proofs.WholeTexts.{flat, flat_seam, view_back, error_back}
use Rattle.un_report_reader.specs.Answers.{IsAnswer, answer_lines}
use Rattle.un_report_reader.specs.Errors.{IsErrorAt, IsRead}
use Rattle.un_report_reader.specs.FirstBad.{InVersion, InAnswer, InTree, InEnd}
use Rattle.un_report_reader.specs.Heads.{HeadValue, IsHead, head_text, three}
use Rattle.un_report_reader.specs.Limits.{limits_of, IsAllowed}
use Rattle.un_report_reader.specs.Lines.{version_text, function_text, settings_text, tree_head, end_text}
use Rattle.un_report_reader.specs.Readings.{IsReport, IsView, IsErrorOf, IsViewRead, IsViewBack, IsReportRead, AreSame, IsReportBack}
use Rattle.un_report_reader.specs.Trees.{IsTree, lines_text, tree_lines, IsTreeRead}
use Rattle.un_report_reader.specs.declared.error.ReportError.{ReportError}
use Rattle.un_report_reader.specs.declared.error.ReportError.TheVariants.{NoMemory}
use Rattle.un_report_reader.specs.declared.place.Place.{Place}
use Rattle.un_report_reader.specs.declared.tree.Lines.{Lines}
use Rattle.un_tree.specs.Texts.{tree_text}

-- ---- errors in the parts of a report

pub in_answer : (text : List ℕ) (at : Place) (h : HeadValue) (second : Place) (e : ReportError) → at.rest.now ≡ text → at.lines ≡ 0
    → IsRead IsHead head_text three at h second → IsErrorAt (InAnswer (limits_of h.0)) second e → IsErrorOf text e
in_answer text at h second e same none r bad =
    error_at_start text at e same none (through IsHead head_text three (InAnswer (limits_of h.0)) InVersion at h second r
    (λ t rest line g w b. behind_head h t rest line g w b) e bad)

pub in_tree : (text : List ℕ) (at : Place) (h : HeadValue) (second : Place) (a : Answered) (third : Place) (e : ReportError)
    → at.rest.now ≡ text → at.lines ≡ 0
    → IsRead IsHead head_text three at h second → IsRead (IsAnswer (limits_of h.0)) answer_text answer_lines second a third → IsErrorAt (InTree (limits_of h.0)) third e
    → IsErrorOf text e
in_tree text at h second a third e same none r s bad =
    in_answer text at h second e same none r (through (IsAnswer (limits_of h.0)) answer_text answer_lines (InTree (limits_of h.0)) (InAnswer (limits_of h.0)) second a third s
    (λ t rest line g w b. behind_answer (limits_of h.0) a t rest line g w b) e bad)

pub in_end : (text : List ℕ) (at : Place) (h : HeadValue) (second : Place) (a : Answered) (third : Place) (t : Lines) (fourth : Place)
    (e : ReportError) → at.rest.now ≡ text → at.lines ≡ 0
    → IsRead IsHead head_text three at h second → IsRead (IsAnswer (limits_of h.0)) answer_text answer_lines second a third → IsTreeRead (limits_of h.0) third t fourth
    → IsErrorAt InEnd fourth e → IsErrorOf text e
in_end text at h second a third t fourth e same none r s u bad =
    in_tree text at h second a third e same none r s (through (IsTree (limits_of h.0)) lines_text tree_lines InEnd (InTree (limits_of h.0)) third t fourth u
    (λ x rest line g w b. behind_tree (limits_of h.0) t x rest line g w b) e bad)

-- the parts make a view
pub view_read : (text : List ℕ) (at : Place) (h : HeadValue) (second : Place) (a : Answered) (third : Place) (t : Lines) (fourth : Place)
    (v : ReportView) → at.rest.now ≡ text → IsRead IsHead head_text three at h second
    → IsRead (IsAnswer (limits_of h.0)) answer_text answer_lines second a third → IsTreeRead (limits_of h.0) third t fourth → fourth.rest.now ≡ end_text tt
    → v.version ≡ h.0 → v.name.now ≡ h.1 → v.options ≡ h.2 → v.nodes ≡ h.3 → v.answer ≡ a → v.tree.now ≡ t.text.now → v.count ≡ t.count
    → IsViewRead text v
view_read text at h second a third t fourth v same r s u ends version name options nodes answer tree count = record {
  is_view = record {
    version = rw version (r.is_good.0);
    name = rw name (r.is_good.1);
    options = rw (version, options) (r.is_good.2.0);
    nodes = rw nodes (r.is_good.2.1);
    answer = rw (version, answer) s.is_good;
    count = rw (version, count) u.is_good.0;
    tree = rw (version, tree, count) u.is_good.1;
  };
  spelled = sym same ∙ (whole ∙ (sym (flat_seam h.0 h.1 h.2 h.3 a t.count t.text.now) ∙ sym flats));
}
  where
    lists_seam : (x y z rest : List ℕ) → (x ++ (y ++ z)) ++ rest ≡ x ++ (y ++ (z ++ rest))
    lists_seam x y z rest = append_assoc x (y ++ z) rest ∙ ap (λ (m : List ℕ). x ++ m) (append_assoc y z rest)

    tree_whole : third.rest.now ≡ tree_head t.count ++ (t.text.now ++ codes "end\n")
    tree_whole = u.whole ∙ (ap (λ (m : List ℕ). (tree_head t.count ++ t.text.now) ++ m) ends
        ∙ append_assoc (tree_head t.count) t.text.now (codes "end\n"))

    whole : at.rest.now ≡ version_text h.0 ++ (function_text h.1 ++ (settings_text (h.2, h.3) ++ (answer_text a
        ++ (tree_head t.count ++ (t.text.now ++ codes "end\n")))))
    whole = r.whole ∙ (ap (λ (m : List ℕ). head_text h ++ m) (s.whole ∙ ap (λ (m : List ℕ). answer_text a ++ m) tree_whole)
        ∙ lists_seam (version_text h.0) (function_text h.1) (settings_text (h.2, h.3))
        (answer_text a ++ (tree_head t.count ++ (t.text.now ++ codes "end\n"))))

    flats : view_text v ≡ flat h.0 h.1 h.2 h.3 a t.count t.text.now
    flats = ap (λ (x : ℕ). flat x v.name.now v.options v.nodes v.answer v.count v.tree.now) version
        ∙ (ap (λ (x : List ℕ). flat h.0 x v.options v.nodes v.answer v.count v.tree.now) name
        ∙ (ap (λ (x : Options). flat h.0 h.1 x v.nodes v.answer v.count v.tree.now) options
        ∙ (ap (λ (x : ℕ). flat h.0 h.1 h.2 x v.answer v.count v.tree.now) nodes
        ∙ (ap (λ (x : Answered). flat h.0 h.1 h.2 h.3 x v.count v.tree.now) answer
        ∙ (ap (λ (x : ℕ). flat h.0 h.1 h.2 h.3 a x v.tree.now) count ∙ ap (λ (x : List ℕ). flat h.0 h.1 h.2 h.3 a t.count x) tree)))))

-- ---- what reading a view answers to a report's text

pub view_whole : (text : List ℕ) (result : Result ReportView ReportError) → IfOk result (IsViewRead text) → IfErr result (IsErrorOf text)
    → (r : Report) → IsReport r → text ≡ report_text r → IsViewBack r result
view_whole text (Ok v) ok bad r good is = view_back text r v good is ok.is_view ok.spelled
view_whole text (Err e) ok bad r good is = error_back text r e good is bad

-- ---- a view and the report that it is of

pub view_is : (s : Report) (v : ReportView) → IsViewOf s v → view_text v ≡ report_text s
view_is s v h =
    ap (λ (x : ℕ). flat x v.name.now v.options v.nodes v.answer v.count v.tree.now) h.version
    ∙ (ap (λ (x : List ℕ). flat s.version x v.options v.nodes v.answer v.count v.tree.now) h.name
    ∙ (ap (λ (x : Options). flat s.version s.name x v.nodes v.answer v.count v.tree.now) h.options
    ∙ (ap (λ (x : ℕ). flat s.version s.name s.options x v.answer v.count v.tree.now) h.nodes
    ∙ (ap (λ (x : Answered). flat s.version s.name s.options s.nodes x v.count v.tree.now) h.answer
    ∙ (ap (λ (x : ℕ). flat s.version s.name s.options s.nodes s.answer x v.tree.now) h.count
    ∙ ap (λ (x : List ℕ). flat s.version s.name s.options s.nodes s.answer (length s.tree.nodes.items) x) h.tree)))))

pub report_read : (text : List ℕ) (v : ReportView) (s : Report) → IsViewRead text v → IsReport s → IsViewOf s v → IsReportRead text s
report_read text v s h good of = record { is_report = good; spelled = h.spelled ∙ view_is s v of }

-- one view is of one report
pub same_reports : (v : ReportView) (r s : Report) → IsReport r → IsReport s → IsViewOf r v → IsViewOf s v → AreSame r s
same_reports v r s gr gs of_r of_s =
    let nodes : length s.tree.nodes.items ≡ length r.tree.nodes.items = sym of_s.count ∙ of_r.count in
    let trees : tree_text s.tree.nodes.items ≡ tree_text r.tree.nodes.items = sym of_s.tree ∙ of_r.tree in
    record {
      version = sym of_s.version ∙ of_r.version;
      name = sym of_s.name ∙ of_r.name;
      options = sym of_s.options ∙ of_r.options;
      nodes = sym of_s.nodes ∙ of_r.nodes;
      answer = sym of_s.answer ∙ of_r.answer;
      tree = (tree_once (limits_of r.version) (length r.tree.nodes.items) s.tree.nodes.items r.tree.nodes.items [] []
          (nodes, gs.fit, subst (λ (w : ℕ). All (IsAllowed (limits_of w)) s.tree.nodes.items) (sym of_s.version ∙ of_r.version) gs.allowed)
          (refl, gr.fit, gr.allowed)
          (ap (λ (t : List ℕ). t ++ []) trees)).0;
    }

-- the nodes that are read from a view's lines are those that the lines are of
pub report_made : (v : ReportView) (s : Report) (h : IsView v) → s.version ≡ v.version → s.name ≡ v.name.now → s.options ≡ v.options → s.nodes ≡ v.nodes
    → s.answer ≡ v.answer → s.tree.nodes.items ≡ h.tree.nodes → IsReport s × IsViewOf s v
report_made v s h version name options nodes answer tree =
    let counted = h.tree.are.0 in (
      record {
        version = rw version h.version;
        name = rw name h.name;
        options = rw (version, options) h.options;
        nodes = rw nodes h.nodes;
        answer = rw (version, answer) h.answer;
        count = rw (version, tree, counted) h.count;
        fit = rw tree h.tree.are.1;
        allowed = rw (version, tree) h.tree.are.2;
      },
      record {
        version = sym version;
        name = sym name;
        options = sym options;
        nodes = sym nodes;
        answer = sym answer;
        tree = h.tree.spelled ∙ ap tree_text (sym tree);
        count = sym counted ∙ ap length (sym tree);
      },
    )

pub reports_ok : (text : List ℕ) (v : ReportView) (result : Result Report ReportError) → IsViewRead text v
    → IfOk result (λ s. IsReport s × IsViewOf s v) → IfOk result (IsReportRead text)
reports_ok text v (Err e) h ok = tt
reports_ok text v (Ok s) h ok = report_read text v s h ok.0 ok.1

pub reports_bad : (text : List ℕ) (result : Result Report ReportError) → IfErr result (λ e. e ≡ NoMemory) → IfErr result (IsErrorOf text)
reports_bad text (Ok s) err = tt
reports_bad text (Err e) err = subst (IsErrorOf text) (sym err) tt

pub reports_whole : (text : List ℕ) (v : ReportView) (result : Result Report ReportError)
    → ((r : Report) → IsReport r → text ≡ report_text r → IsViewOf r v) → IfOk result (λ s. IsReport s × IsViewOf s v)
    → IfErr result (λ e. e ≡ NoMemory) → (r : Report) → IsReport r → text ≡ report_text r → IsReportBack r result
reports_whole text v (Ok s) whole ok err r good is = same_reports v r s good ok.0 (whole r good is) ok.1
reports_whole text v (Err e) whole ok err r good is = err
