use Rattle.std.proofs.Common.{ℕ, ◌++◌, sym, ap, ◌∙◌}
use Rattle.un_check.specs.Causes.{limit_of}
use Rattle.un_report.specs.Reports.{report_text}
use Rattle.un_top.specs.Generated.{summary_line}
use Rattle.un_top.proofs.SearchLaws.{all_outer}
use Rattle.un_top.proofs.generated.searched.Goals as goal

pub returns-clause-summed : goal.returns-clause-summed
returns-clause-summed c = λ e.
    let a = c.args in
    let r = c.in_ok-report.report in
    let found = c.in_ok-report.ensures.search in
    record {
      report = r;
      found = found;
      room = c.in_ok-report.ensures.room e;
      is_report = c.in_ok-report.ensures.read c.requires.nodes;
      ends = c.status_of.ensures.is;
      printed = c.in_ok-text.ensures
          ∙ ap (λ (n : ℕ). summary_line a.seed a.size a.f.now r n ++ report_text r)
          (sym (all_outer a.m.now (limit_of r.answer) r.tree.nodes.items found.searched));
    }
