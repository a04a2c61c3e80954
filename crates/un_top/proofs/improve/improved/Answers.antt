use Rattle.un_model.specs.Cost.{cost_of}
use Rattle.un_top.proofs.SearchLaws.{within_more}
use Rattle.un_top.proofs.improve.improved.Goals as goal

pub returns-clause-found : goal.returns-clause-found
returns-clause-found c = record {
  report = c.in_ok-report.report;
  is_search = c.in_ok-report.ensures.search;
  is_so = within_more c.in_ok-report.report.answer (cost_of c.args.m.now c.in_ok-start.start) (cost_of c.args.m.now c.args.s.now)
      c.in_ok-start.ensures.no_dearer c.in_ok-report.ensures.no_worse;
  is_report = c.in_ok-report.ensures.read c.requires.nodes;
  ends = c.in_ok-output.ensures.ends;
  printed = c.in_ok-output.ensures.printed;
}
