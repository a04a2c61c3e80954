use Rattle.un_top.proofs.produce.found.Goals as goal

pub returns-clause-found : goal.returns-clause-found
returns-clause-found c = λ e. record {
  report = c.in_ok-report.report;
  is_search = c.in_ok-report.ensures.search;
  is_so = c.in_ok-report.ensures.room e;
  is_report = c.in_ok-report.ensures.read c.requires.nodes;
  ends = c.in_ok-output.ensures.ends;
  printed = c.in_ok-output.ensures.printed;
}
