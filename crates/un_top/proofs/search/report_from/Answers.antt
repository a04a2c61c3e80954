use Rattle.un_top.proofs.SearchLaws.{search_is, search_no_worse}
use Rattle.un_top.proofs.Written.{is_report}
use Rattle.un_top.proofs.search.report_from.Goals as goal

pub returns-clause-search : goal.returns-clause-search
returns-clause-search c =
    let s = c.in_ok-solved.ensures in
    search_is c.args.f.now c.args.m.now c.requires.problem c.args.nodes c.args.start c.in_ok-solved.solved c.in_ok-report.report (record {
      solution = s.solution;
      no_dearer = s.no_dearer;
      tight = s.tight;
      tree = s.tree;
      bound = s.bound;
      least = s.least;
      equal = s.equal;
      started = s.started;
      infeasible = s.infeasible;
      none = s.none;
      spent = s.spent;
    }) c.in_ok-report.ensures

pub returns-clause-no_worse : goal.returns-clause-no_worse
returns-clause-no_worse c =
    let s = c.in_ok-solved.ensures in
    search_no_worse c.args.f.now c.args.m.now c.requires.problem c.args.nodes c.args.start c.in_ok-solved.solved c.in_ok-report.report (record {
      solution = s.solution;
      no_dearer = s.no_dearer;
      tight = s.tight;
      tree = s.tree;
      bound = s.bound;
      least = s.least;
      equal = s.equal;
      started = s.started;
      infeasible = s.infeasible;
      none = s.none;
      spent = s.spent;
    }) c.in_ok-report.ensures

pub returns-clause-read : goal.returns-clause-read
returns-clause-read c = λ count.
    let found = returns-clause-search c in
    is_report c.args.f.now c.args.m.now c.args.nodes c.in_ok-report.report c.requires.problem found.versioned found.chosen found.budget found.sound found.searched found.few
    c.in_ok-report.ensures.long count
