use Rattle.un_top.proofs.SearchLaws.{start_is, room_used}
use Rattle.un_top.proofs.search.search_report.Goals as goal

pub report_from-requires-clause-start : goal.report_from-requires-clause-start
report_from-requires-clause-start c = start_is c.args.f.now c.args.m.now c.in_ok-start.start c.in_ok-start.ensures

pub returns-clause-room : goal.returns-clause-room
returns-clause-room c =
    room_used c.args.f.now c.args.m.now c.in_ok-start.start c.in_ok-report.report.answer c.in_ok-start.ensures c.in_ok-report.ensures.no_worse
