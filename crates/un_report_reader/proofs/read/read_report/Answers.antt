use Rattle.un_report_reader.proofs.ViewLaws.{reports_ok, reports_bad, reports_whole}
use Rattle.un_report_reader.proofs.read.read_report.Goals as goal

pub report_of-requires : goal.report_of-requires
report_of-requires c = c.in-Ok.ensures.ok.is_view

pub returns-in-Ok-clause-ok : goal.returns-in-Ok-clause-ok
returns-in-Ok-clause-ok c = reports_ok c.args.text.now c.in-Ok.view c.report_of.result c.in-Ok.ensures.ok c.report_of.ensures.ok

pub returns-in-Ok-clause-bad : goal.returns-in-Ok-clause-bad
returns-in-Ok-clause-bad c = reports_bad c.args.text.now c.report_of.result c.report_of.ensures.err

pub returns-in-Ok-clause-whole : goal.returns-in-Ok-clause-whole
returns-in-Ok-clause-whole c =
    reports_whole c.args.text.now c.in-Ok.view c.report_of.result c.in-Ok.ensures.whole c.report_of.ensures.ok c.report_of.ensures.err
