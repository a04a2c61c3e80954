use Rattle.un_report_reader.proofs.ViewLaws.{view_whole}
use Rattle.un_report_reader.proofs.read.read_view.Goals as goal

pub returns-clause-whole : goal.returns-clause-whole
returns-clause-whole c = view_whole c.args.text.now c.view.result c.view.ensures.ok c.view.ensures.bad
