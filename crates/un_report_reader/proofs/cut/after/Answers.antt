use Rattle.un_report_reader.proofs.Cuts.{some_after, none_after}
use Rattle.un_report_reader.proofs.cut.after.Goals as goal

pub returns-clause-some : goal.returns-clause-some
returns-clause-some c = some_after c.strip_prefix.result c.args.text.now c.args.start.now c.strip_prefix.ensures.cases

pub returns-clause-none : goal.returns-clause-none
returns-clause-none c = none_after c.strip_prefix.result c.args.text.now c.args.start.now c.strip_prefix.ensures.cases
