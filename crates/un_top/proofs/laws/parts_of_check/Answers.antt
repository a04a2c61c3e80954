use Rattle.un_top.proofs.CheckTexts.{check_first, check_second}
use Rattle.un_top.proofs.laws.parts_of_check.Goals as goal

pub returns-clause-first : goal.returns-clause-first
returns-clause-first c = λ f read. check_first c.args.text.now c.args.report.now f c.requires.lines read

pub returns-clause-second : goal.returns-clause-second
returns-clause-second c = λ f read. check_second c.args.text.now c.args.report.now f c.requires.lines read
