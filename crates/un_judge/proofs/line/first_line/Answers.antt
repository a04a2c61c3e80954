use Rattle.un_judge.proofs.Spellings.{some_by, begins_unfed, begins_fed}
use Rattle.un_judge.proofs.line.first_line.Goals as goal

pub returns-in-None : goal.returns-in-None
returns-in-None c = begins_unfed c.args.rules c.args.text.now (some_by c.args.text.now c.if-is_empty.ensures) c.in-None.ensures.none

pub returns-in-Some : goal.returns-in-Some
returns-in-Some c =
    begins_fed c.args.rules c.args.text.now c.in-Some.line.now c.in-Some.rest.now c.line_of.result c.in-Some.ensures.some c.line_of.ensures
