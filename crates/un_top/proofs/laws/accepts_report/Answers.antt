use Rattle.un_top.proofs.Accepted.{check_input, accepted}
use Rattle.un_top.proofs.laws.accepts_report.Goals as goal

pub returns-clause-input : goal.returns-clause-input
returns-clause-input c = check_input c.args.input.now

pub returns-clause-accepted : goal.returns-clause-accepted
returns-clause-accepted c = accepted c.args.input.now
