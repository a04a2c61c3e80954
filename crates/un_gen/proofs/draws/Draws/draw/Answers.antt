use Rattle.un_gen.proofs.DrawLaws.{next_is, answer_is}
use Rattle.un_gen.proofs.draws.Draws.draw.Goals as goal

pub returns-clause-state : goal.returns-clause-state
returns-clause-state c = next_is c.args.self.now.state

pub returns-clause-value : goal.returns-clause-value
returns-clause-value c = answer_is c.args.self.now.state c.args.below
