use Rattle.std.proofs.Common.{sym, ◌∙◌}
use Rattle.un_judge.proofs.Takings.{not_there}
use Rattle.un_judge.proofs.leaf.take_value.Goals as goal

pub returns-else-has-clause-sets : goal.returns-else-has-clause-sets
returns-else-has-clause-sets c = not_there c.args.cuts.now.sets c.args.v.0 c.args.y (sym c.has.ensures ∙ c.if-has.false)
