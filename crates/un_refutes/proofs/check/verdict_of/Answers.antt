use Rattle.un_refutes.proofs.WalkLemmas.{ends_inside, ends_well}
use Rattle.un_refutes.proofs.check.verdict_of.Goals as goal

pub returns-then-walk : goal.returns-then-walk
returns-then-walk c m limit nodes h = ends_inside m limit nodes c.args.walk.now h c.if-walk.true

pub returns-else-walk : goal.returns-else-walk
returns-else-walk c m limit nodes h = ends_well m limit nodes c.args.walk.now h c.if-walk.false
