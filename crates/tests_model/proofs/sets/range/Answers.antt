use Rattle.tests_model.proofs.StoreLaws.{range_is}
use Rattle.tests_model.proofs.sets.range.Goals as goal

pub returns-then-hi-lt10000 : goal.returns-then-hi-lt10000
returns-then-hi-lt10000 c = range_is c.args.lo c.args.hi c.if-lo-hi.true c.if-hi-lt10000.true
