use Rattle.std.proofs.Common.{arith}
use Rattle.tests_model.proofs.StoreLaws.{range_is}
use Rattle.tests_model.proofs.relaxed.range.Goals as goal

pub returns-then-hi-lt10000 : goal.returns-then-hi-lt10000
returns-then-hi-lt10000 c = range_is c.args.lo c.args.hi (omega arith) (omega arith)
