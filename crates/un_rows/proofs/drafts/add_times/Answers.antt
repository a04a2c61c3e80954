use Rattle.un_rows.proofs.Walks.{times_more, times_done}
use Rattle.std.proofs.Common.{arith}
use Rattle.un_rows.proofs.drafts.add_times.Goals as goal

pub loop-preserved : goal.loop-preserved
loop-preserved c =
    times_more c.args.one c.args.many c.loop.counter c.loop.list c.push.new.self _ (omega (arith, c.loop-test.true)) c.loop.invariant
    c.in_ok-push.ensures.ok

pub returns : goal.returns
returns c = times_done c.args.one c.args.many c.loop.counter c.loop.list _ (omega (arith, c.loop-test.false)) c.loop.invariant
